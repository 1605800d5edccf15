-- The reply to a call, and its text.
use Rattle.std.specs.Prelude.{◌≡◌, ℕ, Bool, true, false, List, ◌++◌, Ok, Err, codes, decimal, Result}
use Rattle.streets.specs.Calls.{Call, opens, closes, odd, round, garbled}
use Rattle.town.specs.Meaning.{refusal_number, refusal_place, answered}
use Rattle.town.specs.Changes.{Called}
use Rattle.desk.specs.declared.refused.Refused.{Refused}
use Rattle.desk.specs.declared.refused.Refused.TheVariants.{Unread, Turned}
use Rattle.desk.specs.declared.reply.Reply.{Reply}
use Rattle.desk.specs.declared.reply.Reply.TheVariants.{Number, Odd, Round}

abbrev pub changes : Call → Bool
changes (opens a b n) = true
changes (closes i) = true
changes odd = false
changes (round c) = false
changes (garbled p) = false

-- a call that changes streets has its answer; the others have none yet and change nothing
abbrev pub Replied : List ℕ → Call → Result Reply Refused → List ℕ → Type 0
Replied m c (Ok (Number n)) m' = (changes c ≡ true) × Called m c (answered (Ok n)) m'
Replied m c (Ok Odd) m' = (c ≡ odd) × (m' ≡ m)
Replied m c (Ok (Round k)) m' = (c ≡ round k) × (m' ≡ m)
Replied m c (Err (Turned e)) m' = (changes c ≡ true) × Called m c (answered (Err e)) m'
Replied m c (Err (Unread e)) m' = (c ≡ garbled e.place) × (m' ≡ m)

-- a call without an answer is printed as it was read
abbrev pub reply_text : Reply → List ℕ
reply_text (Number n) = decimal n
reply_text Odd = codes "odd"
reply_text (Round k) = codes "round " ++ decimal k

abbrev pub unreadable : Refused → Bool
unreadable (Unread e) = true
unreadable (Turned e) = false

abbrev pub number_of : Refused → ℕ
number_of (Unread e) = 1
number_of (Turned e) = refusal_number e

abbrev pub place_of : Refused → ℕ
place_of (Unread e) = e.place
place_of (Turned e) = refusal_place e

abbrev pub refused_text : ℕ → ℕ → List ℕ
refused_text k p = codes "refused " ++ (decimal k ++ (codes " at " ++ decimal p))
