-- What opening a town, and a call, do to memory.
use Rattle.std.specs.Prelude.{◌≡◌, ℕ, ◌<◌, Bool, ◌&&◌, List, [], ◌∷◌, length, drop, Ok, Err, Result, nat_le}
use Rattle.streets.specs.Protocol.{Check, asking, first_number, first_place, turned, after, right}
use Rattle.streets.specs.Calls.{Limits, most_corners, most_streets, Call, Answer, town}
use Rattle.town.specs.Layout.{limits_in, streets_in, words}
use Rattle.town.specs.Town.{Town}
use Rattle.town.specs.Meaning.{refusal_number, refusal_place}
use Rattle.town.specs.declared.refusal.Refusal.{Refusal as RefusalEnum}

abbrev pub in_range : Limits → Bool
in_range l = nat_le 1 l.corners && (nat_le l.corners most_corners && nat_le l.streets most_streets)

-- the checks of opening a town in n words of memory
abbrev pub opening : Limits → ℕ → List Check
opening l n = asking 3 0 (in_range l) ∷ asking 3 1 (nat_le (words l) n) ∷ []

-- number and place of what was refused; 0 where nothing was
abbrev pub told_number : {A : Type 0} → Result A RefusalEnum → ℕ
told_number (Ok _) = 0
told_number (Err e) = refusal_number e

abbrev pub told_place : {A : Type 0} → Result A RefusalEnum → ℕ
told_place (Ok _) = 0
told_place (Err e) = refusal_place e

-- opening is refused by the first check that fails, and memory is as it was; else memory holds the town without streets. What lies behind the words that it asks for stays
pub record Opened {A : Type 0} (l : Limits) (m : List ℕ) (r : Result A RefusalEnum) (m' : List ℕ) : Type 0 where
  pub number : told_number r ≡ first_number (opening l (length m))
  pub place : told_place r ≡ first_place (opening l (length m))
  pub holds : told_number r ≡ 0 → Town l m' []
  pub kept : 0 < told_number r → m' ≡ m
  pub behind : drop (words l) m' ≡ drop (words l) m

-- the answer a to the call c is right by the streets before it, memory holds the town after it, a refused call leaves memory as it was, and no call changes what lies behind the town's words
pub record Called (m : List ℕ) (c : Call) (a : Answer) (m' : List ℕ) : Type 0 where
  pub says : right (town (limits_in m)) (streets_in m) c a
  pub holds : Town (limits_in m) m' (after (town (limits_in m)) (streets_in m) c)
  pub kept : 0 < turned (town (limits_in m)) (streets_in m) c → m' ≡ m
  pub behind : drop (words (limits_in m)) m' ≡ drop (words (limits_in m)) m
