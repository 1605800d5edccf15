-- How many bytes a right answer takes.
use Rattle.std.proofs.Common.{◌≡◌, ℕ, ◌+◌, ◌*◌, ◌≤◌, Bool, true, false, eqb, List, length, arith}
use Rattle.std.proofs.lemmas.Bool.{and_parts}
use Rattle.std.proofs.lemmas.List.{length-append}
use Rattle.streets.specs.Streets.{Street, Leg, goes, all_gone, is_round, AtMostTwice}
use Rattle.streets.specs.Protocol.{turned, right_if}
use Rattle.streets.specs.Calls.{Call, opens, closes, odd, round, garbled, Answer, refused, number, shortest, some_round, never, Limits, may_say, town}
use Rattle.streets.proofs.Counts.{few_legs}
use Rattle.wire.specs.Rows.{word}
use Rattle.wire.specs.Format.{legs_row, answer_row}
use Rattle.wire.specs.Laws.{Room}
use Rattle.wire.proofs.Pairs.{length-legs_row}

abbrev pub legs_of : Answer → ℕ
legs_of (refused k p) = 0
legs_of (number n) = 0
legs_of (shortest ls) = length ls
legs_of (some_round ls low) = length ls
legs_of never = 0

-- an answer with at most two legs for each of n streets
short_answer : (a : Answer) (n : ℕ) → legs_of a ≤ 2 * n → length (answer_row a) ≤ 4 * n + 16
short_answer (refused k p) n h = omega arith
short_answer (number m) n h = omega arith
short_answer (shortest ls) n h = omega (arith, length-legs_row ls)
short_answer (some_round ls low) n h = omega (arith, length-legs_row ls, length-append (legs_row ls) (word low))
short_answer never n h = omega arith

round_legs : (ss : List Street) (c : ℕ) (ls : List Leg) → is_round ss c ls ≡ true → AtMostTwice ls (length ss) → length ls ≤ 2 * length ss
round_legs ss c ls h t = few_legs ss c ls c (and_parts (goes ss c ls c) (all_gone ls (length ss)) h).0 t

said_legs : (l : Limits) (ss : List Street) (c : Call) (a : Answer) → may_say l ss c a → legs_of a ≤ 2 * length ss
unfolding may_say
said_legs l ss (opens x y n) a h = rw h (omega arith)
said_legs l ss (closes i) a h = rw h (omega arith)
said_legs l ss odd a h = rw h (omega arith)
said_legs l ss (round c) (shortest ls) h = round_legs ss c ls h.0.goes_all h.1
said_legs l ss (round c) (some_round ls low) h = round_legs ss c ls h.1.goes_all h.2
said_legs l ss (round c) never h = omega arith
said_legs l ss (round c) (refused k p) h = absurd h
said_legs l ss (round c) (number n) h = absurd h
said_legs l ss (garbled p) a h = absurd h

right_legs : (b : Bool) (l : Limits) (ss : List Street) (c : Call) (a : Answer) → right_if (town l) b ss c a → legs_of a ≤ 2 * length ss
right_legs true l ss c a h = said_legs l ss c a h
right_legs false l ss c a h = rw h (omega arith)

pub room : Room
room l ss c a h = short_answer a (length ss) (right_legs (eqb (turned (town l) ss c) 0) l ss c a h)
