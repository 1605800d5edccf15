-- The calls and answers that the code's enums stand for.
use Rattle.std.specs.Prelude.{ℕ, ◌+◌, ◌*◌, ◌&&◌, List, length, Some, None, Ok, Err, Option, Result}
use Rattle.streets.specs.Streets.{Leg}
use Rattle.streets.specs.Calls.{Call, opens, closes, odd, round, Answer, refused, number, shortest, some_round, never}
use Rattle.streets.specs.Promise.{field}
use Rattle.wire.specs.Rows.{room, WrittenIf}
use Rattle.wire.specs.Format.{legs_in, answer_row}
use Rattle.wire.specs.declared.answer.Answer.{Answer as AnswerEnum}
use Rattle.wire.specs.declared.answer.Answer.TheVariants.{Refused, Number, Shortest, SomeRound, Never}
use Rattle.wire.specs.declared.unreadable.Unreadable.{Unreadable}
use Rattle.wire.specs.declared.call.Call.{Call as CallEnum}
use Rattle.wire.specs.declared.call.Call.TheVariants.{Open, Close, Odd, Round}

abbrev pub as_call : CallEnum → Call
as_call (Open a b n) = opens a b n
as_call (Close i) = closes i
as_call Odd = odd
as_call (Round c) = round c

-- an answer whose legs are in these bytes
abbrev pub as_answer : List ℕ → AnswerEnum → Answer
as_answer part (Refused k p) = refused k p
as_answer part (Number n) = number n
as_answer part (Shortest n) = shortest (legs_in n part)
as_answer part (SomeRound n low) = some_round (legs_in n part) low
as_answer part Never = never

-- the length of its row
abbrev pub answer_size : AnswerEnum → ℕ
answer_size (Refused k p) = 9
answer_size (Number n) = 5
answer_size (Shortest n) = 5 + 2 * n
answer_size (SomeRound n low) = 9 + 2 * n
answer_size Never = 1

-- the answer of a round: as a shortest one, or with a lower bound
abbrev pub as_round : List Leg → Option ℕ → Answer
as_round ls None = shortest ls
as_round ls (Some low) = some_round ls low

-- that answer is written with its legs, if their count fits four bytes
abbrev pub RoundWritten : List Leg → Option ℕ → List ℕ → Option ℕ → List ℕ → Type 0
RoundWritten ls low before r after =
    WrittenIf (field (length ls) && room (answer_row (as_round ls low)) before) (answer_row (as_round ls low)) before r after

-- the same answer by its count of legs
abbrev pub counted : ℕ → Option ℕ → AnswerEnum
counted n None = Shortest n
counted n (Some low) = SomeRound n low

-- the meaning of what was read, or the place at which reading failed
abbrev pub read_as : {A B : Type 0} → (A → B) → Result A Unreadable → Result B ℕ
read_as f (Ok a) = Ok (f a)
read_as f (Err e) = Err e.place
