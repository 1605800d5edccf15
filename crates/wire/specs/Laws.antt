-- Round trips of the format, and its room, as types: a proof is a term of the type.
use Rattle.std.specs.Prelude.{◌≡◌, ℕ, ◌+◌, ◌*◌, ◌≤◌, true, List, ◌++◌, length, Ok}
use Rattle.streets.specs.Streets.{Street}
use Rattle.streets.specs.Protocol.{right}
use Rattle.streets.specs.Calls.{Call, Limits, town, Answer, refused, number, shortest, some_round, never}
use Rattle.streets.specs.Promise.{readable}
use Rattle.wire.specs.Rows.{Bytes, Word}
use Rattle.wire.specs.Format.{call_row, call_in, answer_row, answer_in, first_row, Short}
use Rattle.wire.specs.Meaning.{as_call}
use Rattle.wire.specs.declared.call.Call.{Call as CallEnum}

-- written and read again, a call is the same, if its fields fit four bytes
abbrev pub CallAgain : Type 0
CallAgain = (c : CallEnum) → readable (as_call c) ≡ true → call_in (call_row (as_call c)) ≡ Ok (as_call c)

-- read and written again, a row is the same
abbrev pub CallRowAgain : Type 0
CallRowAgain = (row : List ℕ) (c : Call) → Bytes row → call_in row ≡ Ok c → call_row c ≡ row

-- so different rows are different calls
abbrev pub OneCallRow : Type 0
OneCallRow = (row row' : List ℕ) (c : Call) → Bytes row → Bytes row' → call_in row ≡ Ok c → call_in row' ≡ Ok c → row ≡ row'

-- whatever follows it, a call's row is cut off whole
abbrev pub FirstRow : Type 0
FirstRow = (c : CallEnum) (rest : List ℕ) → first_row (call_row (as_call c) ++ rest) ≡ call_row (as_call c)

-- answers that the format can carry
abbrev pub Carried : Answer → Type 0
Carried (refused k p) = Word k × Word p
Carried (number n) = Word n
Carried (shortest ls) = Word (length ls) × Short ls
Carried (some_round ls low) = Word (length ls) × Short ls × Word low
Carried never = Unit {0}

abbrev pub AnswerAgain : Type 0
AnswerAgain = (a : Answer) → Carried a → answer_in (answer_row a) ≡ Ok a

abbrev pub AnswerRowAgain : Type 0
AnswerRowAgain = (row : List ℕ) (a : Answer) → Bytes row → answer_in row ≡ Ok a → answer_row a ≡ row

-- no right answer of a town takes more than four bytes for each street, and 16
abbrev pub Room : Type 0
Room = (l : Limits) (ss : List Street) (c : Call) (a : Answer) → right (town l) ss c a → length (answer_row a) ≤ 4 * length ss + 16
