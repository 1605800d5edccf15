-- What the code's structs and enums stand for.
use Rattle.std.specs.Prelude.{ℕ, Ok, Err, Result}
use Rattle.streets.specs.Calls.{Limits, limiting, Answer, number, refused}
use Rattle.town.specs.declared.limit.Limits.{Limits as LimitsStruct}
use Rattle.town.specs.declared.refusal.Refusal.{Refusal as RefusalEnum}
use Rattle.town.specs.declared.refusal.Refusal.TheVariants as case

abbrev pub as_limits : LimitsStruct → Limits
as_limits l = limiting l.corners l.streets

abbrev pub refusal_number : RefusalEnum → ℕ
refusal_number case.NotThere = 4
refusal_number case.Length = 2
refusal_number case.OutOfRange = 3
refusal_number case.TooLittle = 3
refusal_number case.Full = 5

abbrev pub refusal_place : RefusalEnum → ℕ
refusal_place case.NotThere = 0
refusal_place case.Length = 2
refusal_place case.OutOfRange = 0
refusal_place case.TooLittle = 1
refusal_place case.Full = 0

-- the answer to a call that is answered with a number
abbrev pub answered : Result ℕ RefusalEnum → Answer
answered (Ok n) = number n
answered (Err e) = refused (refusal_number e) (refusal_place e)
