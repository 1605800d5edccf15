-- The bytes that stand for kinds of calls and answers, and the kinds of the code's enums.
use Rattle.std.specs.Prelude.{◌≡◌, ℕ, ◌<◌, Result, MatchResult}
use Rattle.wire.specs.declared.unreadable.Unreadable.{Unreadable}
use Rattle.wire.specs.declared.kind.CallKind.{CallKind}
use Rattle.wire.specs.declared.kind.AnswerKind.{AnswerKind}
use Rattle.wire.specs.declared.kind.CallKind.TheVariants as calls
use Rattle.wire.specs.declared.kind.AnswerKind.TheVariants as answers
use Rattle.wire.specs.declared.call.Call.{Call}
use Rattle.wire.specs.declared.call.Call.TheVariants.{Open, Close, Odd, Round}
use Rattle.wire.specs.declared.answer.Answer.{Answer}
use Rattle.wire.specs.declared.answer.Answer.TheVariants.{Refused, Number, Shortest, SomeRound, Never}

-- the byte that stands for a kind
abbrev pub call_code : CallKind → ℕ
call_code calls.Open = 0
call_code calls.Close = 1
call_code calls.Odd = 2
call_code calls.Round = 3

abbrev pub answer_code : AnswerKind → ℕ
answer_code answers.Refused = 0
answer_code answers.Number = 1
answer_code answers.Shortest = 2
answer_code answers.SomeRound = 3
answer_code answers.Never = 4

-- how many bytes of fields an answer has beside its legs
abbrev pub answer_fields : AnswerKind → ℕ
answer_fields answers.Refused = 8
answer_fields answers.Number = 4
answer_fields answers.Shortest = 4
answer_fields answers.SomeRound = 8
answer_fields answers.Never = 0

-- the result is the kind with this code, or the place of a code that no kind has
abbrev pub ReadsCallKind : ℕ → Result CallKind Unreadable → Type 0
ReadsCallKind k r = MatchResult r (λ kind. call_code kind ≡ k) (λ e. (e.place ≡ 0) × (3 < k))

abbrev pub ReadsAnswerKind : ℕ → Result AnswerKind Unreadable → Type 0
ReadsAnswerKind k r = MatchResult r (λ kind. answer_code kind ≡ k) (λ e. (e.place ≡ 0) × (4 < k))

-- what kind of row it has
abbrev pub call_kind : Call → CallKind
call_kind (Open a b n) = calls.Open
call_kind (Close i) = calls.Close
call_kind Odd = calls.Odd
call_kind (Round c) = calls.Round

abbrev pub answer_kind : Answer → AnswerKind
answer_kind (Refused k p) = answers.Refused
answer_kind (Number n) = answers.Number
answer_kind (Shortest n) = answers.Shortest
answer_kind (SomeRound n low) = answers.SomeRound
answer_kind Never = answers.Never
