use Rattle.std.proofs.Common.{drop, arith}
use Rattle.std.proofs.lemmas.List.{length-append, length-take, length-drop, length-set}
use Rattle.wire.specs.declared.answer.Answer.TheVariants.{Shortest, SomeRound}
use Rattle.wire.proofs.Rounds.{length_answer_row, shortest_written, some_round_written}
use Rattle.wire.proofs.answer.AnswerRow.put.Goals as goal

pub put_word-requires-in-SomeRound-2 : goal.put_word-requires-in-SomeRound-2
put_word-requires-in-SomeRound-2 c =
    let size = length_answer_row (drop 5 c.args.bytes.now) (SomeRound c.in-SomeRound.legs c.in-SomeRound.low) in
    let room = rw c.in-SomeRound.is at c.requires in
    rw c.put_word-in-SomeRound.ensures (simp (length-append, length-take, length-drop, length-set) (omega arith))

pub returns-in-Shortest : goal.returns-in-Shortest
returns-in-Shortest c =
    let b = c.args.bytes.now in
    let size = length_answer_row (drop 5 b) (Shortest c.in-Shortest.legs) in
    let room = rw c.in-Shortest.is at c.requires in
    let kind = rw c.in-Shortest.is at c.kind.ensures in
    rw c.in-Shortest.is (shortest_written c.in-Shortest.legs b c.put_word-in-Shortest.new.bytes (omega arith) (rw kind at c.put_word-in-Shortest.ensures) (λ k. (c.type_inv.bytes k).fits))

pub returns-in-SomeRound : goal.returns-in-SomeRound
returns-in-SomeRound c =
    let b = c.args.bytes.now in
    let size = length_answer_row (drop 5 b) (SomeRound c.in-SomeRound.legs c.in-SomeRound.low) in
    let room = rw c.in-SomeRound.is at c.requires in
    let kind = rw c.in-SomeRound.is at c.kind.ensures in
    rw c.in-SomeRound.is (some_round_written c.in-SomeRound.legs b c.put_word-in-SomeRound.new.bytes c.in-SomeRound.low c.put_word-in-SomeRound-2.new.bytes (omega arith) (rw kind at c.put_word-in-SomeRound.ensures) c.put_word-in-SomeRound-2.ensures (λ k. (c.type_inv.bytes k).fits))
