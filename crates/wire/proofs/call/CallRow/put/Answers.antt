use Rattle.std.proofs.Common.{[], ◌∷◌, ◌++◌, refl, arith}
use Rattle.wire.specs.Rows.{word}
use Rattle.wire.proofs.Puts.{put_first, put_then}
use Rattle.wire.proofs.call.CallRow.put.Goals as goal

pub returns-in-Open : goal.returns-in-Open
returns-in-Open c =
    let room = rw c.in-Open.is at c.requires in
    let kind = rw c.in-Open.is at c.kind.ensures in
    let b = c.args.bytes.now in
    let one = word c.in-Open.one in
    let other = word c.in-Open.other in
    let first = put_then b (0 ∷ []) one 1 (put_first b 0 (omega arith)) (rw kind at c.put_word.ensures) refl in
    let second = put_then b (0 ∷ one) other 5 first c.put_word-in-Open.ensures refl in
    rw c.in-Open.is (put_then b (0 ∷ (one ++ other)) (word c.in-Open.long) 9 second c.put_word-in-Open-2.ensures refl)
