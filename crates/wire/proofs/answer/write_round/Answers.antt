use Rattle.std.proofs.Common.{◌≡◌, map, length, arith, rules}
use Rattle.std.proofs.lemmas.List.{length-map}
use Rattle.std.proofs.lemmas.Bool.Decides.{nat_tests}
use Rattle.streets.specs.Meaning.{as_leg}
use Rattle.wire.specs.Format.{answer_row}
use Rattle.wire.specs.Meaning.{as_round}
use Rattle.wire.proofs.Puts.{unwritten}
use Rattle.wire.proofs.Pairs.{short_legs}
use Rattle.wire.proofs.Rounds.{round_written, length_round, size_counted, legs_handed_on}
use Rattle.wire.proofs.answer.write_round.Goals as goal

pub returns-then-bytes-size : goal.returns-then-bytes-size
returns-then-bytes-size c =
    let ls = map as_leg c.args.legs.now in
    let row = answer_row (as_round ls c.args.low) in
    let n : c.in_ok-count.count ≡ length ls = simp length-map (search rules) in
    let size : c.size.result ≡ length row = size_counted ls c.args.low n c.counting-answer.ensures c.size.ensures.is in
    unwritten _ row c.args.bytes.now (grind (arith, nat_tests))

pub returns : goal.returns
returns c =
    let ls = map as_leg c.args.legs.now in
    let row = answer_row (as_round ls c.args.low) in
    let n : c.in_ok-count.count ≡ length ls = simp length-map (search rules) in
    let size : c.size.result ≡ length row = size_counted ls c.args.low n c.counting-answer.ensures c.size.ensures.is in
    let handed = legs_handed_on as_leg c.args.legs.now c.args.bytes.now c.write_legs.new.part (omega (arith, length_round ls c.args.low, length-map c.args.legs.now as_leg)) c.write_legs.ensures.after in
    round_written _ ls c.args.low (short_legs c.args.legs.now) n c.counting-answer.ensures (grind (arith, nat_tests)) (omega arith) handed c.write.ensures
