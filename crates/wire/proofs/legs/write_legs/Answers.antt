use Rattle.std.proofs.Common.{refl, rules}
use Rattle.wire.specs.Format.{legs_row}
use Rattle.wire.proofs.Pairs.{legs_more}
use Rattle.wire.proofs.legs.write_legs.Goals as goal

pub loop-k-init : goal.loop-k-init
unfolding legs_row
loop-k-init c = refl

pub loop-k-preserved : goal.loop-k-preserved
loop-k-preserved c = search (rules, legs_more)
