use Rattle.streets.proofs.Degrees.{once_each}
use Rattle.streets.proofs.theorems.once_each.Goals as goal

pub returns : goal.returns
returns c = once_each
