use Rattle.streets.proofs.Rounds.{a_round}
use Rattle.streets.proofs.theorems.a_round.Goals as goal

pub returns : goal.returns
returns c = a_round
