use Rattle.std.proofs.Common.{sym}
use Rattle.town.proofs.Calling.{town_begun}
use Rattle.town.proofs.changes.open_town.Goals as goal

pub returns : goal.returns
returns c = town_begun _ _ (sym c.in-Some.ensures) (sym c.in-Some-fitting.ensures) c.words.ensures.is c.begin.auto.town c.begin.ensures
