use Rattle.reach.proofs.Listing.{answered}
use Rattle.reach.proofs.parity.odd.Goals as goal

pub returns : goal.returns
returns c = answered c.args.town.now.sound c.odd_corners.ensures.count
