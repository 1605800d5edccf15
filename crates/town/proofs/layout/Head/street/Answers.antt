use Rattle.town.proofs.Layouts.{ends_short}
use Rattle.town.proofs.layout.Head.street.Goals as goal

pub street_at-requires-clause-short : goal.street_at-requires-clause-short
street_at-requires-clause-short c = ends_short c.args.self.now.ready c.args.i c.requires
