use Rattle.town.proofs.Changing.{front_added}
use Rattle.town.proofs.Layouts.{ready, relisted}
use Rattle.town.proofs.changes.add.Goals as goal

pub write_lists-requires : goal.write_lists-requires
write_lists-requires c = ready (front_added c.requires.holds.front c.count-n.ensures c.requires.free c.requires.fit c.put_street.ensures c.set_count.ensures)

pub returns : goal.returns
returns c = relisted (front_added c.requires.holds.front c.count-n.ensures c.requires.free c.requires.fit c.put_street.ensures c.set_count.ensures) c.write_lists.ensures
