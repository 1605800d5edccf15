use Rattle.town.proofs.Changing.{front_removed}
use Rattle.town.proofs.Layouts.{ready, relisted}
use Rattle.town.proofs.changes.remove.Goals as goal

pub write_lists-requires : goal.write_lists-requires
write_lists-requires c =
    let moved = c.move_down.ensures in
    ready (front_removed c.requires.holds.front _ _ c.requires.there c.count-n.ensures c.move_down.auto.memory moved.moved moved.before c.set_count.ensures)

pub returns : goal.returns
returns c =
    let moved = c.move_down.ensures in
    relisted (front_removed c.requires.holds.front _ _ c.requires.there c.count-n.ensures c.move_down.auto.memory moved.moved moved.before c.set_count.ensures) c.write_lists.ensures
