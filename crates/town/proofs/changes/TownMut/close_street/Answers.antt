use Rattle.town.proofs.Holding.{sound, changed}
use Rattle.town.proofs.Calling.{can_remove, removed}
use Rattle.town.proofs.changes.TownMut.close_street.Goals as goal

pub remove-requires : goal.remove-requires
remove-requires c =
    let can = can_remove c.args.self.now.memory.now c.args.i {i' = c.in-Some.i} (cc) c.args.self.now.sound (rw c.read-town.ensures at c.words-n.ensures) in
    record { holds = can.0; there = can.1 }

pub invariant_of-self : goal.invariant_of-self
invariant_of-self c = record { sound = sound (changed c.args.self.now.sound (rw c.read-town.ensures at c.words-n.ensures) _ c.remove.auto.town c.remove.ensures) }

pub returns-clause-called : goal.returns-clause-called
returns-clause-called c = removed c.args.self.now.memory.now _ (cc) c.args.self.now.sound (rw c.read-town.ensures at c.words-n.ensures) c.remove.auto.town c.remove.ensures
