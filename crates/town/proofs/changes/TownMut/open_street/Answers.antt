use Rattle.town.proofs.Holding.{sound, changed}
use Rattle.town.proofs.Calling.{adds, added}
use Rattle.town.proofs.changes.TownMut.open_street.Goals as goal

pub add-requires : goal.add-requires
add-requires c =
    let can = adds c.args.self.now.memory.now c.args.one c.args.other c.args.long {i = c.in-Some-next_number.i} c.new.ensures (cc) (cc) (cc) (cc) c.args.self.now.sound (rw c.read-town.ensures at c.words-n.ensures) in
    record { holds = can.0; free = can.1; fit = can.2 }

pub invariant_of-self : goal.invariant_of-self
invariant_of-self c = record { sound = sound (changed c.args.self.now.sound (rw c.read-town.ensures at c.words-n.ensures) _ c.add.auto.town c.add.ensures) }

pub returns-clause-called : goal.returns-clause-called
returns-clause-called c =
    added c.args.self.now.memory.now _ _ _ c.new.ensures (cc) (cc) (cc) (cc) c.args.self.now.sound (rw c.read-town.ensures at c.words-n.ensures) c.add.auto.town c.add.ensures
