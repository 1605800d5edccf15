use Rattle.std.proofs.Common.{◌≡◌}
use Rattle.cases.proofs.towns.fill.Given as goal

abbrev pub invariant-loop-i : goal.invariant-loop-i
invariant-loop-i l = l.town.memory.ghost_name ≡ l.initial.town.memory.ghost_name
