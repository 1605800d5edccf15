use Rattle.std.proofs.Common.{◌≡◌}
use Rattle.cases.proofs.towns.empty.Given as goal

abbrev pub invariant-loop : goal.invariant-loop
invariant-loop l = l.town.memory.ghost_name ≡ l.initial.town.memory.ghost_name
