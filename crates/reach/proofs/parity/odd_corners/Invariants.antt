use Rattle.town.specs.Layout.{streets_in}
use Rattle.reach.proofs.Listing.{Listed}
use Rattle.reach.proofs.parity.odd_corners.Given as goal

abbrev pub invariant-loop-c : goal.invariant-loop-c
invariant-loop-c l = Listed (streets_in l.town.memory.now) l.initial.list l.c l.found l.list
