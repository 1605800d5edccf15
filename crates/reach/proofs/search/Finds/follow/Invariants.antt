use Rattle.std.proofs.Common.{◌≡◌}
use Rattle.town.specs.Layout.{streets_in}
use Rattle.reach.specs.Reach.{entry}
use Rattle.reach.proofs.Following.{Following}
use Rattle.reach.proofs.search.Finds.follow.Given as goal

abbrev pub invariant-loop-i : goal.invariant-loop-i
invariant-loop-i l = record {
  corners : l.self.corners ≡ l.initial.self.corners;
  same_words : (l.self.levels.ghost_name ≡ l.initial.self.levels.ghost_name) × (l.self.legs.ghost_name ≡ l.initial.self.legs.ghost_name) × (l.self.queue.ghost_name ≡ l.initial.self.queue.ghost_name);
  following : Following (streets_in l.town.memory.now) l.self.corners l.here l.level (entry l.initial.self.queue.now 0) l.self.levels.now l.self.legs.now l.self.queue.now l.done l.self.found l.i-index;
}
