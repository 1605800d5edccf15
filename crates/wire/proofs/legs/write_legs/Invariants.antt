use Rattle.std.proofs.Common.{◌≡◌, map, take}
use Rattle.streets.specs.Meaning.{as_leg}
use Rattle.wire.specs.Rows.{put}
use Rattle.wire.specs.Format.{legs_row}
use Rattle.wire.proofs.legs.write_legs.Given as goal

abbrev pub invariant-loop-k : goal.invariant-loop-k
invariant-loop-k l = l.part ≡ put l.initial.part 0 (legs_row (map as_leg (take l.k l.legs)))
