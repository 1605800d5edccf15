use Rattle.std.proofs.Common.{◌≡◌, ap, arith}
use Rattle.streets.specs.Calls.{Limits}
use Rattle.town.specs.Layout.{limits_in}
use Rattle.town.proofs.Layouts.{ends_in_town}
use Rattle.reach.proofs.Listing.{listed_none, listed_odd, listed_even, listed_all}
use Rattle.reach.proofs.parity.odd_corners.Goals as goal
use Rattle.reach.proofs.parity.odd_corners.Goals.{then-is_odd, else-is_odd}

pub loop-c-init : goal.loop-c-init
loop-c-init c = listed_none

pub loop-c-preserved : goal.loop-c-preserved
loop-c-preserved c =
    elim c.if-is_odd.branch [
      | then-is_odd w ↦ rw (w.found-is, w.list-is, w.put.ensures, w.from.ensures, w.from-then-is_odd.ensures) (listed_odd c.loop-c.invariant w.if-is_odd.ensures)
      | else-is_odd w ↦ rw (w.found-is, w.list-is) (listed_even c.loop-c.invariant w.if-is_odd.ensures)
    ]

pub returns : goal.returns
returns c =
    let n = (limits_in c.args.town.now.memory.now).corners in
    let e : c.loop-c.c ≡ n = omega (arith, ap (λ (l : Limits). l.corners) c.limits-c-end.ensures) in
    let all = listed_all c.loop-c.invariant e (ends_in_town c.args.town.now.sound.front) in
    record { count = all.0; pairs = all.1; listed = all.2 }
