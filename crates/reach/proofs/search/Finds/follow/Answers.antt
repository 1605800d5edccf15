use Rattle.std.proofs.Common.{length, ap, ◌∙◌, arith}
use Rattle.town.specs.Layout.{streets_in}
use Rattle.reach.proofs.Marking.{few_found}
use Rattle.reach.proofs.Levels.{Inside, inside_town}
use Rattle.reach.proofs.Following.{place_there, pass_by, pass_new, all_followed}
use Rattle.reach.proofs.search.Finds.follow.Goals as goal
use Rattle.reach.proofs.search.Finds.follow.Goals.{then-self-from-eq0, else-self-from-eq0}

pub offset_bounds-self-done : goal.offset_bounds-self-done
offset_bounds-self-done c = omega (arith, few_found c.requires.search, c.args.town.now.sound.front.good.few_corners)

pub bounds-self-done : goal.bounds-self-done
bounds-self-done c = omega (arith, few_found c.requires.search)

pub overflow_add-level : goal.overflow_add-level
overflow_add-level c =
    let s = c.requires.search in
    omega (arith, s.low _ (s.queued c.args.done c.requires.next).0, few_found s, c.args.town.now.sound.front.good.few_corners)

pub mark-requires-clause-place : goal.mark-requires-clause-place
mark-requires-clause-place c =
    place_there c.loop-i.invariant.following (inside_town (c.loop-i.invariant.corners ∙ c.requires.corners) c.args.town.now.sound.front) (rw c.from-2.ensures at c.streets_at-i-items.ensures) c.loop-i-test.true c.leave-x.ensures.leg c.leave-x.ensures.stop (rw c.from-in-loop-i.ensures at c.if-self-from-eq0.true)

pub loop-i-preserved : goal.loop-i-preserved
loop-i-preserved c =
    let i = c.loop-i.invariant in
    let inside : Inside c.loop-i.self.corners (streets_in c.args.town.now.memory.now) = inside_town (i.corners ∙ c.requires.corners) c.args.town.now.sound.front in
    let all = rw c.from-2.ensures at c.streets_at-i-items.ensures in
    elim c.if-self-from-eq0.branch [
      | then-self-from-eq0 w ↦
          let m = w.mark.ensures in
          let now = pass_new i.following inside all c.loop-i-test.true c.leave-x.ensures.leg c.leave-x.ensures.stop (rw c.from-in-loop-i.ensures at w.if-self-from-eq0.true) c.loop-i.self.room m.level m.leg m.queue in
          rw (w.self-is, m.corners, m.found) (record { corners = i.corners; same_words = (cc, cc, cc); following = now })
      | else-self-from-eq0 w ↦
          let now = pass_by i.following inside all c.loop-i-test.true c.leave-x.ensures.leg c.leave-x.ensures.stop (omega (arith, rw c.from-in-loop-i.ensures at w.if-self-from-eq0.false)) in
          rw w.self-is (record { corners = i.corners; same_words = i.same_words; following = now })
    ]

pub returns-clause-search : goal.returns-clause-search
returns-clause-search c =
    let over = c.loop-i-test.false in
    all_followed c.loop-i.invariant.following (omega (arith, ap length (rw c.from-2.ensures at c.streets_at-i-items.ensures)))
