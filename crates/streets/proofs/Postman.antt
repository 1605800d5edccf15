-- A shortest round: all streets, and the cheapest ways that join the odd corners in pairs.
use Rattle.std.proofs.Common.{◌≡◌, ℕ, ◌+◌, ◌%◌, ◌≤◌, true, List, arith}
use Rattle.streets.specs.Streets.{Leg, is_round, how_long, ends, all_long}
use Rattle.streets.specs.Counts.{degree}
use Rattle.streets.specs.Pairs.{Way, NoShorter}
use Rattle.streets.specs.Theorems.{PairsBelow, MetricBelow, PairsAbove, Postman}
use Rattle.streets.proofs.Sums.{weigh_ones}
use Rattle.streets.proofs.Reversal.{both_ways}
use Rattle.streets.proofs.Links.{way_links, way_spans, metric_links}
use Rattle.streets.proofs.Below.{round_below}
use Rattle.streets.proofs.Switching.{switched_pairs}
use Rattle.streets.proofs.Rounds.{joined_round}
use Rattle.streets.proofs.Trials.{some_shortest}

pub pairs_below : PairsBelow
pairs_below ss c ms h = round_below (Way ss) (way_links ss (both_ways ss)) ss (way_spans ss) c ms h

pub metric_below : MetricBelow
metric_below ss n d c ms metric spans h = round_below (NoShorter n d) (metric_links n d metric) ss spans c ms h

pub pairs_above : PairsAbove
pairs_above ss c ps j pairing =
    let s = switched_pairs ss (λ _. 1) ps (λ i l. (omega arith, omega arith)) pairing.linked in
    let u = s.0 in
    let even : (k : ℕ) → degree ss u k % 2 ≡ 0 = λ k. omega (arith, s.1.parity k, weigh_ones ss (λ s. ends s k), pairing.each k) in
    let r = joined_round ss u c j even (λ i l. (s.1.still i l).0) in
    (r.legs, r.goes_all, λ i l. omega (arith, r.counts i l, s.1.still i l), omega (arith, r.long, s.1.cost, weigh_ones ss (λ s. s.long)))

pub postman : Postman
postman ss c j =
    let s = some_shortest ss c j in
    let q = pairs_below ss c s.0 s.1.goes_all in (
      -- the cheapest pairs are those of a shortest round
      (q.0, record { pairing = q.1; least = λ rs pairing. let r = pairs_above ss c rs j pairing in omega (arith, q.2, r.3, s.1.least r.0 r.1) }),
      -- with any cheapest pairs there is one as long as all streets and they
      λ ps cheapest.
          let r = pairs_above ss c ps j cheapest.pairing in
          let bound : (ms : List Leg) → is_round ss c ms ≡ true → all_long ss + all_long ps ≤ how_long ss ms =
          λ ms h. let q = pairs_below ss c ms h in omega (arith, q.2, cheapest.least q.0 q.1) in
          (r.0, record { goes_all = r.1; least = λ ms h. omega (arith, r.3, bound ms h) }, r.2, omega (arith, r.3, bound r.0 r.1)),
    )
