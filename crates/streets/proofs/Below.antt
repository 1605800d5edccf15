-- The lower bound: what a walk has to use, and pairs of the corners where that is odd.
use Rattle.std.proofs.Common.{◌≡◌, ℕ, zero, suc, ◌+◌, ◌-◌, ◌%◌, ◌<◌, ◌≤◌, true, List, [], length, inl, inr, arith}
use Rattle.streets.specs.Streets.{Street, street, Leg, goes, how_long, times, is_round, mark, ends, total, ends_at, all_long}
use Rattle.streets.specs.Counts.{weigh, degree, stretch}
use Rattle.streets.specs.Pairs.{Links, Linking, Spans, Pairing, odd_once}
use Rattle.std.proofs.lemmas.Bool.{cases_lt}
use Rattle.std.proofs.lemmas.List.Elements.{All-nil}
use Rattle.streets.proofs.Sums.{ones, weigh_split, weigh_more, weigh_ones, weigh_nothing, some_street, taken}
use Rattle.streets.proofs.Walks.{by_counts}
use Rattle.streets.proofs.Parity.{parity}
use Rattle.streets.proofs.Tests.{from_round}
use Rattle.streets.proofs.Exchange.{Paired, paired_as, exchange}

module _ (W : Links) (law : Linking W) (ss : List Street) (spans : Spans W ss) where
  none : (t : ℕ → ℕ) → weigh ss ones t ≤ 0 → Paired W (degree ss t) (stretch ss t)
  unfolding total
  none t few = record { pairs = []; pairing = record { each = λ k. omega (arith, weigh_nothing ss (λ s. ends s k) t few); linked = All-nil _ }; cost = omega arith }

  pairs_within : (bound : ℕ) (t : ℕ → ℕ) → weigh ss ones t ≤ bound → Paired W (degree ss t) (stretch ss t)
  pairs_within zero t few = none t few
  pairs_within (suc bound) t few =
      elim (cases_lt 0 (weigh ss ones t)) [
        | inl m ↦
            let r = some_street ss ones t m in
            let s = street ss r.0 in
            let less : ℕ → ℕ = λ i. t i - mark r.0 i in
            let split : (f : Street → ℕ) → weigh ss f t ≡ f s + weigh ss f less = λ f. weigh_more ss f less t r.0 r.1 (taken t r.0 r.2) in
            let p = pairs_within bound less (omega (arith, split ones)) in
            let once : (k : ℕ) → ends_at p.pairs k ≤ 1 = λ k. omega (arith, p.pairing.each k) in
            paired_as
            (exchange W law p.pairs p.pairing.linked once s.one s.other s.long (spans r.0 r.1))
            (λ k. omega (arith, p.pairing.each k, split (λ s. ends s k)))
            (omega (arith, p.cost, split (λ s. s.long)))
        | inr m ↦ none t m
      ]

  -- A walk from x to y that uses street i at least q i times is no shorter than these uses and links that join in pairs the corners where they, with x and y, are odd
  pub walk_below : (q : ℕ → ℕ) (x : ℕ) (ms : List Leg) (y : ℕ) →
      goes ss x ms y ≡ true →
      ((i : ℕ) → i < length ss → q i ≤ times ms i) →
      (ps : List Street) × Pairing W (λ k. (degree ss q k + (mark x k + mark y k)) % 2) ps × (stretch ss q + all_long ps ≤ how_long ss ms)
  walk_below q x ms y h need =
      let rest : ℕ → ℕ = λ i. times ms i - q i in
      let split : (f : Street → ℕ) → weigh ss f (times ms) ≡ weigh ss f q + weigh ss f rest =
      λ f. weigh_split ss f (times ms) q rest (λ i l. omega (arith, need i l)) in
      let r = pairs_within (weigh ss ones rest) rest (omega arith) in (
        r.pairs,
        record { each = λ k. omega (arith, r.pairing.each k, split (λ s. ends s k), parity ss x ms y h k); linked = r.pairing.linked },
        omega (arith, r.cost, split (λ s. s.long), by_counts ss x ms y h),
      )

  -- a round uses every street, and starts where it stops
  pub round_below : (c : ℕ) (ms : List Leg) →
      is_round ss c ms ≡ true →
      (ps : List Street) × Pairing W (odd_once ss) ps × (all_long ss + all_long ps ≤ how_long ss ms)
  round_below c ms h =
      let r = from_round ss c ms h in
      let p = walk_below (λ _. 1) c ms c r.walks r.covers in (
        p.0,
        record { each = λ k. omega (arith, p.1.each k, weigh_ones ss (λ s. ends s k)); linked = p.1.linked },
        omega (arith, p.2, weigh_ones ss (λ s. s.long)),
      )
