-- How many legs a walk has and how long it is, if it uses no street more than twice.
use Rattle.std.proofs.Common.{◌≡◌, ℕ, suc, ◌*◌, ◌≤◌, true, List, [], ◌∷◌, length, All, arith}
use Rattle.streets.specs.Streets.{Street, Leg, goes, stops, how_long, times, total, all_long, AtMostTwice}
use Rattle.streets.specs.Counts.{weigh}
use Rattle.streets.proofs.Sums.{sum_ones, ones, weigh_le, weigh_ones, weigh_twos}
use Rattle.streets.proofs.Walks.{step, weigh_none, weigh_leg, by_counts}

-- at most m for each street
pub total_most : (f : Street → ℕ) (m : ℕ) (ss : List Street) → All (λ s. f s ≤ m) ss → total f ss ≤ length ss * m
unfolding total
total_most f m [] h = omega arith
total_most f m (s ∷ ss) h = omega (arith, h 0 s (omega arith), total_most f m ss (λ k d l. h (suc k) d (omega arith)))

module _ (ss : List Street) where
  twice_weighs : (f : Street → ℕ) (ls : List Leg) → AtMostTwice ls (length ss) → weigh ss f (times ls) ≤ 2 * total f ss
  twice_weighs f ls t = omega (arith, weigh_le ss f (times ls) (λ _. 2) t, weigh_twos ss f)

  walk_legs : (c : ℕ) (ls : List Leg) (d : ℕ) → goes ss c ls d ≡ true → length ls ≡ weigh ss ones (times ls)
  walk_legs c [] d h = omega (arith, weigh_none ss ones)
  walk_legs c (l ∷ ls) d h =
      let s = step ss c l ls d h in
      omega (arith, walk_legs (stops ss l) ls d s.on, weigh_leg ss ones l ls s.may)

  module _ (c : ℕ) (ls : List Leg) (d : ℕ) (walks : goes ss c ls d ≡ true) (twice : AtMostTwice ls (length ss)) where
    -- at most two legs for each street
    pub few_legs : length ls ≤ 2 * length ss
    unfolding weigh
    few_legs = omega (arith, walk_legs c ls d walks, twice_weighs ones ls twice, weigh_ones ss ones, sum_ones (length ss))

    -- at most twice as long as all streets
    pub twice_long : how_long ss ls ≤ 2 * all_long ss
    twice_long = omega (arith, by_counts ss c ls d walks, twice_weighs (λ s. s.long) ls twice)

    -- so two legs of the longest street for each street are enough
    pub long_fits : (m : ℕ) → All (λ s. s.long ≤ m) ss → how_long ss ls ≤ 2 * (length ss * m)
    long_fits m short = omega (arith, twice_long, total_most (λ s. s.long) m ss short)
