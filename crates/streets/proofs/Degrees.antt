-- The number of odd corners is even, and Euler's theorem.
use Rattle.std.proofs.Common.{◌≡◌, ℕ, ◌*◌, ◌%◌, ◌<◌, ◌≤◌, true, List, [], ◌∷◌, length, refl, ◌∙◌, inl, inr, arith}
use Rattle.std.proofs.lemmas.Bool.{cases_lt}
use Rattle.std.proofs.lemmas.Bool.Decides.{nat_tests}
use Rattle.streets.specs.Streets.{Street, times, mark, ends, total, ends_at, odd_corners}
use Rattle.streets.specs.Counts.{sum_below, degree}
use Rattle.streets.specs.Theorems.{in_town, OnceEach, InPairs}
use Rattle.streets.proofs.Sums.{sum_split, sum_same, sum_none, sum_parity, sum_mark, part_le, weigh_same, weigh_ones}
use Rattle.streets.proofs.Tests.{odd_sum, once_each_decides}
use Rattle.streets.proofs.Rounds.{joined_round, round_even, round_joins}

-- past the town's corners there are no ends
pub none_past : (ss : List Street) (n k : ℕ) → in_town n ss ≡ true → n ≤ k → ends_at ss k ≡ 0
unfolding total in_town
none_past [] n k h l = refl
none_past (s ∷ ss) n k h l = grind (arith, nat_tests, none_past ss n k (grind (arith, nat_tests)) l)

pub mark_once : (a n : ℕ) → a < n → sum_below (mark a) n ≡ 1
mark_once a n l = sum_same (mark a) (λ i. mark a i * 1) n (λ i _. omega arith) ∙ sum_mark a n (λ _. 1) l

-- every street has two ends
pub two_ends : (ss : List Street) (n : ℕ) → in_town n ss ≡ true → sum_below (ends_at ss) n ≡ 2 * length ss
unfolding total in_town
two_ends [] n h = sum_none (ends_at []) n (λ i _. refl)
two_ends (s ∷ ss) n h =
    omega (
      arith,
      two_ends ss n (grind (arith, nat_tests)),
      sum_split (ends_at (s ∷ ss)) (ends s) (ends_at ss) n (λ i _. refl),
      sum_split (ends s) (mark s.one) (mark s.other) n (λ i _. refl),
      mark_once s.one n (grind (arith, nat_tests)),
      mark_once s.other n (grind (arith, nat_tests)),
    )

pub in_pairs : InPairs
in_pairs ss n h = omega (arith, odd_sum ss n, sum_parity (λ k. ends_at ss k % 2) (ends_at ss) n (λ i _. omega arith), two_ends ss n h)

-- no corner is odd
even_all : (ss : List Street) (n : ℕ) → in_town n ss ≡ true → odd_corners ss n ≡ 0 → (k : ℕ) → ends_at ss k % 2 ≡ 0
even_all ss n h none k =
    elim (cases_lt k n) [
      | inl l ↦ omega (arith, odd_sum ss n, part_le (λ k. ends_at ss k % 2) n k l)
      | inr l ↦ omega (arith, none_past ss n k h l)
    ]

pub once_each : OnceEach
once_each ss n c town = (
  (λ p.
      let even : (k : ℕ) → degree ss (λ _. 1) k % 2 ≡ 0 = λ k. omega (arith, weigh_ones ss (λ s. ends s k), even_all ss n town p.0 k) in
      let r = joined_round ss (λ _. 1) c p.1 even (λ i l. omega arith) in
      (r.legs, r.goes_all, (once_each_decides r.legs (length ss)).1 r.counts)),
  λ r.
      let ls = r.0 in
      let even : (k : ℕ) → ends_at ss k % 2 ≡ 0 =
      λ k.
      let f : Street → ℕ = λ s. ends s k in
      omega (arith, round_even ss c ls r.1 k, weigh_same ss f (times ls) (λ _. 1) ((once_each_decides ls (length ss)).0 r.2), weigh_ones ss f) in
      (odd_sum ss n ∙ sum_none (λ k. ends_at ss k % 2) n (λ k _. even k), round_joins ss c ls r.1),
)
