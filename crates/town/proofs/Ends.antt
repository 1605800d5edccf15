-- How many ends there are, at a corner and before it, and how often a street is in a corner's list.
use Rattle.std.proofs.Common.{◌≡◌, ℕ, zero, suc, ◌+◌, ◌*◌, ◌<◌, ◌≤◌, cond, eqb, ltb, List, length, get_or, replicate, count_by, refl, ◌∙◌, inl, inr, arith}
use Rattle.std.proofs.lemmas.List.{length-append, length-replicate, get_or-replicate}
use Rattle.std.specs.List.{All, Contains}
use Rattle.std.proofs.lemmas.List.Sums.{sum_by-append}
use Rattle.std.proofs.lemmas.List.Elements.{All-nil, All-append, All-weaker, Contains-append_left, Contains-append_right}
use Rattle.std.proofs.lemmas.List.Folds.{sum_by-replicate}
use Rattle.std.proofs.lemmas.Bool.{cases_lt}
use Rattle.std.proofs.lemmas.Bool.Decides.{nat_tests}
use Rattle.streets.specs.Streets.{Street, street, mark, ends, ends_at}
use Rattle.streets.specs.Counts.{sum_below, weigh}
use Rattle.streets.proofs.Sums.{sum_same, sum_next, sum_upto, weigh_ones}
use Rattle.town.specs.Corners.{at_below, streets_at, ends_before}
use Rattle.town.specs.Laws.{EachEnd, AllEnds}

-- the ends at c of the streets below i
abbrev pub ends_below : List Street → ℕ → ℕ → ℕ
ends_below ss i c = sum_below (λ j. ends (street ss j) c) i

module _ (ss : List Street) where
  pub ends_more : (i c : ℕ) → ends_below ss (i + 1) c ≡ ends_below ss i c + ends (street ss i) c
  ends_more i c = sum_next (λ j. ends (street ss j) c) i

  pub ends_all : (c : ℕ) → ends_below ss (length ss) c ≡ ends_at ss c
  unfolding weigh
  ends_all c = sum_same (λ j. ends (street ss j) c) (λ j. 1 * ends (street ss j) c) (length ss) (λ i _. omega arith) ∙ weigh_ones ss (λ s. ends s c)

  pub ends_upto : (i c : ℕ) → i < length ss → ends_below ss (i + 1) c ≤ ends_at ss c
  ends_upto i c h = omega (arith, sum_upto (λ j. ends (street ss j) c) (i + 1) (length ss) (omega arith), ends_all c)

  length_at_below : (i c : ℕ) → length (at_below ss i c) ≡ ends_below ss i c
  unfolding at_below sum_below
  length_at_below zero c = refl
  length_at_below (suc i) c = rw (length-append, length-replicate) (omega (arith, length_at_below i c))

  -- in the lists of its two corners there is room for street i
  pub room_one : (i : ℕ) → i < length ss → length (at_below ss i (street ss i).one) < ends_at ss (street ss i).one
  room_one i h = let c = (street ss i).one in grind (arith, nat_tests, length_at_below i c, ends_more i c, ends_upto i c h)

  pub room_other : (i : ℕ) → i < length ss → let s = street ss i in length (at_below ss i s.other) + mark s.one s.other < ends_at ss s.other
  room_other i h = let c = (street ss i).other in grind (arith, nat_tests, length_at_below i c, ends_more i c, ends_upto i c h)

  -- the ends at k are among those at the corners below c
  pub before_upto : (k c : ℕ) → k < c → ends_before ss k + ends_at ss k ≤ ends_before ss c
  before_upto k c h = omega (arith, sum_next (ends_at ss) k, sum_upto (ends_at ss) (k + 1) c (omega arith))

pub all_ends : AllEnds
all_ends ss c = length_at_below ss (length ss) c ∙ ends_all ss c

all_copies : (P : ℕ → Type 0) (n j : ℕ) → (0 < n → P j) → All P (replicate n j)
all_copies P n j p k d h = let e = length-replicate n j in rw (get_or-replicate n k j d (omega arith)) (p (omega arith))

module _ (ss : List Street) (c : ℕ) where
  abbrev Ending : ℕ → ℕ → Type 0
  Ending n i = (i < n) × (0 < ends (street ss i) c)

  all_below : (n : ℕ) → All (Ending n) (at_below ss n c)
  unfolding at_below
  all_below zero = All-nil _
  all_below (suc n) =
      All-append (Ending (suc n)) (at_below ss n c) _ (All-weaker (Ending n) (Ending (suc n)) (λ i p. omega arith) _ (all_below n)) (all_copies (Ending (suc n)) (ends (street ss n) c) n (λ some. omega arith))

  has_below : (n i : ℕ) → i < n → 0 < ends (street ss i) c → Contains (at_below ss n c) i
  unfolding at_below
  has_below zero i h some = absurd (omega arith)
  has_below (suc n) i h some =
      elim (cases_lt i n) [
        | inl l ↦ Contains-append_left (at_below ss n c) _ i (has_below n i l some)
        | inr l ↦ Contains-append_right (at_below ss n c) _ i (let e : i ≡ n = omega arith in (0, rw (← e, length-replicate) some, rw (← e) (get_or-replicate (ends (street ss i) c) 0 i i some)))
      ]

  -- a corner's list has only streets that end there, and has them all
  pub listed_ends : (j : ℕ) → j < length (streets_at ss c) → let i = get_or (streets_at ss c) j 0 in (i < length ss) × (0 < ends (street ss i) c)
  listed_ends j h = all_below (length ss) j 0 h

  pub ends_listed : (i : ℕ) → i < length ss → 0 < ends (street ss i) c → Contains (streets_at ss c) i
  ends_listed = has_below (length ss)

count_below : (ss : List Street) (c i n : ℕ) → count_by (λ x. eqb x i) (at_below ss n c) ≡ cond (ltb i n) (ends (street ss i) c) 0
unfolding at_below
count_below ss c i zero = grind (arith, nat_tests)
count_below ss c i (suc n) =
    let e = ends (street ss n) c in
    grind (arith, nat_tests, count_below ss c i n, sum_by-append (λ (x : ℕ). mark x i) (at_below ss n c) (replicate e n), sum_by-replicate (λ (x : ℕ). mark x i) e n)

pub each_end : EachEnd
each_end ss c i = count_below ss c i (length ss)
