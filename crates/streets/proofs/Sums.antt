-- Sums over the numbers below n, and over streets by how often each is used.
use Rattle.std.proofs.Common.{◌≡◌, ℕ, zero, suc, ◌+◌, ◌-◌, ◌*◌, ◌%◌, ◌<◌, ◌≤◌, List, [], ◌∷◌, length, refl, ap, inl, inr, arith}
use Rattle.std.proofs.lemmas.Bool.{cases_lt}
use Rattle.std.proofs.lemmas.Bool.Decides.{nat_tests}
use Rattle.std.proofs.lemmas.Nat.{mul-mod_first}
use Rattle.streets.specs.Streets.{Street, street, mark, total}
use Rattle.streets.specs.Counts.{sum_below, weigh}

pub sum_split : (f g h : ℕ → ℕ) (n : ℕ) → ((i : ℕ) → i < n → f i ≡ g i + h i) → sum_below f n ≡ sum_below g n + sum_below h n
unfolding sum_below
sum_split f g h zero e = refl
sum_split f g h (suc n) e = omega (arith, e n, sum_split f g h n (λ i l. e i (omega arith)))

pub sum_same : (f g : ℕ → ℕ) (n : ℕ) → ((i : ℕ) → i < n → f i ≡ g i) → sum_below f n ≡ sum_below g n
sum_same f g n e = omega (arith, sum_split f g (λ i. f i - g i) n (λ i l. omega (arith, e i l)), sum_split g f (λ i. g i - f i) n (λ i l. omega (arith, e i l)))

pub sum_none : (f : ℕ → ℕ) (n : ℕ) → ((i : ℕ) → i < n → f i ≡ 0) → sum_below f n ≡ 0
sum_none f n e = omega (arith, sum_split f f f n (λ i l. omega (arith, e i l)))

pub sum_ones : (n : ℕ) → sum_below (λ _. 1) n ≡ n
unfolding sum_below
sum_ones zero = refl
sum_ones (suc n) = omega (arith, sum_ones n)

pub sum_next : (f : ℕ → ℕ) (k : ℕ) → sum_below f (k + 1) ≡ sum_below f k + f k
unfolding sum_below
sum_next f k = let e : k + 1 ≡ suc k = omega arith in omega (arith, ap (sum_below f) e)

pub sum_upto : (f : ℕ → ℕ) (i n : ℕ) → i ≤ n → sum_below f i ≤ sum_below f n
unfolding sum_below
sum_upto f i zero h = grind arith
sum_upto f i (suc n) h = elim (cases_lt n i) [ inl m ↦ let e : i ≡ suc n = omega arith in omega (arith, ap (sum_below f) e) | inr m ↦ omega (arith, sum_upto f i n m) ]

pub sum_parity : (f g : ℕ → ℕ) (n : ℕ) → ((i : ℕ) → i < n → f i % 2 ≡ g i % 2) → sum_below f n % 2 ≡ sum_below g n % 2
unfolding sum_below
sum_parity f g zero e = refl
sum_parity f g (suc n) e = omega (arith, e n (omega arith), sum_parity f g n (λ i l. e i (omega arith)))

pub part_le : (f : ℕ → ℕ) (n i : ℕ) → i < n → f i ≤ sum_below f n
part_le f n i l = omega (arith, sum_next f i, sum_upto f (i + 1) n (omega arith))

-- a sum that is not 0 has a part that is not 0
some_part : (f : ℕ → ℕ) (n : ℕ) → 0 < sum_below f n → (i : ℕ) × (i < n) × (0 < f i)
unfolding sum_below
some_part f zero h = absurd (omega arith)
some_part f (suc n) h =
    elim (cases_lt 0 (f n)) [
      | inl m ↦ (n, omega arith, m)
      | inr m ↦ let r = some_part f n (omega arith) in (r.0, omega (arith, r.1), r.2)
    ]

pub sum_mark : (a n : ℕ) (f : ℕ → ℕ) → a < n → sum_below (λ i. mark a i * f i) n ≡ f a
unfolding sum_below
sum_mark a zero f l = absurd (omega arith)
sum_mark a (suc n) f l =
    elim (cases_lt a n) [
      | inl m ↦ grind (arith, nat_tests, sum_mark a n f m)
      | inr m ↦ let e : a ≡ n = omega arith in grind (arith, nat_tests, sum_none (λ i. mark a i * f i) n (λ i p. grind (arith, nat_tests)))
    ]

-- counts with one more at e
pub one_more : (t u : ℕ → ℕ) (e : ℕ) → u e ≡ t e + 1 → ((i : ℕ) → (e ≡ i → ⊥) → u i ≡ t i) → (i : ℕ) → u i ≡ mark e i + t i
one_more t u e more else_same i = grind (arith, nat_tests, else_same i)

-- counts with one taken away at e
pub taken : (t : ℕ → ℕ) (e : ℕ) → 0 < t e → (i : ℕ) → t i ≡ mark e i + (t i - mark e i)
taken t e some i = grind (arith, nat_tests)

-- from the front
sum_front : (f : ℕ → ℕ) (n : ℕ) → sum_below f (suc n) ≡ f 0 + sum_below (λ i. f (suc i)) n
unfolding sum_below
sum_front f zero = refl
sum_front f (suc n) = omega (arith, sum_front f n)

module _ (ss : List Street) (f : Street → ℕ) where
  each : (ℕ → ℕ) → ℕ → ℕ
  each t i = t i * f (street ss i)

  pub weigh_split : (t u v : ℕ → ℕ) → ((i : ℕ) → i < length ss → t i ≡ u i + v i) → weigh ss f t ≡ weigh ss f u + weigh ss f v
  unfolding weigh each
  weigh_split t u v e = sum_split (each t) (each u) (each v) (length ss) (λ i l. grind (arith, e i l))

  pub weigh_same : (t u : ℕ → ℕ) → ((i : ℕ) → i < length ss → t i ≡ u i) → weigh ss f t ≡ weigh ss f u
  unfolding weigh each
  weigh_same t u e = sum_same (each t) (each u) (length ss) (λ i l. grind (arith, e i l))

  pub weigh_le : (t u : ℕ → ℕ) → ((i : ℕ) → i < length ss → t i ≤ u i) → weigh ss f t ≤ weigh ss f u
  weigh_le t u h = omega (arith, weigh_split u t (λ i. u i - t i) (λ i l. omega (arith, h i l)))

  -- counts that are odd at the same streets
  pub weigh_parity : (t u : ℕ → ℕ) → ((i : ℕ) → i < length ss → t i % 2 ≡ u i % 2) → weigh ss f t % 2 ≡ weigh ss f u % 2
  unfolding weigh each
  weigh_parity t u e = sum_parity (each t) (each u) (length ss) (λ i l. cc (mul-mod_first (t i) (f (street ss i)) 2, mul-mod_first (u i) (f (street ss i)) 2, e i l))

  -- one use more of street e
  pub weigh_more : (t u : ℕ → ℕ) (e : ℕ) → e < length ss → ((i : ℕ) → u i ≡ mark e i + t i) → weigh ss f u ≡ f (street ss e) + weigh ss f t
  unfolding weigh
  weigh_more t u e l more = omega (arith, sum_mark e (length ss) (λ i. f (street ss i)) l, weigh_split u (mark e) t (λ i _. more i))

  weigh_part : (t : ℕ → ℕ) (i : ℕ) → i < length ss → t i * f (street ss i) ≤ weigh ss f t
  unfolding weigh each
  weigh_part t i l = part_le (each t) (length ss) i l

  pub weigh_some : (t : ℕ → ℕ) (i : ℕ) → i < length ss → 0 < t i → 0 < f (street ss i) → 0 < weigh ss f t
  weigh_some t i l p q = grind (arith, weigh_part t i l)

  pub some_street : (t : ℕ → ℕ) → 0 < weigh ss f t → (i : ℕ) × (i < length ss) × (0 < t i) × (0 < f (street ss i))
  unfolding weigh each
  some_street t h =
      let r = some_part (each t) (length ss) h in
      (r.0, r.1, grind (arith, r.2), grind (arith, r.2))

-- the weight of each street by which counts are counted
abbrev pub ones : Street → ℕ
ones _ = 1

-- nothing is counted
pub weigh_nothing : (ss : List Street) (f : Street → ℕ) (t : ℕ → ℕ) → weigh ss ones t ≤ 0 → weigh ss f t ≡ 0
weigh_nothing ss f t h = omega (arith, weigh_split ss f t t t (λ i l. omega (arith, weigh_part ss ones t i l)))

pub weigh_front : (s : Street) (ss : List Street) (f : Street → ℕ) (t : ℕ → ℕ) → weigh (s ∷ ss) f t ≡ t 0 * f s + weigh ss f (λ i. t (suc i))
unfolding weigh
weigh_front s ss f t = sum_front (λ i. t i * f (street (s ∷ ss) i)) (length ss)

-- every street once
pub weigh_ones : (ss : List Street) (f : Street → ℕ) → weigh ss f (λ _. 1) ≡ total f ss
unfolding weigh total sum_below
weigh_ones [] f = refl
weigh_ones (s ∷ ss) f = omega (arith, weigh_front s ss f (λ _. 1), weigh_ones ss f)

pub weigh_twos : (ss : List Street) (f : Street → ℕ) → weigh ss f (λ _. 2) ≡ 2 * total f ss
weigh_twos ss f = omega (arith, weigh_split ss f (λ _. 2) (λ _. 1) (λ _. 1) (λ i l. refl), weigh_ones ss f)
