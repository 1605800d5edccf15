-- Rounds from counts, and what a shortest round uses.
use Rattle.std.proofs.Common.{◌≡◌, ℕ, suc, ◌+◌, ◌-◌, ◌%◌, ◌<◌, ◌≤◌, true, List, [], ◌∷◌, ◌++◌, length, refl, ◌∙◌, inl, inr, arith}
use Rattle.std.proofs.lemmas.Bool.{cases_lt}
use Rattle.std.proofs.lemmas.Bool.Decides.{nat_tests}
use Rattle.streets.specs.Streets.{Street, street, Leg, forward, goes, how_long, times, is_round, mark, ends, total, ends_at, all_long}
use Rattle.streets.specs.Counts.{sum_below, weigh, degree, stretch, Connected}
use Rattle.streets.specs.Calls.{Shortest}
use Rattle.streets.specs.Theorems.{Joined, ARound, positive, NeverThrice, FromAnywhere, twice_gone}
use Rattle.streets.proofs.Sums.{weigh_split, weigh_same, weigh_some, weigh_front, weigh_ones, weigh_twos, weigh_parity, some_street}
use Rattle.streets.proofs.Legs.{leg_there, starts_end}
use Rattle.streets.proofs.Walks.{step, goes-append, times-append, long_append, by_counts, used_there, cut}
use Rattle.streets.proofs.Parity.{parity}
use Rattle.streets.proofs.Visits.{remade}
use Rattle.streets.proofs.Tests.{from_round, to_round, positive_at}

pub record Remade (ss : List Street) (t : ℕ → ℕ) (c : ℕ) : Type 0 where
  pub legs : List Leg
  pub goes_all : is_round ss c legs ≡ true
  pub counts : (i : ℕ) → i < length ss → times legs i ≡ t i
  pub long : how_long ss legs ≡ stretch ss t

-- each street once or twice, so that its count stays odd or even
abbrev pub slim : ℕ → ℕ
slim n = 2 - n % 2

module _ (ss : List Street) where
  -- counts that use every street hang together
  pub joined_connected : (t : ℕ → ℕ) (c : ℕ) → Joined ss c → ((i : ℕ) → i < length ss → 0 < t i) → Connected ss t c
  joined_connected t c j all i l u = let r = j i l in (r.0, r.1, λ e v. all e (used_there ss c r.0 (street ss i).one e r.1 v))

  -- a closed walk that has such counts is a round, and as long as they say
  pub counted_round : (t : ℕ → ℕ) (c : ℕ) (ls : List Leg) →
      goes ss c ls c ≡ true →
      ((i : ℕ) → i < length ss → times ls i ≡ t i) →
      ((i : ℕ) → i < length ss → 0 < t i) →
      (is_round ss c ls ≡ true) × (how_long ss ls ≡ stretch ss t)
  counted_round t c ls walks same all = (
    to_round ss c ls (record { walks = walks; covers = λ i l. omega (arith, same i l, all i l) }),
    by_counts ss c ls c walks ∙ weigh_same ss (λ s. s.long) (times ls) t same,
  )

  -- and there is one
  pub joined_round : (t : ℕ → ℕ) (c : ℕ) → Joined ss c → ((k : ℕ) → degree ss t k % 2 ≡ 0) → ((i : ℕ) → i < length ss → 0 < t i) → Remade ss t c
  joined_round t c j even all =
      let r = remade ss t c c (λ k. omega (arith, even k)) (joined_connected t c j all) in
      let p = counted_round t c r.0 r.1 r.2 all in
      record { legs = r.0; goes_all = p.0; counts = r.2; long = p.1 }

  -- a street that ends at d
  street_at : (d : ℕ) → 0 < ends_at ss d → (i : ℕ) × (i < length ss) × (0 < ends (street ss i) d)
  street_at d e = let s = some_street ss (λ s. ends s d) (λ _. 1) (omega (arith, weigh_ones ss (λ s. ends s d))) in (s.0, s.1, s.3)

  -- a walk with a leg starts at a corner that has a street
  starts_at_street : (c : ℕ) (ls : List Leg) (d i : ℕ) → goes ss c ls d ≡ true → 0 < times ls i → 0 < ends_at ss c
  unfolding times
  starts_at_street c [] d i h some = absurd (omega arith)
  starts_at_street c (l ∷ ls) d i h some =
      let s = step ss c l ls d h in
      let f : Street → ℕ = λ s. ends s c in
      let one = weigh_some ss f (λ _. 1) l.along (leg_there ss l s.may) (omega arith) (rw s.here at (starts_end ss l)) in
      omega (arith, weigh_ones ss f)

  module _ (c : ℕ) (ls : List Leg) (h : is_round ss c ls ≡ true) where
    -- a round reaches every street
    pub round_joins : Joined ss c
    round_joins i l =
        let r = from_round ss c ls h in
        let p = cut ss c ls c i (street ss i).one r.walks (r.covers i l) (starts_end ss (forward i)) in
        (p.before, p.to)

    pub round_even : (k : ℕ) → degree ss (times ls) k % 2 ≡ 0
    round_even k = omega (arith, parity ss c ls c (from_round ss c ls h).walks k)

    -- out of any round, one that uses no street more than twice
    pub slimmed : Remade ss (λ i. slim (times ls i)) c
    slimmed =
        let t : ℕ → ℕ = λ i. slim (times ls i) in
        joined_round t c round_joins
        (λ k. omega (arith, round_even k, weigh_parity ss (λ s. ends s k) t (times ls) (λ i l. omega arith)))
        (λ i l. omega arith)

    -- what it is shorter by
    pub slimmed_by : how_long ss ls ≡ how_long ss slimmed.legs + stretch ss (λ i. times ls i - slim (times ls i))
    slimmed_by =
        let r = from_round ss c ls h in
        let t : ℕ → ℕ = λ i. slim (times ls i) in
        let split = weigh_split ss (λ s. s.long) (times ls) t (λ i. times ls i - t i) (λ i l. omega (arith, r.covers i l)) in
        omega (arith, slimmed.long, by_counts ss c ls c r.walks)

    -- the same round from another of its corners
    rotated : (d : ℕ) → 0 < ends_at ss d → (ms : List Leg) × (is_round ss d ms ≡ true) × (how_long ss ms ≡ how_long ss ls)
    rotated d e =
        let r = from_round ss c ls h in
        let s = street_at d e in
        let p = cut ss c ls c s.0 d r.walks (r.covers s.0 s.1) s.2 in
        let a = p.before in
        let b = p.behind in
        let covers : (i : ℕ) → i < length ss → 0 < times (b ++ a) i =
        λ i l. grind (arith, r.covers i l, times-append b a i, times-append a b i, p.whole) in (
          b ++ a,
          to_round ss d (b ++ a) (record { walks = goes-append ss d b c a d p.from p.to; covers = covers }),
          grind (arith, long_append ss b a, long_append ss a b, p.whole),
        )

pub a_round : ARound
a_round ss c = (
  (λ j.
      let r = joined_round ss (λ _. 2) c j (λ k. omega (arith, weigh_twos ss (λ s. ends s k))) (λ i l. omega arith) in
      (r.legs, r.goes_all, omega (arith, r.long, weigh_twos ss (λ s. s.long)))),
  round_joins ss c,
)

pub never_thrice : NeverThrice
never_thrice ss c i ls pos short =
    elim (cases_lt 2 (times ls i)) [
      | inl m ↦
          let h = short.goes_all in
          let s = slimmed ss c ls h in
          let l = used_there ss c ls c i (from_round ss c ls h).walks (omega arith) in
          let less = weigh_some ss (λ s. s.long) (λ j. times ls j - slim (times ls j)) i l (omega arith) (positive_at ss pos i l) in
          absurd (omega (arith, short.least s.legs s.goes_all, slimmed_by ss c ls h))
      | inr m ↦ m
    ]

pub from_anywhere : FromAnywhere
from_anywhere ss c d ls short f =
    let s = street_at ss d f in
    let q = from_round ss c ls short.goes_all in
    let e = starts_at_street ss c ls c s.0 q.walks (q.covers s.0 s.1) in
    let r = rotated ss c ls short.goes_all d f in
    let least : (ks : List Leg) → is_round ss d ks ≡ true → how_long ss r.0 ≤ how_long ss ks =
    λ ks h. let s = rotated ss d ks h c e in omega (arith, r.2, s.2, short.least s.0 s.1) in
    (r.0, record { goes_all = r.1; least = least }, r.2)

-- the streets with two legs, by counts
twice_total : (f : Street → ℕ) (ss : List Street) (ls : List Leg) (j : ℕ) (t : ℕ → ℕ) →
    ((i : ℕ) → t i ≡ mark (times ls (j + i)) 2) →
    total f (twice_gone ss ls j) ≡ weigh ss f t
unfolding total twice_gone weigh sum_below
twice_total f [] ls j t e = refl
twice_total f (s ∷ ss) ls j t e =
    grind (arith, nat_tests, e 0, weigh_front s ss f t, twice_total f ss ls (suc j) (λ i. t (suc i)) (λ i. grind (arith, e (suc i))))

-- each street once, and some of them again
once_and_again : (ss : List Street) (f : Street → ℕ) (ls : List Leg) →
    ((i : ℕ) → i < length ss → (0 < times ls i) × (times ls i ≤ 2)) →
    weigh ss f (times ls) ≡ total f ss + total f (twice_gone ss ls 0)
once_and_again ss f ls few =
    let t : ℕ → ℕ = λ i. mark (times ls i) 2 in
    let split = weigh_split ss f (times ls) (λ _. 1) t (λ i l. grind (arith, nat_tests, few i l)) in
    omega (arith, weigh_ones ss f, twice_total f ss ls 0 t (λ i. grind arith))

module _ (ss : List Street) (c : ℕ) (ls : List Leg) (pos : positive ss ≡ true) (short : Shortest ss c ls) where
  -- the same of a shortest round
  again : (f : Street → ℕ) → weigh ss f (times ls) ≡ total f ss + total f (twice_gone ss ls 0)
  again f = once_and_again ss f ls (λ i l. ((from_round ss c ls short.goes_all).covers i l, never_thrice ss c i ls pos short))

  -- so the streets that it repeats are a T-join of the odd corners
  pub repeats_join : (k : ℕ) → ends_at (twice_gone ss ls 0) k % 2 ≡ ends_at ss k % 2
  repeats_join k = omega (arith, again (λ s. ends s k), round_even ss c ls short.goes_all k)

  pub repeats_long : how_long ss ls ≡ all_long ss + all_long (twice_gone ss ls 0)
  repeats_long = by_counts ss c ls c (from_round ss c ls short.goes_all).walks ∙ again (λ s. s.long)
