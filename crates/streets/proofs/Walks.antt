-- Walks: taken apart at their first leg, joined, cut at a corner, and weighed by how often they use each street.
use Rattle.std.proofs.Common.{◌≡◌, ℕ, ◌+◌, ◌<◌, true, List, [], ◌∷◌, ◌++◌, length, sym, refl, ◌∙◌, inl, inr, arith}
use Rattle.std.proofs.lemmas.Bool.{eqb-true, eq-eqb, cases_lt}
use Rattle.std.proofs.lemmas.Bool.Decides.{nat_tests}
use Rattle.streets.specs.Streets.{Street, street, Leg, may_go, goes, starts, stops, how_long, times, ends}
use Rattle.streets.specs.Counts.{weigh, stretch}
use Rattle.streets.proofs.Sums.{weigh_split, weigh_more}
use Rattle.streets.proofs.Legs.{leg_there, leg_as_long, leg_at}

-- a walk by its first leg
pub record Step (ss : List Street) (c : ℕ) (l : Leg) (ls : List Leg) (d : ℕ) : Type 0 where
  pub may : may_go ss l ≡ true
  pub here : starts ss l ≡ c
  pub on : goes ss (stops ss l) ls d ≡ true

-- a walk that comes to k, cut there
pub record Cut (ss : List Street) (c : ℕ) (ls : List Leg) (d k : ℕ) : Type 0 where
  pub before : List Leg
  pub behind : List Leg
  pub whole : ls ≡ before ++ behind
  pub to : goes ss c before k ≡ true
  pub from : goes ss k behind d ≡ true

pub times-append : (ls ms : List Leg) (i : ℕ) → times (ls ++ ms) i ≡ times ls i + times ms i
unfolding times
times-append [] ms i = omega arith
times-append (l ∷ ls) ms i = omega (arith, times-append ls ms i)

module _ (ss : List Street) where
  pub step : (c : ℕ) (l : Leg) (ls : List Leg) (d : ℕ) → goes ss c (l ∷ ls) d ≡ true → Step ss c l ls d
  unfolding goes
  step c l ls d h = record { may = grind (arith, nat_tests); here = grind (arith, nat_tests); on = grind (arith, nat_tests) }

  pub go_on : (c : ℕ) (l : Leg) (ls : List Leg) (d : ℕ) → Step ss c l ls d → goes ss c (l ∷ ls) d ≡ true
  unfolding goes
  go_on c l ls d s = grind (arith, nat_tests)

  pub stands : (c d : ℕ) → goes ss c [] d ≡ true → c ≡ d
  unfolding goes
  stands c d h = eqb-true c d h

  pub stay : (c : ℕ) → goes ss c [] c ≡ true
  unfolding goes
  stay c = eq-eqb c c refl

  pub goes-append : (c : ℕ) (ls : List Leg) (d : ℕ) (ms : List Leg) (e : ℕ) →
      goes ss c ls d ≡ true →
      goes ss d ms e ≡ true →
      goes ss c (ls ++ ms) e ≡ true
  goes-append c [] d ms e h k = rw (stands c d h) k
  goes-append c (l ∷ ls) d ms e h k =
      let s = step c l ls d h in
      go_on c l (ls ++ ms) e (record { may = s.may; here = s.here; on = goes-append (stops ss l) ls d ms e s.on k })

  pub long_append : (ls ms : List Leg) → how_long ss (ls ++ ms) ≡ how_long ss ls + how_long ss ms
  unfolding how_long
  long_append [] ms = omega arith
  long_append (l ∷ ls) ms = omega (arith, long_append ls ms)

  -- a walk of one leg
  pub one_leg : (l : Leg) → may_go ss l ≡ true → goes ss (starts ss l) (l ∷ []) (stops ss l) ≡ true
  unfolding goes
  one_leg l h = grind (arith, nat_tests)

  pub weigh_none : (f : Street → ℕ) → weigh ss f (times []) ≡ 0
  unfolding times
  weigh_none f = omega (arith, weigh_split ss f (times []) (times []) (times []) (λ i l. refl))

  pub weigh_leg : (f : Street → ℕ) (l : Leg) (ls : List Leg) →
      may_go ss l ≡ true →
      weigh ss f (times (l ∷ ls)) ≡ f (street ss l.along) + weigh ss f (times ls)
  unfolding times
  weigh_leg f l ls h = weigh_more ss f (times ls) (times (l ∷ ls)) l.along (leg_there ss l h) (λ i. refl)

  -- a walk is as long as its counts say
  pub by_counts : (c : ℕ) (ls : List Leg) (d : ℕ) → goes ss c ls d ≡ true → how_long ss ls ≡ stretch ss (times ls)
  unfolding how_long
  by_counts c [] d h = sym (weigh_none (λ s. s.long))
  by_counts c (l ∷ ls) d h =
      let s = step c l ls d h in
      omega (arith, by_counts (stops ss l) ls d s.on, weigh_leg (λ s. s.long) l ls s.may, leg_as_long ss l)

  -- it uses only streets that are there
  pub used_there : (c : ℕ) (ls : List Leg) (d i : ℕ) → goes ss c ls d ≡ true → 0 < times ls i → i < length ss
  unfolding times
  used_there c [] d i h u = absurd (omega arith)
  used_there c (l ∷ ls) d i h u =
      let s = step c l ls d h in
      let t = leg_there ss l s.may in
      elim (cases_lt 0 (times ls i)) [ inl m ↦ used_there (stops ss l) ls d i s.on m | inr m ↦ grind (arith, nat_tests) ]

  cut_later : (c : ℕ) (l : Leg) (ls : List Leg) (d k : ℕ) → Step ss c l ls d → Cut ss (stops ss l) ls d k → Cut ss c (l ∷ ls) d k
  cut_later c l ls d k s r =
      record {
        before = l ∷ r.before;
        behind = r.behind;
        whole = cc;
        to = go_on c l r.before k (record { may = s.may; here = s.here; on = r.to });
        from = r.from;
      }

  cut_here : (c : ℕ) (ls : List Leg) (d k : ℕ) → goes ss c ls d ≡ true → c ≡ k → Cut ss c ls d k
  cut_here c ls d k h e = record { before = []; behind = ls; whole = refl; to = rw e (stay k); from = rw e at h }

  -- it comes to both ends of each street that it uses
  pub cut : (c : ℕ) (ls : List Leg) (d i k : ℕ) → goes ss c ls d ≡ true → 0 < times ls i → 0 < ends (street ss i) k → Cut ss c ls d k
  unfolding times
  cut c [] d i k h u e = absurd (omega arith)
  cut c (l ∷ ls) d i k h u e =
      let s = step c l ls d h in
      elim (cases_lt 0 (times ls i)) [
        | inl m ↦ cut_later c l ls d k s (cut (stops ss l) ls d i k s.on m e)
        | inr m ↦
            let same : l.along ≡ i = grind (arith, nat_tests) in
            elim (leg_at ss l k (rw same e)) [
              | inl b ↦ cut_here c (l ∷ ls) d k h (sym s.here ∙ b)
              | inr b ↦ cut_later c l ls d k s (cut_here (stops ss l) ls d k s.on b)
            ]
      ]
