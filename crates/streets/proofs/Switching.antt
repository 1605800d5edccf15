-- Counts of one or two for each street, switched along walks.
use Rattle.std.proofs.Common.{◌≡◌, ℕ, suc, ◌+◌, ◌-◌, ◌%◌, ◌<◌, true, cond, eqb, ◌⊎◌, List, [], ◌∷◌, length, All, sym, refl, inl, inr, arith}
use Rattle.std.proofs.lemmas.Bool.{cases_lt}
use Rattle.std.proofs.lemmas.Bool.Decides.{nat_tests}
use Rattle.streets.specs.Streets.{Street, street, Leg, stops, goes, how_long, mark, ends, total, ends_at, all_long}
use Rattle.streets.specs.Counts.{weigh, OnceOrTwice, Switched}
use Rattle.streets.specs.Pairs.{Way}
use Rattle.streets.proofs.Sums.{one_more, weigh_more}
use Rattle.streets.proofs.Legs.{leg_there, leg_ends, leg_as_long}
use Rattle.streets.proofs.Walks.{step, stands}

module _ (ss : List Street) where
  -- one after the other
  pub switched_on : {t u v f g h : ℕ → ℕ} {m n : ℕ} →
      Switched ss t f m u →
      Switched ss u g n v →
      ((k : ℕ) → (f k + g k) % 2 ≡ h k % 2) →
      Switched ss t h (m + n) v
  switched_on a b e = record { still = b.still; parity = λ k. omega (arith, a.parity k, b.parity k, e k); cost = omega (arith, a.cost, b.cost) }

  -- street e switched: from once to twice, or back
  module _
      (t u : ℕ → ℕ) (e : ℕ) (e_there : e < length ss)
      (once : OnceOrTwice ss t)
      (here : u e + t e ≡ 3)
      (else_same : (i : ℕ) → (e ≡ i → ⊥) → u i ≡ t i)
    where
      weighs : (f : Street → ℕ) → (weigh ss f u ≡ f (street ss e) + weigh ss f t) ⊎ (weigh ss f t ≡ f (street ss e) + weigh ss f u)
      weighs f =
          let few = once e e_there in
          elim (cases_lt (t e) 2) [
            | inl l ↦ inl (weigh_more ss f t u e e_there (one_more t u e (omega (arith, here)) else_same))
            | inr l ↦ inr (weigh_more ss f u t e e_there (one_more u t e (omega (arith, here)) (λ i n. sym (else_same i n))))
          ]

      pub switched_street : Switched ss t (ends (street ss e)) (street ss e).long u
      switched_street =
          record {
            still = λ i l. grind (arith, else_same i, once i l);
            parity = λ k. omega (arith, weighs (λ s. ends s k));
            cost = omega (arith, weighs (λ s. s.long));
          }

  -- along a walk
  switched_walk : (t : ℕ → ℕ) (a : ℕ) (ls : List Leg) (b : ℕ) →
      OnceOrTwice ss t →
      goes ss a ls b ≡ true →
      (u : ℕ → ℕ) × Switched ss t (λ k. mark a k + mark b k) (how_long ss ls) u
  unfolding how_long
  switched_walk t a [] b once h = (t, record { still = once; parity = λ k. grind (arith, stands ss a b h); cost = omega arith })
  switched_walk t a (l ∷ ls) b once h =
      let s = step ss a l ls b h in
      let there = leg_there ss l s.may in
      let few = once l.along there in
      let u : ℕ → ℕ = λ i. cond (eqb l.along i) (3 - t i) (t i) in
      let first = switched_street t u l.along there once (grind (arith, nat_tests)) (λ i n. grind (arith, nat_tests)) in
      let rest = switched_walk u (stops ss l) ls b first.still s.on in
      (rest.0, rw (leg_as_long ss l) (switched_on {v = rest.0} first rest.1 (λ k. grind (arith, s.here, leg_ends ss l k))))

  -- along ways between the corners of pairs
  pub switched_pairs : (t : ℕ → ℕ) (ps : List Street) →
      OnceOrTwice ss t →
      All (λ p. Way ss p.one p.other p.long) ps →
      (u : ℕ → ℕ) × Switched ss t (ends_at ps) (all_long ps) u
  unfolding total
  switched_pairs t [] once ws = (t, record { still = once; parity = λ k. omega arith; cost = omega arith })
  switched_pairs t (p ∷ ps) once ws =
      let w = ws 0 p (omega arith) in
      let first = switched_walk t p.one w.0 p.other once w.1 in
      let rest = switched_pairs first.0 ps first.1.still (λ k d l. ws (suc k) d (omega arith)) in
      (rest.0, switched_on (rw w.2 at first.1) rest.1 (λ k. refl))
