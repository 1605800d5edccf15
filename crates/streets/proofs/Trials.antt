-- The test of all rounds that use no street more than twice tells which rounds are shortest; so there is a shortest one.
use Rattle.std.proofs.Common.{◌≡◌, ℕ, zero, suc, ◌+◌, ◌-◌, ◌*◌, ◌<◌, ◌≤◌, Bool, true, false, ◌&&◌, ltb, List, [], ◌∷◌, length, Decides, refl, inl, inr, arith}
use Rattle.std.proofs.lemmas.Bool.{and_cases, true_from_ne_false, both_ways, cases_Bool, cases_lt}
use Rattle.std.proofs.lemmas.Bool.Decides.{nat_tests, Decides-ltb, Decides-below_and}
use Rattle.streets.specs.Streets.{Street, Leg, forward, backward, stops, may_go, leg_long, goes, how_long, mark, times, all_gone, is_round, AtMostTwice}
use Rattle.streets.specs.Calls.{Shortest}
use Rattle.streets.specs.Trials.{every_leg, all_used, complete, next, none_below, tried}
use Rattle.streets.specs.Theorems.{Joined, Tried, triangle, TriangleShortest, path, PathShortest}
use Rattle.streets.proofs.Legs.{leg_there}
use Rattle.streets.proofs.Walks.{Step, step, go_on, stands, used_there}
use Rattle.streets.proofs.Counts.{few_legs}
use Rattle.streets.proofs.Tests.{from_round, to_round}
use Rattle.streets.proofs.Rounds.{a_round, slimmed, slimmed_by}

all_used_decides : (left : ℕ → ℕ) (n : ℕ) → Decides (all_used left n) ((i : ℕ) → i < n → left i < 2)
unfolding all_used
all_used_decides left n = Decides-below_and (λ i. ltb (left i) 2) (λ i. left i < 2) (all_used left) (λ i. Decides-ltb (left i) 2) refl (λ _. refl) n

both_legs : (p : Leg → Bool) (i : ℕ) (b : Bool) → (p (forward i) && p (backward i)) ≡ true → p (record { along = i; back = b }) ≡ true
both_legs p i true h = grind (arith, nat_tests)
both_legs p i false h = grind (arith, nat_tests)

leg_passes : (n : ℕ) (p : Leg → Bool) → every_leg n p ≡ true → (l : Leg) → l.along < n → p l ≡ true
unfolding every_leg
leg_passes n p h l a =
    let both : ℕ → Bool = λ i. p (forward i) && p (backward i) in
    both_legs p l.along l.back ((Decides-below_and both (λ i. both i ≡ true) (λ m. every_leg m p) (λ i. (λ e. e, λ e. e)) refl (λ _. refl) n).0 h l.along a)

leg_fails : (n : ℕ) (p : Leg → Bool) → every_leg n p ≡ false → (l : Leg) × (p l ≡ false)
unfolding every_leg
leg_fails zero p h = absurd (both_ways true h refl)
leg_fails (suc n) p h =
    elim (and_cases (p (forward n) && p (backward n)) (every_leg n p) h) [
      | inl q ↦ elim (and_cases (p (forward n)) (p (backward n)) q) [ inl a ↦ (forward n, a) | inr b ↦ (backward n, b) ]
      | inr q ↦ leg_fails n p q
    ]

-- a walk that completes a round, within what is left
record Completes (ss : List Street) (c : ℕ) (left : ℕ → ℕ) (v : ℕ) (ls : List Leg) : Type 0 where
  walks : goes ss v ls c ≡ true
  within : (i : ℕ) → times ls i ≤ left i
  enough : (i : ℕ) → i < length ss → left i < 2 + times ls i

-- a walk that completes a round at a length below b
record Found (ss : List Street) (c : ℕ) (left : ℕ → ℕ) (v b : ℕ) : Type 0 where
  legs : List Leg
  walks : goes ss v legs c ≡ true
  enough : (i : ℕ) → i < length ss → left i < 2 + times legs i
  short : how_long ss legs < b

module _ (ss : List Street) (c : ℕ) where
  module _ (left : ℕ → ℕ) (v : ℕ) where
    no_leg : Completes ss c left v [] → complete ss c left v ≡ true
    unfolding times
    no_leg h =
        grind (arith, nat_tests, stands ss v c h.walks, (all_used_decides left (length ss)).1 (λ i a. omega (arith, h.enough i a)))

    found_here : (b : ℕ) → complete ss c left v ≡ true → 0 < b → Found ss c left v b
    unfolding goes how_long times
    found_here b h some =
        record {
          legs = [];
          walks = grind (arith, nat_tests);
          enough = λ i l. omega (arith, (all_used_decides left (length ss)).0 (grind (arith, nat_tests)) i l);
          short = some;
        }

  -- where the test holds, no walk completes a round at a length below b
  none_found : (m : ℕ) (left : ℕ → ℕ) (v b : ℕ) (ls : List Leg) →
      none_below ss c m left v b ≡ true →
      Completes ss c left v ls →
      length ls ≤ m →
      b ≤ how_long ss ls
  unfolding none_below how_long times
  none_found zero left v b [] t h few = grind (arith, nat_tests, no_leg left v h)
  none_found zero left v b (l ∷ ls) t h few = absurd (omega arith)
  none_found (suc m) left v b [] t h few = grind (arith, nat_tests, no_leg left v h)
  none_found (suc m) left v b (l ∷ ls) t h few =
      elim (cases_lt 0 b) [
        | inl some ↦
            let s = step ss v l ls c h.walks in
            let less : ℕ → ℕ = λ i. left i - mark l.along i in
            let rest = b - leg_long ss l in
            let q = leg_passes (length ss) (next ss (none_below ss c m) left v b) (grind (arith, nat_tests)) l (leg_there ss l s.may) in
            let on : none_below ss c m less (stops ss l) rest ≡ true = grind (arith, nat_tests, q, h.within l.along) in
            let later : Completes ss c less (stops ss l) ls = record { walks = s.on; within = λ i. omega (arith, h.within i); enough = λ i a. omega (arith, h.enough i a) } in
            omega (arith, none_found m less (stops ss l) rest ls on later (omega arith))
        | inr none ↦ omega arith
      ]

  -- where it fails, one does
  one_found : (m : ℕ) (left : ℕ → ℕ) (v b : ℕ) → none_below ss c m left v b ≡ false → Found ss c left v b
  unfolding none_below how_long times
  one_found zero left v b h = found_here left v b (grind (arith, nat_tests)) (grind (arith, nat_tests))
  one_found (suc m) left v b h =
      elim (cases_Bool (complete ss c left v)) [
        | inl d ↦ found_here left v b d (grind (arith, nat_tests))
        | inr n ↦
            let f = leg_fails (length ss) (next ss (none_below ss c m) left v b) (grind (arith, nat_tests)) in
            let l = f.0 in
            let r = one_found m (λ i. left i - mark l.along i) (stops ss l) (b - leg_long ss l) (grind (arith, nat_tests, f.1)) in
            let first : Step ss v l r.legs c = record { may = grind (arith, nat_tests, f.1); here = grind (arith, nat_tests, f.1); on = r.walks } in
            record { legs = l ∷ r.legs; walks = go_on ss v l r.legs c first; enough = λ i a. omega (arith, r.enough i a); short = omega (arith, r.short) }
      ]

  -- rounds that use no street more than twice are among the walks that are tried
  among : (ls : List Leg) → is_round ss c ls ≡ true → AtMostTwice ls (length ss) → Completes ss c (λ _. 2) c ls
  among ls h twice =
      let r = from_round ss c ls h in
      record {
        walks = r.walks;
        within = λ i. elim (cases_lt 0 (times ls i)) [ inl m ↦ twice i (used_there ss c ls c i r.walks m) | inr m ↦ omega arith ];
        enough = λ i l. omega (arith, r.covers i l);
      }

  -- a round that passes the test is shortest
  passed : (ls : List Leg) → tried ss c ls ≡ true → Shortest ss c ls
  unfolding tried
  passed ls h =
      let b = how_long ss ls in
      let least : (ms : List Leg) → is_round ss c ms ≡ true → b ≤ how_long ss ms =
      λ ms g.
      let r = slimmed ss c ms g in
      let twice : AtMostTwice r.legs (length ss) = λ i l. omega (arith, r.counts i l) in
      let few = few_legs ss c r.legs c (from_round ss c r.legs r.goes_all).walks twice in
      omega (arith, slimmed_by ss c ms g, none_found (2 * length ss) (λ _. 2) c b r.legs (grind (arith, nat_tests)) (among r.legs r.goes_all twice) few) in
      record { goes_all = grind (arith, nat_tests); least = least }

  shorter : (ls : List Leg) →
      is_round ss c ls ≡ true →
      tried ss c ls ≡ false →
      (ms : List Leg) × (is_round ss c ms ≡ true) × (how_long ss ms < how_long ss ls)
  unfolding tried
  shorter ls h t =
      let f = one_found (2 * length ss) (λ _. 2) c (how_long ss ls) (grind (arith, nat_tests)) in
      (f.legs, to_round ss c f.legs (record { walks = f.walks; covers = λ i l. omega (arith, f.enough i l) }), f.short)

  shortest_within : (bound : ℕ) (ls : List Leg) → is_round ss c ls ≡ true → how_long ss ls ≤ bound → (ms : List Leg) × Shortest ss c ms
  shortest_within zero ls h l = (ls, record { goes_all = h; least = λ ms g. omega arith })
  shortest_within (suc bound) ls h l =
      elim (cases_Bool (tried ss c ls)) [
        | inl t ↦ (ls, passed ls t)
        | inr t ↦ let r = shorter ls h t in shortest_within bound r.0 r.1 (omega (arith, r.2))
      ]

  -- where there is a round there is a shortest one
  pub some_shortest : Joined ss c → (ls : List Leg) × Shortest ss c ls
  some_shortest j = let r = (a_round ss c).0 j in shortest_within (how_long ss r.0) r.0 r.1 (omega arith)

pub tried_shortest : Tried
tried_shortest ss c ls = (
  passed ss c ls,
  λ short. true_from_ne_false (tried ss c ls) (λ t. let r = shorter ss c ls short.goes_all t in omega (arith, r.2, short.least r.0 r.1)),
)

pub triangle_shortest : TriangleShortest
unfolding tried none_below every_leg all_used goes may_go leg_long how_long times all_gone
triangle_shortest = (passed triangle 0 (forward 0 ∷ forward 1 ∷ forward 2 ∷ []) refl, refl)

pub path_shortest : PathShortest
unfolding tried none_below every_leg all_used goes may_go leg_long how_long times all_gone
path_shortest = (passed path 0 (forward 0 ∷ forward 1 ∷ backward 1 ∷ backward 0 ∷ []) refl, refl)
