-- The Eulerian recursion: a visit by its two cases, that there is one, and that it leaves nothing where all hangs together.
use Rattle.std.proofs.Common.{◌≡◌, ℕ, zero, suc, ◌+◌, ◌-◌, ◌<◌, ◌≤◌, true, List, [], ◌∷◌, ◌++◌, length, inl, inr, arith}
use Rattle.std.proofs.lemmas.Bool.{cases_lt}
use Rattle.std.proofs.lemmas.Bool.Decides.{nat_tests}
use Rattle.streets.specs.Streets.{Street, street, Leg, forward, may_go, goes, starts, stops, leaving, mark, times, ends}
use Rattle.streets.specs.Counts.{weigh, degree, EvenBut, Connected, Visit}
use Rattle.streets.proofs.Sums.{ones, taken, weigh_split, weigh_more, weigh_some, weigh_nothing, some_street}
use Rattle.streets.proofs.Legs.{leg_there, leg_may, leg_ends, starts_end, stops_end, leaving_starts}
use Rattle.streets.proofs.Walks.{step, go_on, stands, stay, goes-append, times-append, weigh_none, weigh_leg}

record Visited (ss : List Street) (left : ℕ → ℕ) (v w : ℕ) : Type 0 where
  walk : List Leg
  rest : ℕ → ℕ
  seen : Visit ss left v w walk rest

module _ (ss : List Street) where
  -- nothing is left here
  pub stop : (left : ℕ → ℕ) (v w : ℕ) → EvenBut ss left v w → degree ss left v ≡ 0 → Visit ss left v w [] left
  unfolding times
  stop left v w even none =
      let same : v ≡ w = grind (arith, nat_tests, even v) in
      record {
        walks = rw same (stay ss w);
        split = λ i. omega arith;
        even = λ k. grind (arith, even k, same);
        bare = λ k. grind (arith, nat_tests, none, weigh_none ss (λ s. ends s k));
      }

  module _
      (left less : ℕ → ℕ) (v w : ℕ) (l : Leg)
      (may : may_go ss l ≡ true)
      (here : starts ss l ≡ v)
      (split : (i : ℕ) → left i ≡ mark l.along i + less i)
    where
      -- take a leg, visit the corner where it stops, and then this one again
      pub join : {on home : List Leg} {rest last : ℕ → ℕ} →
          Visit ss less (stops ss l) w on rest →
          Visit ss rest v v home last →
          Visit ss left v w (home ++ l ∷ on) last
      unfolding times
      join {on} {home} {rest} {last} first second =
          record {
            walks = goes-append ss v home v (l ∷ on) w second.walks (go_on ss v l on w (record { may = may; here = here; on = first.walks }));
            split = λ i. omega (arith, split i, first.split i, second.split i, times-append home (l ∷ on) i);
            even = second.even;
            bare =
                λ k.
                let f : Street → ℕ = λ s. ends s k in
                grind (
                  arith,
                  here,
                  first.bare k,
                  second.bare k,
                  weigh_split ss f (times (home ++ l ∷ on)) (times home) (times (l ∷ on)) (λ i _. times-append home (l ∷ on) i),
                  weigh_leg ss f l on may,
                  weigh_split ss f rest (times home) last (λ i _. second.split i),
                  leg_ends ss l k,
                );
          }

      -- what is left after the leg can be a walk from where it stops
      pub leg_even : EvenBut ss left v w → EvenBut ss less (stops ss l) w
      leg_even even k =
          grind (arith, even k, leg_ends ss l k, here, weigh_more ss (λ s. ends s k) less left l.along (leg_there ss l may) split)

  -- where something is left at a corner, a leg of it starts there
  some_leg : (left : ℕ → ℕ) (v : ℕ) → 0 < degree ss left v → (l : Leg) × (may_go ss l ≡ true) × (0 < left l.along) × (starts ss l ≡ v)
  some_leg left v h =
      let r = some_street ss (λ s. ends s v) left h in
      let l = leaving ss v r.0 in
      (l, leg_may ss l r.1, r.2, leaving_starts ss v r.0 r.3)

  visit_from : (bound : ℕ) (left : ℕ → ℕ) (v w : ℕ) → weigh ss ones left ≤ bound → EvenBut ss left v w → Visited ss left v w
  visit_from zero left v w few even = record { walk = []; rest = left; seen = stop left v w even (weigh_nothing ss (λ s. ends s v) left few) }
  visit_from (suc bound) left v w few even =
      elim (cases_lt 0 (degree ss left v)) [
        | inl m ↦
            let r = some_leg left v m in
            let l = r.0 in
            let less : ℕ → ℕ = λ i. left i - mark l.along i in
            let split = taken left l.along r.2 in
            let more = weigh_more ss ones less left l.along (leg_there ss l r.1) split in
            let on = visit_from bound less (stops ss l) w (omega arith) (leg_even left less v w l r.1 r.3 split even) in
            let fewer = weigh_split ss ones less (times on.walk) on.rest (λ i _. on.seen.split i) in
            let home = visit_from bound on.rest v v (omega arith) (λ k. omega (arith, on.seen.even k)) in
            let seen = join left less v w l r.1 r.3 split {on = on.walk} {home = home.walk} {rest = on.rest} {last = home.rest} on.seen home.seen in
            record { walk = home.walk ++ l ∷ on.walk; rest = home.rest; seen = seen }
        | inr m ↦ record { walk = []; rest = left; seen = stop left v w even (omega arith) }
      ]

  module _ {left rest : ℕ → ℕ} {v w : ℕ} {walk : List Leg} (seen : Visit ss left v w walk rest) where
    -- a corner of the walk
    abbrev Touched : ℕ → Type 0
    Touched k = 0 < mark v k + degree ss (times walk) k

    touched_on : (l : Leg) → may_go ss l ≡ true → 0 < left l.along → Touched (starts ss l) → Touched (stops ss l)
    touched_on l may some here =
        let e = l.along in
        elim (cases_lt 0 (times walk e)) [
          | inl m ↦ omega (arith, weigh_some ss (λ s. ends s (stops ss l)) (times walk) e (leg_there ss l may) m (stops_end ss l))
          | inr m ↦
              let a = weigh_some ss (λ s. ends s (starts ss l)) rest e (leg_there ss l may) (omega (arith, some, seen.split e)) (starts_end ss l) in
              absurd (omega (arith, here, seen.bare (starts ss l)))
        ]

    -- along streets that were left one stays among the walk's corners
    stays : (c : ℕ) (ls : List Leg) (d : ℕ) → goes ss c ls d ≡ true → ((e : ℕ) → 0 < times ls e → 0 < left e) → Touched c → Touched d
    unfolding times
    stays c [] d h own here = rw (stands ss c d h) at here
    stays c (l ∷ ls) d h own here =
        let s = step ss c l ls d h in
        let on = touched_on l s.may (own l.along (grind (arith, nat_tests))) (rw s.here here) in
        stays (stops ss l) ls d s.on (λ i u. own i (omega arith)) on

    -- where all that was left hangs together, nothing is left over
    pub nothing_left : Connected ss left v → (i : ℕ) → i < length ss → rest i ≡ 0
    nothing_left all i l =
        elim (cases_lt 0 (rest i)) [
          | inl m ↦
              let a = (street ss i).one in
              let r = all i l (omega (arith, seen.split i)) in
              let t = stays v r.0 a r.1 r.2 (grind (arith, nat_tests)) in
              absurd (omega (arith, seen.bare a, weigh_some ss (λ s. ends s a) rest i l m (starts_end ss (forward i))))
          | inr m ↦ omega arith
        ]

  -- the walk that has given counts
  pub remade : (t : ℕ → ℕ) (v w : ℕ) →
      EvenBut ss t v w →
      Connected ss t v →
      (ls : List Leg) × (goes ss v ls w ≡ true) × ((i : ℕ) → i < length ss → times ls i ≡ t i)
  remade t v w even all =
      let r = visit_from (weigh ss ones t) t v w (omega arith) even in
      (r.walk, r.seen.walks, λ i l. omega (arith, r.seen.split i, nothing_left r.seen all i l))
