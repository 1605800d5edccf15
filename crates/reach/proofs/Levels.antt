-- A search that is over: its levels are those of the walks there are.
use Rattle.std.proofs.Common.{◌≡◌, ℕ, zero, suc, ◌+◌, ◌-◌, ◌<◌, ◌≤◌, Bool, true, ◌↔◌, List, [], ◌∷◌, ◌++◌, length, refl, ap, subst, arith}
use Rattle.std.proofs.lemmas.Bool.{cond_both}
use Rattle.std.proofs.lemmas.List.{length-append}
use Rattle.streets.specs.Streets.{Street, street, Leg, starts, stops, may_go, goes}
use Rattle.streets.specs.Theorems.{Joined}
use Rattle.streets.proofs.Legs.{leg_there}
use Rattle.streets.proofs.Walks.{step, stands, stay, goes-append, one_leg}
use Rattle.streets.proofs.Rounds.{a_round}
use Rattle.streets.specs.Calls.{Limits}
use Rattle.town.specs.Town.{Front}
use Rattle.reach.specs.Reach.{Level, AllReached}
use Rattle.reach.specs.Searching.{Closed, Search}

-- all streets end below n
abbrev pub Inside : ℕ → List Street → Type 0
Inside n ss = (i : ℕ) → i < length ss → ((street ss i).one < n) × ((street ss i).other < n)

pub inside_town : {l : Limits} {m : List ℕ} {ss : List Street} {n : ℕ} → n ≡ l.corners → Front l m ss → Inside n ss
inside_town e f i h = let p = f.proper i h in rw e (p.one_there, p.other_there)

module _ (ss : List Street) (n : ℕ) (inside : Inside n ss) where
  pub leg_inside : (l : Leg) → may_go ss l ≡ true → (starts ss l < n) × (stops ss l < n)
  leg_inside l may =
      let p = inside l.along (leg_there ss l may) in
      (cond_both l.back _ _ (λ v. v < n) (λ _. p.1) (λ _. p.0), cond_both l.back _ _ (λ v. v < n) (λ _. p.0) (λ _. p.1))

  -- from a corner that is not there nothing is reached
  pub none_from : (c k : ℕ) → n ≤ c → k < n → Level ss c k 0
  none_from c k out h = record { walk = λ some. absurd (omega arith); fewest = λ ls g. absurd (nowhere ls g) }
    where
      nowhere : (ls : List Leg) → goes ss c ls k ≡ true → ⊥
      nowhere [] g = omega (arith, stands ss c k g)
      nowhere (l ∷ ls) g = let p = step ss c l ls k g in omega (arith, p.here, (leg_inside l p.may).0)

  module _ (level : ℕ → ℕ) (first : ℕ → Leg) (queue : ℕ → ℕ) (done found : ℕ) (s : Search ss n level first queue done found) (over : found ≤ done) where
    closed_at : (k : ℕ) → k < n → 0 < level k → Closed ss level k
    closed_at k h some = let p = s.placed k h some in subst (Closed ss level) p.2 (s.closed p.0 (omega (arith, p.1)))

    -- a walk rises by at most one level with each leg
    along : (ls : List Leg) (a k : ℕ) → a < n → 0 < level a → goes ss a ls k ≡ true → (0 < level k) × (level k ≤ length ls + level a)
    along [] a k h some g = omega (arith, ap level (stands ss a k g))
    along (l ∷ ls) a k h some g =
        let p = step ss a l ls k g in
        let near = closed_at a h some l p.may p.here in
        let r = along ls (stops ss l) k (leg_inside l p.may).1 near.0 p.on in
        (r.0, omega (arith, r.1, near.1))

    walk_to : (v k : ℕ) → k < n → level k ≡ suc v → (ls : List Leg) × (goes ss (queue 0) ls k ≡ true) × (length ls ≡ v)
    walk_to zero k h e = ([], rw (s.lowest k h e) (stay ss (queue 0)), refl)
    walk_to (suc v) k h e =
        let p = s.firsts k h (omega arith) in
        let l : Leg = first k in
        let r = walk_to v (starts ss l) (leg_inside l p.may).0 (omega (arith, p.lower)) in
        let last : goes ss (starts ss l) (l ∷ []) k ≡ true = rw p.here at (one_leg ss l p.may) in
        (r.0 ++ l ∷ [], goes-append ss (queue 0) r.0 (starts ss l) (l ∷ []) k r.1 last, omega (arith, length-append r.0 (l ∷ []), r.2))

    pub levels_found : (k : ℕ) → k < n → Level ss (queue 0) k (level k)
    levels_found k h = record {
      walk = λ some. let r = walk_to (level k - 1) k h (omega arith) in (r.0, r.1, omega (arith, r.2));
      fewest = λ ls g. let r = along ls (queue 0) k (s.queued 0 s.asked.0).0 (omega (arith, s.asked.1)) g in (r.0, omega (arith, r.1, s.asked.1));
    }

  -- whether each street has a level above 0 tells whether there is a round
  pub tells : (level : ℕ → ℕ) (c : ℕ) (all : Bool) →
      ((k : ℕ) → k < n → Level ss c k (level k)) →
      (all ≡ true) ↔ ((i : ℕ) → i < length ss → 0 < level (street ss i).one) →
      AllReached ss c all
  tells level c all levels each = record { joined = joined; round = (λ e. let r = (a_round ss c).0 (joined.0 e) in (r.0, r.1), λ r. joined.1 ((a_round ss c).1 r.0 r.1)) }
    where
      joined : (all ≡ true) ↔ Joined ss c
      joined = (
        (λ e i h. let w = (levels (street ss i).one (inside i h).0).walk (each.0 e i h) in (w.0, w.1)),
        λ j. each.1 (λ i h. let w = j i h in ((levels (street ss i).one (inside i h).0).fewest w.0 w.1).0),
      )
