-- Calls that pass their checks.
use Rattle.std.proofs.Common.{◌≡◌, ℕ, ◌<◌, ◌≤◌, refl, ◌∙◌, cond, ◌&&◌, ltb, leb, List, [], ◌∷◌, ◌++◌, length, drop, Some, None, Ok, eqb, true, sym, ap, arith}
use Rattle.std.specs.List.{remove}
use Rattle.std.proofs.lemmas.Bool.{eq-eqb}
use Rattle.std.proofs.lemmas.Bool.Decides.{nat_tests}
use Rattle.std.proofs.lemmas.Option.{cond_some}
use Rattle.streets.specs.Streets.{Street, joining}
use Rattle.streets.specs.Protocol.{first_number}
use Rattle.streets.specs.Calls.{Limits, longest, Call, opens, closes, odd, round, garbled, Answer, number, checks, changed, may_say}
use Rattle.town.specs.Layout.{limits_in, streets_in, words}
use Rattle.town.specs.Town.{Proper, Town, Sound}
use Rattle.town.specs.Changes.{in_range, Opened, Called}
use Rattle.town.specs.Laws.{MemorySuffices}
use Rattle.town.proofs.Holding as held
use Rattle.town.proofs.Holding.{own, owned, own_town, changed_behind}

pub accepted : {m m' : List ℕ} {c : Call} {a : Answer} → first_number (checks (limits_in m) (streets_in m) c) ≡ 0 → may_say (limits_in m) (streets_in m) c a → Town (limits_in m) m' (changed (streets_in m) c) → drop (words (limits_in m)) m' ≡ drop (words (limits_in m)) m → Called m c a m'
accepted {m = m} {c = c} e may t behind =
    let yes : eqb (first_number (checks (limits_in m) (streets_in m) c)) 0 ≡ true = eq-eqb _ 0 e in
    record { says = rw yes may; holds = rw yes t; kept = λ some. absurd (omega arith); behind = behind }

-- a town opened with the limits l, handed on by the first check as l₁ and by the second as l₂
module _ (l : Limits) {l₁ l₂ : Limits} (m : List ℕ) (first : cond (in_range l) (Some l) None ≡ Some l₁) (second : cond (leb (words l₁) (length m)) (Some l₁) None ≡ Some l₂) where
  taken : (in_range l ≡ true) × (leb (words l) (length m) ≡ true) × (l ≡ l₂)
  taken = let a = cond_some _ _ _ first in let b = cond_some _ _ _ second in (a.0, rw a.1 b.0, a.1 ∙ b.1)

  pub room : words l₂ ≤ length m
  room = grind (arith, nat_tests, taken.1, ap words taken.2)

  pub town_opened : {A : Type 0} {x : A} {m₂ : List ℕ} → Town l₂ m₂ [] → drop (words l₂) m₂ ≡ drop (words l₂) m → Opened l m (Ok x) m₂
  town_opened t behind =
      record {
        number = rw (taken.0, taken.1) refl;
        place = rw (taken.0, taken.1) refl;
        holds = λ _. rw taken.2 t;
        kept = λ some. absurd (omega arith);
        behind = rw taken.2 behind;
      }

  -- the same, when the words handed on have come back as ys
  pub town_begun : {n : ℕ} → n ≡ words l₂ → {A : Type 0} {x : A} {ys : List ℕ} → length ys ≡ length (own n m) → Town l₂ ys [] → Opened l m (Ok x) (owned n m ys)
  town_begun all kept t = town_opened (held.put_back _ _ all room kept t) (held.behind_stays _ _ all room _ kept)

-- a street opened, when each check has handed on its value
module _ (m : List ℕ) (a b long : ℕ) {a' b' long' i : ℕ} {s : Street} (is : s ≡ joining a' b' long') (one : cond (ltb a (limits_in m).corners) (Some a) None ≡ Some a') (other : cond (ltb b (limits_in m).corners) (Some b) None ≡ Some b') (fits : cond (leb 1 long && leb long longest) (Some long) None ≡ Some long') (next : cond (ltb (length (streets_in m)) (limits_in m).streets) (Some (length (streets_in m))) None ≡ Some i) where
  asked : s ≡ joining a b long
  asked = cc (is, (cond_some _ _ _ one).1, (cond_some _ _ _ other).1, (cond_some _ _ _ fits).1)

  pub can_add : (length (streets_in m) < (limits_in m).streets) × Proper (limits_in m) s
  can_add =
      let p : Proper (limits_in m) (joining a' b' long') = record { one_there = grind (arith, nat_tests); other_there = grind (arith, nat_tests); some_long = grind (arith, nat_tests); not_too_long = grind (arith, nat_tests) } in
      (grind (arith, nat_tests), rw is p)

  pub street_opened : {m' : List ℕ} → Town (limits_in m) m' (streets_in m ++ s ∷ []) → drop (words (limits_in m)) m' ≡ drop (words (limits_in m)) m → Called m (opens a b long) (number i) m'
  unfolding changed may_say
  street_opened t behind = accepted (grind (arith, nat_tests)) (ap number (sym (cond_some _ _ _ next).1)) (rw asked at t) behind

  -- the same of the words of a sound town, which are handed on and come back as ys
  module _ {n : ℕ} (t : Sound m) (all : n ≡ words (limits_in m)) where
    pub adds : Sound (own n m) × (length (streets_in (own n m)) < (limits_in (own n m)).streets) × Proper (limits_in (own n m)) s
    adds = let o = (own_town t all).front in rw (o.limits, o.streets) (own_town t all, can_add.0, can_add.1)

    pub added : {ys : List ℕ} → length ys ≡ length (own n m) → Town (limits_in (own n m)) ys (streets_in (own n m) ++ s ∷ []) → Called m (opens a b long) (number i) (owned n m ys)
    added kept u = street_opened (held.changed t all _ kept (rw (own_town t all).front.streets at u)) (changed_behind t all _ kept)

-- a street closed
module _ (m : List ℕ) (i : ℕ) {i' : ℕ} (there : cond (ltb i (length (streets_in m))) (Some i) None ≡ Some i') where
  pub street_closed : {m' : List ℕ} → Town (limits_in m) m' (remove (streets_in m) i') → drop (words (limits_in m)) m' ≡ drop (words (limits_in m)) m → Called m (closes i) (number i') m'
  unfolding changed may_say
  street_closed t behind =
      let h = (cond_some _ _ _ there).1 in
      accepted (grind (arith, nat_tests)) (ap number (sym h)) (rw (← h) at t) behind

  -- the same of the words of a sound town, likewise
  module _ {n : ℕ} (t : Sound m) (all : n ≡ words (limits_in m)) where
    pub can_remove : Sound (own n m) × (i' < length (streets_in (own n m)))
    can_remove = let o = (own_town t all).front in rw (o.limits, o.streets) (own_town t all, grind (arith, nat_tests))

    pub removed : {ys : List ℕ} → length ys ≡ length (own n m) → Town (limits_in (own n m)) ys (remove (streets_in (own n m)) i') → Called m (closes i) (number i') (owned n m ys)
    removed kept u = street_closed (held.changed t all _ kept (rw (own_town t all).front.streets at u)) (changed_behind t all _ kept)

pub memory_suffices : MemorySuffices
memory_suffices l ss (opens a b n) e = grind (arith, nat_tests)
memory_suffices l ss (closes i) e = grind (arith, nat_tests)
memory_suffices l ss odd e = omega arith
memory_suffices l ss (round c) e = grind (arith, nat_tests)
memory_suffices l ss (garbled p) e = omega arith
