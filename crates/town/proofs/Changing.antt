-- Head and streets of memory after a change of the streets.
use Rattle.std.proofs.Common.{◌≡◌, ℕ, ◌+◌, ◌-◌, ◌<◌, ◌≤◌, List, [], ◌∷◌, ◌++◌, length, set, ◌∙◌, inl, inr, arith, rules, ◌≢◌}
use Rattle.std.proofs.lemmas.List.{places, length-set, get_or-set_same, get_or-set_other, length_push, get_or_push, get_or_append_left}
use Rattle.std.specs.List.{remove}
use Rattle.std.proofs.lemmas.List.Edits.{length-remove, get_or-remove_below, get_or-remove_above}
use Rattle.std.proofs.lemmas.Bool.{cases_lt}
use Rattle.streets.specs.Streets.{Street, street}
use Rattle.streets.specs.Calls.{Limits}
use Rattle.streets.specs.Promise.{GoodLimits}
use Rattle.town.specs.Layout.{corners_at, limit_at, count_at, street_words, word, street_from, street_in, words}
use Rattle.town.specs.Town.{Proper, Front}
use Rattle.town.proofs.Layouts.{front_from, front_changed, street_is, street_kept, street_moved, street_read}

-- the words of a street written from p on, and then the number of streets
abbrev pub written : List ℕ → ℕ → Street → ℕ → List ℕ
written m p s n = set (set (set (set m p s.one) (p + 1) s.other) (p + 2) s.long) count_at n

-- a town without streets
pub head_written : (l : Limits) (m : List ℕ) → GoodLimits l → words l ≤ length m → Front l (set (set (set m corners_at l.corners) limit_at l.streets) count_at 0) []
head_written l m good room =
    front_from good (search (rules, places)) (search (rules, places)) (search (rules, places)) (search (rules, places)) (λ i h. absurd (omega arith)) (omega arith)

module _ {l : Limits} {m : List ℕ} {ss : List Street} (r : Front l m ss) where
  -- a street more, at the end
  module _ {s : Street} {i : ℕ} (last : i ≡ length ss) (free : length ss < l.streets) (proper : Proper l s) where
    m' : List ℕ
    m' = written m (street_from i) s (i + 1)

    there : street_from i + 2 < length m
    there = omega (arith, r.room)

    else : (k : ℕ) → k < street_from i → k ≢ count_at → word m' k ≡ word m k
    unfolding m'
    else k h other = search (rules, places)

    new_street : street_in m' i ≡ s
    unfolding m'
    new_street = let h = there in street_is _ i s (search (rules, places)) (search (rules, places)) (search (rules, places))

    each : (k : ℕ) → k < length (ss ++ s ∷ []) → (street_in m' k ≡ street (ss ++ s ∷ []) k) × Proper l (street (ss ++ s ∷ []) k)
    each k h =
        elim (cases_lt k (length ss)) [
          | inl b ↦ rw get_or_append_left (street_kept r _ k b (λ p a c. else p (omega arith) (λ e. omega arith)), r.proper k b)
          | inr b ↦ let f : length ss ≡ k = omega (arith, length_push ss s) in let e : k ≡ i = omega arith in rw (get_or_push, e) (new_street, proper)
        ]

    street_added : Front l (written m (street_from i) s (i + 1)) (ss ++ s ∷ [])
    unfolding m'
    street_added =
        let h = there in
        let more = length_push ss s in
        let count : word m' count_at ≡ i + 1 = search (rules, places) in
        front_changed r (search (rules, places)) (λ p b. else p (omega arith) (λ e. omega arith)) (omega arith) each (omega arith)

    pub front_added : {m₁ m₂ : List ℕ} → m₁ ≡ set (set (set m (street_from i) s.one) (street_from i + 1) s.other) (street_from i + 2) s.long → m₂ ≡ set m₁ count_at (i + 1) → Front l m₂ (ss ++ s ∷ [])
    front_added put counted = rw (counted, put) street_added

  -- street i taken out: those behind it are moved, those before it stay
  module _ (i : ℕ) {n : ℕ} (m₁ : List ℕ) {m₂ : List ℕ} (there : i < length ss) (all : n ≡ length ss) (long : length m₁ ≡ length m) (moved : (p : ℕ) → street_from i ≤ p → p + street_words < street_from n → word m₁ p ≡ word m (p + street_words)) (before : (p : ℕ) → p < street_from i → word m₁ p ≡ word m p) (counted : m₂ ≡ set m₁ count_at (n - 1)) where
    stays : (p : ℕ) → p < street_from i → p ≢ count_at → word m₂ p ≡ word m p
    stays p h other = rw (counted, get_or-set_other) (before p h)

    moves : (p q : ℕ) → q ≡ p + street_words → street_from i ≤ p → q < street_from n → word m₂ p ≡ word m q
    moves p q e from to = let other : p ≢ count_at = λ z. omega arith in rw (counted, get_or-set_other, e) (moved p from (omega arith))

    each_left : (k : ℕ) → k < length (remove ss i) → (street_in m₂ k ≡ street (remove ss i) k) × Proper l (street (remove ss i) k)
    each_left k h =
        let p = street_from k in
        let fewer = length-remove ss i there in
        elim (cases_lt k i) [
          | inl b ↦ rw get_or-remove_below (street_kept r _ k (omega arith) (λ p a c. stays p (omega arith) (λ e. omega arith)), r.proper k (omega arith))
          | inr b ↦
              let q = street_from (k + 1) in
              let same = street_moved m m₂ k (k + 1) (moves p q (omega arith) (omega arith) (omega arith), moves (p + 1) (q + 1) (omega arith) (omega arith) (omega arith), moves (p + 2) (q + 2) (omega arith) (omega arith) (omega arith)) in
              rw get_or-remove_above (same ∙ street_read r (k + 1) (omega arith), r.proper (k + 1) (omega arith))
        ]

    pub front_removed : Front l m₂ (remove ss i)
    front_removed =
        let fewer = length-remove ss i there in
        let left : word m₂ count_at ≡ n - 1 = rw counted (get_or-set_same m₁ count_at (n - 1) 0 (omega (arith, r.room))) in
        front_changed r (rw (counted, length-set) long) (λ p h. stays p (omega arith) (λ e. omega arith)) (omega arith) each_left (omega (arith, r.few))
