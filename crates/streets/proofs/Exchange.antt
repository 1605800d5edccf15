-- The exchange lemma: pairs, and one link more, made into pairs again at no higher cost.
use Rattle.std.proofs.Common.{◌≡◌, ℕ, ◌+◌, ◌%◌, ◌<◌, ◌≤◌, List, [], ◌∷◌, All, inl, inr, arith}
use Rattle.std.proofs.lemmas.List.Elements.{All-nil, All-cons, All-head, All-tail}
use Rattle.std.proofs.lemmas.Bool.{cases_eq, cases_lt}
use Rattle.std.proofs.lemmas.Bool.Decides.{nat_tests}
use Rattle.streets.specs.Streets.{Street, joining, mark, ends, total, ends_at, all_long}
use Rattle.streets.specs.Pairs.{Links, Linking, Pairing}

-- pairs of the corners that in_pairs counts an odd number of times, no longer than n together
pub record Paired (W : Links) (in_pairs : ℕ → ℕ) (n : ℕ) : Type 0 where
  pub pairs : List Street
  pub pairing : Pairing W (λ k. in_pairs k % 2) pairs
  pub cost : all_long pairs ≤ n

pub paired_as : {W : Links} {f g : ℕ → ℕ} {m n : ℕ} → Paired W f m → ((k : ℕ) → f k % 2 ≡ g k % 2) → m ≤ n → Paired W g n
paired_as r same less =
    record {
      pairs = r.pairs;
      pairing = record { each = λ k. omega (arith, r.pairing.each k, same k); linked = r.pairing.linked };
      cost = omega (arith, r.cost);
    }

module _ (W : Links) (law : Linking W) where
  abbrev Linked : Street → Type 0
  Linked p = W p.one p.other p.long

  -- a link as seen from a corner at which it ends
  seen_from : (p : Street) → Linked p → (a : ℕ) → 0 < ends p a → (far : ℕ) × W far a p.long × ((k : ℕ) → ends p k ≡ mark far k + mark a k)
  seen_from p w a h =
      elim (cases_eq p.one a) [
        | inl e ↦ (p.other, rw e at (law.turned p.one p.other p.long w), λ k. grind (arith, e))
        | inr n ↦ let e : p.other ≡ a = grind (arith, nat_tests) in (p.one, rw e at w, λ k. grind (arith, e))
      ]

  -- p goes, and a link that meets it at a goes on from its other corner
  meet : (p : Street) → Linked p → (ends_left : ℕ → ℕ) (left : ℕ) →
      ((a b n : ℕ) → W a b n → Paired W (λ k. ends_left k + (mark a k + mark b k)) (left + n)) →
      (a b n : ℕ) → W a b n → 0 < ends p a → Paired W (λ k. (ends p k + ends_left k) + (mark a k + mark b k)) ((p.long + left) + n)
  meet p w ends_left left on a b n v h =
      let s = seen_from p w a h in
      paired_as (on s.0 b (p.long + n) (law.joined s.0 a b p.long n s.1 v)) (λ k. omega (arith, s.2 k)) (omega arith)

  -- A link is pushed down a list of pairs that have each corner at most once. At its end it is a pair itself, or none where it comes back to its corner
  pub exchange : (ps : List Street) →
      All Linked ps →
      ((k : ℕ) → ends_at ps k ≤ 1) →
      (a b n : ℕ) → W a b n → Paired W (λ k. ends_at ps k + (mark a k + mark b k)) (all_long ps + n)
  unfolding total
  exchange [] none once a b n w =
      elim (cases_eq a b) [
        | inl e ↦ record { pairs = []; pairing = record { each = λ k. grind (arith, e); linked = All-nil Linked }; cost = omega arith }
        | inr d ↦ record { pairs = joining a b n ∷ []; pairing = record { each = λ k. grind (arith, nat_tests); linked = All-cons Linked (joining a b n) [] w (All-nil Linked) }; cost = omega arith }
      ]
  exchange (p ∷ ps) ws once a b n w =
      let v = All-head Linked p ps ws in
      let on = exchange ps (All-tail Linked p ps ws) (λ k. omega (arith, once k)) in
      elim (cases_lt 0 (ends p a)) [
        | inl h ↦ meet p v (ends_at ps) (all_long ps) on a b n w h
        | inr h ↦
            elim (cases_lt 0 (ends p b)) [
              | inl g ↦ paired_as (meet p v (ends_at ps) (all_long ps) on b a n (law.turned a b n w) g) (λ k. omega arith) (omega arith)
              | inr g ↦
                  let r = on a b n w in
                  let each : (k : ℕ) → ends_at (p ∷ r.pairs) k ≡ (ends_at (p ∷ ps) k + (mark a k + mark b k)) % 2 =
                  λ k. grind (arith, nat_tests, r.pairing.each k, once k) in
                  record { pairs = p ∷ r.pairs; pairing = record { each = each; linked = All-cons Linked p r.pairs v r.pairing.linked }; cost = omega (arith, r.cost) }
            ]
      ]
