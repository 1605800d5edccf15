-- The tests of the definitions, each as the fact that it decides.
use Rattle.std.proofs.Common.{◌≡◌, ℕ, zero, suc, ◌%◌, ◌<◌, true, ◌&&◌, eqb, ltb, List, length, Decides, refl, arith}
use Rattle.std.proofs.lemmas.Bool.Decides.{nat_tests, Decides-ltb, Decides-eqb, Decides-below_and}
use Rattle.std.proofs.lemmas.List.Recursion.{and_at, and_from_places}
use Rattle.streets.specs.Streets.{Street, street, joining, Leg, goes, times, all_gone, is_round, ends_at, odd_corners}
use Rattle.streets.specs.Counts.{sum_below}
use Rattle.streets.specs.Theorems.{in_town, once_each, positive}

all_gone_decides : (ls : List Leg) (n : ℕ) → Decides (all_gone ls n) ((i : ℕ) → i < n → 0 < times ls i)
unfolding all_gone
all_gone_decides ls n = Decides-below_and (λ i. ltb 0 (times ls i)) (λ i. 0 < times ls i) (all_gone ls) (λ i. Decides-ltb 0 (times ls i)) refl (λ _. refl) n

pub once_each_decides : (ls : List Leg) (n : ℕ) → Decides (once_each ls n) ((i : ℕ) → i < n → times ls i ≡ 1)
unfolding once_each
once_each_decides ls n = Decides-below_and (λ i. eqb (times ls i) 1) (λ i. times ls i ≡ 1) (once_each ls) (λ i. Decides-eqb (times ls i) 1) refl (λ _. refl) n

-- a round: a closed walk that uses every street
pub record Round (ss : List Street) (c : ℕ) (ls : List Leg) : Type 0 where
  pub walks : goes ss c ls c ≡ true
  pub covers : (i : ℕ) → i < length ss → 0 < times ls i

pub from_round : (ss : List Street) (c : ℕ) (ls : List Leg) → is_round ss c ls ≡ true → Round ss c ls
from_round ss c ls h = record { walks = grind (arith, nat_tests); covers = (all_gone_decides ls (length ss)).0 (grind (arith, nat_tests)) }

pub to_round : (ss : List Street) (c : ℕ) (ls : List Leg) → Round ss c ls → is_round ss c ls ≡ true
to_round ss c ls r = grind (arith, nat_tests, (all_gone_decides ls (length ss)).1 r.covers)

pub positive_at : (ss : List Street) → positive ss ≡ true → (i : ℕ) → i < length ss → 0 < (street ss i).long
unfolding positive
positive_at ss h i l = grind (arith, nat_tests, and_at positive (λ s. ltb 0 s.long) refl (λ _ _. refl) ss i (joining 0 0 0) l h)

pub in_town_from : (n : ℕ) (ss : List Street) → ((i : ℕ) → i < length ss → ((street ss i).one < n) × ((street ss i).other < n)) → in_town n ss ≡ true
unfolding in_town
in_town_from n ss h = and_from_places (in_town n) (λ s. ltb s.one n && ltb s.other n) refl (λ _ _. refl) ss (joining 0 0 0) (λ i l. grind (arith, nat_tests, h i l))

-- how many corners are odd, as a sum
pub odd_sum : (ss : List Street) (n : ℕ) → odd_corners ss n ≡ sum_below (λ k. ends_at ss k % 2) n
unfolding odd_corners sum_below
odd_sum ss zero = refl
odd_sum ss (suc n) = grind (arith, nat_tests, odd_sum ss n)
