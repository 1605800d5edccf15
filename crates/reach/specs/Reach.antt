-- What can be reached from a corner.
use Rattle.std.specs.Prelude.{◌≡◌, ℕ, suc, ◌<◌, ◌≤◌, Bool, true, ◌↔◌, List, length, slice_index}
use Rattle.streets.specs.Streets.{Street, Leg, coded, starts, stops, may_go, goes, is_round}
use Rattle.streets.specs.Theorems.{Joined}

-- v is the level of corner k: 0 if no walk from c comes to k, else one more than the fewest legs of a walk that does
pub record Level (ss : List Street) (c k v : ℕ) : Type 0 where
  pub walk : 0 < v → (ls : List Leg) × (goes ss c ls k ≡ true) × (suc (length ls) ≡ v)
  pub fewest : (ls : List Leg) → goes ss c ls k ≡ true → (0 < v) × (v ≤ suc (length ls))

-- l comes to k from a corner that is one level lower
pub record First (ss : List Street) (level : ℕ → ℕ) (k : ℕ) (l : Leg) : Type 0 where
  pub may : may_go ss l ≡ true
  pub here : stops ss l ≡ k
  pub lower : suc (level (starts ss l)) ≡ level k

abbrev pub entry : List ℕ → ℕ → ℕ
entry w k = slice_index w k

-- each corner below n has its level in `levels`, and if it is reached by legs, the last of them in `legs`
pub record Reached (ss : List Street) (n c : ℕ) (levels legs : List ℕ) : Type 0 where
  pub level : (k : ℕ) → k < n → Level ss c k (entry levels k)
  pub first : (k : ℕ) → k < n → 1 < entry levels k → First ss (entry levels) k (coded (entry legs k))

-- whether all streets can be reached from c, which is whether there is a round from c
pub record AllReached (ss : List Street) (c : ℕ) (all : Bool) : Type 0 where
  pub joined : (all ≡ true) ↔ Joined ss c
  pub round : (all ≡ true) ↔ ((ls : List Leg) × (is_round ss c ls ≡ true))
