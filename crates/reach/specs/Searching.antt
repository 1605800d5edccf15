-- A breadth-first search under way.
use Rattle.std.specs.Prelude.{◌≡◌, ℕ, suc, ◌<◌, ◌≤◌, min, true, List, length}
use Rattle.streets.specs.Streets.{Street, Leg, coded, starts, stops, may_go}
use Rattle.streets.specs.Counts.{sum_below}
use Rattle.reach.specs.Reach.{First, entry}

-- each of the words has one for each corner below n
pub record HasRoom (n : ℕ) (levels legs queue : List ℕ) : Type 0 where
  pub long_levels : n ≤ length levels
  pub long_legs : n ≤ length legs
  pub long_queue : n ≤ length queue

-- a corner at the level v may have a leg to one at the level w
abbrev pub Near : ℕ → ℕ → Type 0
Near v w = (0 < w) × (w ≤ suc v)

-- every leg that leaves c comes to a corner that was found, at most one level higher
abbrev pub Closed : List Street → (ℕ → ℕ) → ℕ → Type 0
Closed ss level c = (l : Leg) → may_go ss l ≡ true → starts ss l ≡ c → Near (level c) (level (stops ss l))

-- `found` corners stand in the queue, the corner asked first and by rising levels; the legs of the first `done` were followed
pub record Search (ss : List Street) (n : ℕ) (level : ℕ → ℕ) (first : ℕ → Leg) (queue : ℕ → ℕ) (done found : ℕ) : Type 0 where
  pub asked : (0 < found) × (level (queue 0) ≡ 1)
  pub counted : sum_below (λ k. min 1 (level k)) n ≡ found
  pub queued : (i : ℕ) → i < found → (queue i < n) × (0 < level (queue i))
  pub placed : (k : ℕ) → k < n → 0 < level k → (i : ℕ) × (i < found) × (queue i ≡ k)
  pub low : (k : ℕ) → k < n → level k ≤ found
  pub lowest : (k : ℕ) → k < n → level k ≡ 1 → k ≡ queue 0
  pub firsts : (k : ℕ) → k < n → 1 < level k → First ss level k (first k)
  pub rising : (i j : ℕ) → i ≤ j → j < found → level (queue i) ≤ level (queue j)
  pub near : (j : ℕ) → j < found → done < found → level (queue j) ≤ suc (level (queue done))
  pub closed : (i : ℕ) → i < done → Closed ss level (queue i)

abbrev pub Searching : List Street → ℕ → List ℕ → List ℕ → List ℕ → ℕ → ℕ → Type 0
Searching ss n levels legs queue done found = Search ss n (entry levels) (λ k. coded (entry legs k)) (entry queue) done found
