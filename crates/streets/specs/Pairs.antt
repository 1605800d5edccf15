-- Corners in pairs, and the ways between them.
use Rattle.std.specs.Prelude.{◌≡◌, ℕ, ◌+◌, ◌%◌, ◌<◌, ◌≤◌, true, List, length, All}
use Rattle.streets.specs.Streets.{Street, street, Leg, goes, how_long, ends_at}

-- a walk from a to b of length n
abbrev pub Way : List Street → ℕ → ℕ → ℕ → Type 0
Way ss a b n = (ls : List Leg) × (goes ss a ls b ≡ true) × (how_long ss ls ≡ n)

-- which corners can be linked, and at which lengths: by walks of a town, or by a metric
abbrev pub Links : Type 1
Links = ℕ → ℕ → ℕ → Type 0

-- links can be turned round, and joined where they meet
pub record Linking (W : Links) : Type 0 where
  pub turned : (a b n : ℕ) → W a b n → W b a n
  pub joined : (a b c m n : ℕ) → W a b m → W b c n → W a c (m + n)

-- every street is a link
abbrev pub Spans : Links → List Street → Type 0
Spans W ss = (i : ℕ) → i < length ss → W (street ss i).one (street ss i).other (street ss i).long

-- a pair is written as a street of its own: two corners, and the length of the link between them. Each corner is in as many pairs as `in_pairs` says
pub record Pairing (W : Links) (in_pairs : ℕ → ℕ) (ps : List Street) : Type 0 where
  pub each : (k : ℕ) → ends_at ps k ≡ in_pairs k
  pub linked : All (λ p. W p.one p.other p.long) ps

-- each odd corner in one pair, every other in none
abbrev pub odd_once : List Street → ℕ → ℕ
odd_once ss k = ends_at ss k % 2

-- a metric on the corners below n; different corners may be at a distance of 0
pub record Metric (n : ℕ) (d : ℕ → ℕ → ℕ) : Type 0 where
  pub same : (a : ℕ) → a < n → d a a ≡ 0
  pub symmetric : (a b : ℕ) → a < n → b < n → d a b ≡ d b a
  pub triangle : (a b c : ℕ) → a < n → b < n → c < n → d a c ≤ d a b + d b c

-- links between corners below n that are no shorter than d
abbrev pub NoShorter : ℕ → (ℕ → ℕ → ℕ) → Links
NoShorter n d a b m = (a < n) × (b < n) × (d a b ≤ m)

-- d has, for corners below n, the lengths of shortest ways below cap; it is cap where there is no way, or none below cap
pub record ShortestWays (ss : List Street) (n cap : ℕ) (d : ℕ → ℕ → ℕ) : Type 0 where
  pub capped : (a b : ℕ) → a < n → b < n → d a b ≤ cap
  pub way : (a b : ℕ) → a < n → b < n → d a b < cap → Way ss a b (d a b)
  pub least : (a b m : ℕ) → a < n → b < n → Way ss a b m → d a b ≤ m
