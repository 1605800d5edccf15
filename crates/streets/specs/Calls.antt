-- The calls of a town: how each is checked, what it changes, and which answers are right.
use Rattle.std.specs.Prelude.{◌≡◌, ℕ, ◌*◌, ◌<◌, ◌≤◌, true, false, ◌&&◌, List, [], ◌∷◌, ◌++◌, length, nat_le, nat_lt}
use Rattle.std.specs.List.{remove}
use Rattle.streets.specs.Streets.{Street, Leg, joining, is_round, how_long, odd_corners, AtMostTwice}
use Rattle.streets.specs.Protocol.{Check, asking, Protocol}

pub data Call : Type 0 where
  opens : ℕ → ℕ → ℕ → Call  -- a new street: its ends and its length
  closes : ℕ → Call  -- remove the i-th street; later ones move down by one
  odd : Call  -- ask for the number of odd corners
  round : ℕ → Call  -- ask for a round from this corner
  garbled : ℕ → Call  -- an unreadable row, with the index of the byte at which reading failed

pub data Answer : Type 0 where
  refused : ℕ → ℕ → Answer  -- the refusal's number, and its place
  number : ℕ → Answer
  shortest : List Leg → Answer
  some_round : List Leg → ℕ → Answer  -- with a lower bound on the length of every round
  never : Answer

-- the corners are those below `corners`; `streets` bounds the number of streets
pub record Limits : Type 0 where
  pub corners : ℕ
  pub streets : ℕ

abbrev pub limiting : ℕ → ℕ → Limits
limiting n k = record { corners = n; streets = k }

abbrev pub most_corners : ℕ
most_corners = 256

abbrev pub most_streets : ℕ
most_streets = 1024

-- the length of the longest street that can be opened
abbrev pub longest : ℕ
longest = 1000000

-- with more odd corners than this, the round need not be a shortest one
abbrev pub most_odd : ℕ
most_odd = 16

abbrev pub checks : Limits → List Street → Call → List Check
checks l ss (opens a b n) =
    asking 4 0 (nat_lt a l.corners && nat_lt b l.corners) ∷ asking 2 2 (nat_le 1 n && nat_le n longest)
    ∷ asking 5 0 (nat_lt (length ss) l.streets)
    ∷ []
checks l ss (closes i) = asking 4 0 (nat_lt i (length ss)) ∷ []
checks l ss odd = []
checks l ss (round c) = asking 4 0 (nat_lt c l.corners) ∷ []
checks l ss (garbled p) = asking 1 p false ∷ []

unfoldable pub changed : List Street → Call → List Street
changed ss (opens a b n) = ss ++ joining a b n ∷ []
changed ss (closes i) = remove ss i
changed ss odd = ss
changed ss (round c) = ss
changed ss (garbled p) = ss

-- ls is a round from c, and no round from c is shorter
pub record Shortest (ss : List Street) (c : ℕ) (ls : List Leg) : Type 0 where
  pub goes_all : is_round ss c ls ≡ true
  pub least : (ms : List Leg) → is_round ss c ms ≡ true → how_long ss ls ≤ how_long ss ms

-- ls is a round from c, and low a lower bound for all of them, within a factor of two
pub record Bounded (ss : List Street) (c : ℕ) (ls : List Leg) (low : ℕ) : Type 0 where
  pub goes_all : is_round ss c ls ≡ true
  pub none_below : (ms : List Leg) → is_round ss c ms ≡ true → low ≤ how_long ss ms
  pub near : how_long ss ls ≤ 2 * low

unfoldable pub may_say : Limits → List Street → Call → Answer → Type 0
may_say l ss (opens a b n) x = x ≡ number (length ss)
may_say l ss (closes i) x = x ≡ number i
may_say l ss odd x = x ≡ number (odd_corners ss l.corners)
may_say l ss (round c) (shortest ls) = Shortest ss c ls × AtMostTwice ls (length ss)
may_say l ss (round c) (some_round ls low) = (most_odd < odd_corners ss l.corners) × Bounded ss c ls low × AtMostTwice ls (length ss)
may_say l ss (round c) never = (ms : List Leg) → is_round ss c ms ≡ false
may_say l ss (round c) (refused k p) = ⊥
may_say l ss (round c) (number n) = ⊥
may_say l ss (garbled p) x = ⊥

-- a town as a protocol, with the list of streets as its state
abbrev pub town : Limits → Protocol (List Street) Call Answer
town l = record { checks = checks l; changed = changed; may_say = may_say l; refused = refused }
