-- The layout of a town's memory: a head, the streets, and the lists of the corners' streets.
use Rattle.std.specs.Prelude.{ℕ, suc, ◌+◌, ◌-◌, ◌*◌, ◌/◌, ◌<◌, ◌≤◌, List, map, length, slice_index}
use Rattle.std.specs.List.{range_with_len}
use Rattle.streets.specs.Streets.{Street, joining}
use Rattle.streets.specs.Calls.{Limits, limiting}

abbrev pub word : List ℕ → ℕ → ℕ
word m p = slice_index m p

-- the head: the limits, and the number of streets
abbrev pub corners_at : ℕ
corners_at = 0

abbrev pub limit_at : ℕ
limit_at = 1

abbrev pub count_at : ℕ
count_at = 2

abbrev pub head_words : ℕ
head_words = 3

unfoldable pub limits_in : List ℕ → Limits
limits_in m = limiting (word m corners_at) (word m limit_at)

unfoldable pub count_in : List ℕ → ℕ
count_in m = word m count_at

-- a street: its ends, and its length
abbrev pub street_words : ℕ
street_words = 3

abbrev pub street_from : ℕ → ℕ
street_from i = head_words + street_words * i

unfoldable pub street_in : List ℕ → ℕ → Street
street_in m i = joining (word m (street_from i)) (word m (street_from i + 1)) (word m (street_from i + 2))

unfoldable pub streets_in : List ℕ → List Street
streets_in m = map (street_in m) (range_with_len 0 (count_in m))

-- the streets from the i-th on, up to the n-th
unfoldable pub streets_left : List ℕ → ℕ → ℕ → List Street
streets_left m i n = map (street_in m) (range_with_len i (n - i))

-- the words of n streets are there, and their ends are short
pub record Readable (m : List ℕ) (n : ℕ) : Type 0 where
  pub room : street_from n ≤ length m
  pub short : (i : ℕ) → i < n → (word m (street_from i) < 65536) × (word m (street_from i + 1) < 65536)

-- where the first corner's list begins, and for each corner where its list stops, which is where the next one begins
abbrev pub corner_words : ℕ
corner_words = 1

abbrev pub starts_from : Limits → ℕ
starts_from l = street_from l.streets

abbrev pub lists_from : Limits → ℕ
lists_from l = starts_from l + suc (corner_words * l.corners)

-- the lists, one behind the other: a word for each end of a street
abbrev pub list_words : ℕ
list_words = 2

abbrev pub words : Limits → ℕ
words l = lists_from l + list_words * l.streets

-- bytes that a town may ask for: for each street, each two corners and each corner, and some more
abbrev pub budget : Limits → ℕ
budget l = 64 * l.streets + 4 * (l.corners * (l.corners - 1) / 2) + 64 * l.corners + 1048576
