-- Rows of bytes, numbers of four bytes in them, and rows written over lent bytes.
use Rattle.std.specs.Prelude.{◌≡◌, ℕ, ◌+◌, ◌*◌, ◌/◌, ◌%◌, ◌<◌, Bool, if◌then◌else◌, List, [], ◌∷◌, ◌++◌, length, take, drop, Some, None, Option, nat_le, slice_index}

abbrev pub Bytes : List ℕ → Type 0
Bytes bs = (k : ℕ) → slice_index bs k < 256

-- numbers that four bytes hold
abbrev pub Word : ℕ → Type 0
Word n = n < 4294967296

-- a number's four bytes, little-endian, and the number at an index
abbrev pub word : ℕ → List ℕ
word n = n % 256 ∷ n / 256 % 256 ∷ n / 65536 % 256 ∷ n / 16777216 % 256 ∷ []

abbrev pub word_at : List ℕ → ℕ → ℕ
word_at bs i = slice_index bs i + slice_index bs (i + 1) * 256 + slice_index bs (i + 2) * 65536 + slice_index bs (i + 3) * 16777216

abbrev pub pair_at : List ℕ → ℕ → ℕ
pair_at bs i = slice_index bs i + slice_index bs (i + 1) * 256

-- bs with a row written over it from index i on
abbrev pub put : List ℕ → ℕ → List ℕ → List ℕ
put bs i row = take i bs ++ (row ++ drop (i + length row) bs)

-- if it fits, the row is written to the front of the lent bytes and its length returned; else nothing is written
pub record WrittenIf (fits : Bool) (row before : List ℕ) (r : Option ℕ) (after : List ℕ) : Type 0 where
  pub count : r ≡ if fits then Some (length row) else None
  pub bytes : after ≡ if fits then put before 0 row else before

abbrev pub room : List ℕ → List ℕ → Bool
room row lent = nat_le (length row) (length lent)

abbrev pub Written : List ℕ → List ℕ → Option ℕ → List ℕ → Type 0
Written row before r after = WrittenIf (room row before) row before r after
