-- The streets of each corner.
use Rattle.std.specs.Prelude.{ℕ, zero, suc, List, [], ◌++◌, length, replicate}
use Rattle.streets.specs.Streets.{Street, street, ends, ends_at}
use Rattle.streets.specs.Counts.{sum_below}

-- of the streets below i, those with an end at c, in increasing order, each as often as it has ends there
unfoldable pub at_below : List Street → ℕ → ℕ → List ℕ
at_below ss zero c = []
at_below ss (suc i) c = at_below ss i c ++ replicate (ends (street ss i) c) i

abbrev pub streets_at : List Street → ℕ → List ℕ
streets_at ss c = at_below ss (length ss) c

-- the number of ends at the corners below c
abbrev pub ends_before : List Street → ℕ → ℕ
ends_before ss c = sum_below (ends_at ss) c
