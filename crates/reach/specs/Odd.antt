-- The odd corners of a town as a list.
use Rattle.std.specs.Prelude.{ℕ, ◌%◌, Bool, List, [], ◌∷◌, filter, ◌==◌}
use Rattle.std.specs.List.{range_with_len}
use Rattle.streets.specs.Streets.{Street, ends_at}

abbrev pub is_odd : List Street → ℕ → Bool
is_odd ss c = ends_at ss c % 2 == 1

-- of the numbers 0, 1, .. below n, those of odd corners
abbrev pub odd_below : List Street → ℕ → List ℕ
odd_below ss n = filter (is_odd ss) (range_with_len 0 n)

-- w with its front overwritten by xs, as far as w has room
abbrev pub over : List ℕ → List ℕ → List ℕ
over [] w = w
over (x ∷ xs) [] = []
over (x ∷ xs) (y ∷ w) = x ∷ over xs w
