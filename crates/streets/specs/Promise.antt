-- What is promised of a desk, as types: a proof is a term of the type.
use Rattle.std.specs.Prelude.{◌≡◌, ℕ, ◌<◌, ◌≤◌, Bool, true, ◌&&◌, List, [], ◌∷◌, ◌++◌, nat_lt}
use Rattle.streets.specs.Protocol.{Desk, turned, ran, all_right, left_by}
use Rattle.streets.specs.Calls.{Call, opens, closes, odd, round, garbled, Answer, Limits, most_corners, most_streets, town}

-- every number of the call fits a field of four bytes
abbrev pub field : ℕ → Bool
field n = nat_lt n 4294967296

abbrev pub readable : Call → Bool
readable (opens a b n) = field a && (field b && field n)
readable (closes i) = field i
readable odd = true
readable (round c) = field c
readable (garbled p) = field p

unfoldable pub all_readable : List Call → Bool
all_readable [] = true
all_readable (c ∷ cs) = readable c && all_readable cs

pub record GoodLimits (l : Limits) : Type 0 where
  pub some_corner : 0 < l.corners
  pub few_corners : l.corners ≤ most_corners
  pub few_streets : l.streets ≤ most_streets

module _ {Memory : Type 0} where
  -- the main promise: no sequence of calls gets a wrong answer, judged by the streets then open
  abbrev pub Right : Desk Limits Memory Call Answer → Type 0
  Right d = (l : Limits) (cs : List Call) → GoodLimits l → all_readable cs ≡ true → all_right (town l) d (d.opened l) [] cs

  -- a refused call leaves memory equal to what it was
  abbrev pub RefusalKeeps : Desk Limits Memory Call Answer → Type 0
  RefusalKeeps d =
      (l : Limits) (cs : List Call) (c : Call) →
      GoodLimits l →
      all_readable (cs ++ c ∷ []) ≡ true →
      0 < turned (town l) (ran (town l) [] cs) c →
      d.next (left_by d (d.opened l) cs) c ≡ left_by d (d.opened l) cs
