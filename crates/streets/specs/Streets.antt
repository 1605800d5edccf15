-- Streets, legs, walks and rounds, and the degrees of corners.
use Rattle.std.specs.Prelude.{ℕ, zero, suc, ◌+◌, ◌*◌, ◌/◌, ◌%◌, ◌<◌, ◌≤◌, Bool, true, false, if◌then◌else◌, not, ◌&&◌, List, [], ◌∷◌, length, ◌==◌, nat_lt, slice_index_or}

-- a street: its two ends, which may be one corner, and its length
pub record Street : Type 0 where
  pub one : ℕ
  pub other : ℕ
  pub long : ℕ

abbrev pub joining : ℕ → ℕ → ℕ → Street
joining a b n = record { one = a; other = b; long = n }

-- the i-th street; past the last, a loop of length 0 that no leg may use
abbrev pub street : List Street → ℕ → Street
street ss i = slice_index_or ss i (joining 0 0 0)

-- a street in one direction: from `one` to `other`, or against that
pub record Leg : Type 0 where
  pub along : ℕ
  pub back : Bool

abbrev pub forward : ℕ → Leg
forward i = record { along = i; back = false }

abbrev pub backward : ℕ → Leg
backward i = record { along = i; back = true }

-- a leg as one number: its street doubled, plus 1 if it is backward
abbrev pub leg_code : Leg → ℕ
leg_code l = 2 * l.along + (if l.back then 1 else 0)

abbrev pub coded : ℕ → Leg
coded n = record { along = n / 2; back = (n % 2 == 1) }

abbrev pub starts : List Street → Leg → ℕ
starts ss l = if l.back then (street ss l.along).other else (street ss l.along).one

abbrev pub stops : List Street → Leg → ℕ
stops ss l = if l.back then (street ss l.along).one else (street ss l.along).other

-- the leg along street i that leaves its end c
abbrev pub leaving : List Street → ℕ → ℕ → Leg
leaving ss c i = record { along = i; back = not ((street ss i).one == c) }

-- the leg's law: which legs may be used, and the length of each
unfoldable pub may_go : List Street → Leg → Bool
may_go ss l = nat_lt l.along (length ss)

unfoldable pub leg_long : List Street → Leg → ℕ
leg_long ss l = (street ss l.along).long

-- the legs are a walk from c to d: each starts at the corner that the one before reached
unfoldable pub goes : List Street → ℕ → List Leg → ℕ → Bool
goes ss c [] d = c == d
goes ss c (l ∷ ls) d = (may_go ss l && starts ss l == c) && goes ss (stops ss l) ls d

unfoldable pub how_long : List Street → List Leg → ℕ
how_long ss [] = 0
how_long ss (l ∷ ls) = leg_long ss l + how_long ss ls

-- 1 if the two are equal, else 0
abbrev pub mark : ℕ → ℕ → ℕ
mark a k = if a == k then 1 else 0

-- the number of legs along street i
unfoldable pub times : List Leg → ℕ → ℕ
times [] i = 0
times (l ∷ ls) i = mark l.along i + times ls i

-- each street below n has a leg
unfoldable pub all_gone : List Leg → ℕ → Bool
all_gone ls zero = true
all_gone ls (suc n) = nat_lt 0 (times ls n) && all_gone ls n

-- a round from c: a closed walk that covers every street
abbrev pub is_round : List Street → ℕ → List Leg → Bool
is_round ss c ls = goes ss c ls c && all_gone ls (length ss)

abbrev pub AtMostTwice : List Leg → ℕ → Type 0
AtMostTwice ls n = (i : ℕ) → i < n → times ls i ≤ 2

-- the ends of s at c: a loop has both there
abbrev pub ends : Street → ℕ → ℕ
ends s c = mark s.one c + mark s.other c

-- the sum of f over the streets
unfoldable pub total : (Street → ℕ) → List Street → ℕ
total f [] = 0
total f (s ∷ ss) = f s + total f ss

abbrev pub ends_at : List Street → ℕ → ℕ
ends_at ss c = total (λ s. ends s c) ss

-- the number of corners below n of odd degree
unfoldable pub odd_corners : List Street → ℕ → ℕ
odd_corners ss zero = 0
odd_corners ss (suc n) = mark (ends_at ss n % 2) 1 + odd_corners ss n

abbrev pub all_long : List Street → ℕ
all_long ss = total (λ s. s.long) ss
