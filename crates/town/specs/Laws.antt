-- The laws of a town in memory.
use Rattle.std.specs.Prelude.{◌≡◌, ℕ, if◌then◌else◌, List, length, count_by, ◌≢◌, nat_eq, nat_lt}
use Rattle.streets.specs.Streets.{Street, street, ends, ends_at}
use Rattle.streets.specs.Protocol.{first_number}
use Rattle.streets.specs.Calls.{Limits, Call, checks}
use Rattle.town.specs.Corners.{streets_at}
use Rattle.town.specs.Town.{Town}

-- the list of a corner has every street as often as it has ends there, and nothing else
abbrev pub EachEnd : Type 0
EachEnd = (ss : List Street) (c i : ℕ) → count_by (λ j. nat_eq j i) (streets_at ss c) ≡ (if nat_lt i (length ss) then ends (street ss i) c else 0)

-- so it is as long as there are ends at the corner
abbrev pub AllEnds : Type 0
AllEnds = (ss : List Street) (c : ℕ) → length (streets_at ss c) ≡ ends_at ss c

-- no memory holds two towns
abbrev pub OneTown : Type 0
OneTown = (l l' : Limits) (m : List ℕ) (ss ss' : List Street) → Town l m ss → Town l' m ss' → (l ≡ l') × (ss ≡ ss')

-- no call is refused by 3, for want of memory: that is asked for when the town is opened
abbrev pub MemorySuffices : Type 0
MemorySuffices = (l : Limits) (ss : List Street) (c : Call) → first_number (checks l ss c) ≢ 3
