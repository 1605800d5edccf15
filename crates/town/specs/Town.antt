-- When memory holds a town.
use Rattle.std.specs.Prelude.{◌≡◌, ℕ, ◌+◌, ◌<◌, ◌≤◌, List, length, take, drop}
use Rattle.streets.specs.Streets.{Street, street, ends_at}
use Rattle.streets.specs.Calls.{Limits, longest}
use Rattle.streets.specs.Promise.{GoodLimits}
use Rattle.town.specs.Corners.{streets_at, ends_before}
use Rattle.town.specs.Layout.{word, limits_in, streets_in, starts_from, lists_from, words}

-- a street that a town with these limits can have
pub record Proper (l : Limits) (s : Street) : Type 0 where
  pub one_there : s.one < l.corners
  pub other_there : s.other < l.corners
  pub some_long : 1 ≤ s.long
  pub not_too_long : s.long ≤ longest

-- head and streets of the memory m are those of a town with the limits l and the streets ss
pub record Front (l : Limits) (m : List ℕ) (ss : List Street) : Type 0 where
  pub good : GoodLimits l
  pub room : words l ≤ length m
  pub limits : limits_in m ≡ l
  pub streets : streets_in m ≡ ss
  pub few : length ss ≤ l.streets
  pub proper : (i : ℕ) → i < length ss → Proper l (street ss i)

-- head and streets of m are those of some town
abbrev pub Ready : List ℕ → Type 0
Ready m = Front (limits_in m) m (streets_in m)

-- the lists of m are those of a town with the limits l and the streets ss
pub record Lists (l : Limits) (m : List ℕ) (ss : List Street) : Type 0 where
  pub starts : (c : ℕ) → c ≤ l.corners → word m (starts_from l + c) ≡ ends_before ss c
  pub listed : (c : ℕ) → c < l.corners → take (ends_at ss c) (drop (lists_from l + ends_before ss c) m) ≡ streets_at ss c

pub record Town (l : Limits) (m : List ℕ) (ss : List Street) : Type 0 where
  pub front : Front l m ss
  pub lists : Lists l m ss

-- m holds a town, whichever it is
abbrev pub Sound : List ℕ → Type 0
Sound m = Town (limits_in m) m (streets_in m)
