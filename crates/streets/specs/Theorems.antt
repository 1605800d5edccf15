-- The theorems about rounds, as types: a proof is a term of the type.
use Rattle.std.specs.Prelude.{◌≡◌, ℕ, zero, suc, ◌+◌, ◌*◌, ◌%◌, ◌<◌, ◌≤◌, Bool, true, if◌then◌else◌, ◌&&◌, ◌↔◌, List, [], ◌∷◌, length, ◌==◌, nat_lt}
use Rattle.streets.specs.Streets.{Street, joining, street, Leg, forward, backward, goes, how_long, times, is_round, ends_at, odd_corners, all_long, AtMostTwice}
use Rattle.streets.specs.Calls.{Shortest}
use Rattle.streets.specs.Pairs.{Way, Spans, Pairing, odd_once, Metric, NoShorter}
use Rattle.streets.specs.Trials.{tried}

-- every end of a street is below n
unfoldable pub in_town : ℕ → List Street → Bool
in_town n [] = true
in_town n (s ∷ ss) = (nat_lt s.one n && nat_lt s.other n) && in_town n ss

-- for each street there is a walk from c that reaches it
abbrev pub Joined : List Street → ℕ → Type 0
Joined ss c = (i : ℕ) → i < length ss → (ls : List Leg) × (goes ss c ls (street ss i).one ≡ true)

-- each street below n has exactly one leg
unfoldable pub once_each : List Leg → ℕ → Bool
once_each ls zero = true
once_each ls (suc n) = times ls n == 1 && once_each ls n

-- Euler: a town has a round that uses each street once if and only if it is connected and all degrees are even
abbrev pub OnceEach : Type 0
OnceEach =
    (ss : List Street) (n c : ℕ) →
    in_town n ss ≡ true →
    (odd_corners ss n ≡ 0) × Joined ss c ↔ ((ls : List Leg) × (is_round ss c ls ≡ true) × (once_each ls (length ss) ≡ true))

-- a round exists if and only if every street is connected to c, and then one of at most twice the total length
abbrev pub ARound : Type 0
ARound =
    (ss : List Street) (c : ℕ) →
    (Joined ss c → (ls : List Leg) × (is_round ss c ls ≡ true) × (how_long ss ls ≤ 2 * all_long ss))
    × ((ls : List Leg) → is_round ss c ls ≡ true → Joined ss c)

unfoldable pub positive : List Street → Bool
positive [] = true
positive (s ∷ ss) = nat_lt 0 s.long && positive ss

-- where lengths are positive, no shortest round uses a street more than twice
abbrev pub NeverThrice : Type 0
NeverThrice = (ss : List Street) (c i : ℕ) (ls : List Leg) → positive ss ≡ true → Shortest ss c ls → times ls i ≤ 2

-- if there is a shortest round from one corner, there is one of the same length from every corner that has a street
abbrev pub FromAnywhere : Type 0
FromAnywhere =
    (ss : List Street) (c d : ℕ) (ls : List Leg) →
    Shortest ss c ls →
    0 < ends_at ss d →
    (ms : List Leg) × Shortest ss d ms × (how_long ss ms ≡ how_long ss ls)

-- of ss, numbered from i on, the streets with exactly two legs
unfoldable pub twice_gone : List Street → List Leg → ℕ → List Street
twice_gone [] ls i = []
twice_gone (s ∷ ss) ls i = if times ls i == 2 then s ∷ twice_gone ss ls (suc i) else twice_gone ss ls (suc i)

-- the streets that a shortest round repeats are a T-join of the odd corners, and its length is the total and theirs
abbrev pub JoinsOdd : Type 0
JoinsOdd =
    (ss : List Street) (c k : ℕ) (ls : List Leg) →
    positive ss ≡ true →
    Shortest ss c ls →
    (ends_at (twice_gone ss ls 0) k % 2 ≡ ends_at ss k % 2) × (how_long ss ls ≡ all_long ss + all_long (twice_gone ss ls 0))

-- the number of odd corners is even (the handshaking lemma)
abbrev pub InPairs : Type 0
InPairs = (ss : List Street) (n : ℕ) → in_town n ss ≡ true → odd_corners ss n % 2 ≡ 0

-- every round is as long as all streets and ways that join the odd corners in pairs, or longer
abbrev pub PairsBelow : Type 0
PairsBelow =
    (ss : List Street) (c : ℕ) (ms : List Leg) →
    is_round ss c ms ≡ true →
    (ps : List Street) × Pairing (Way ss) (odd_once ss) ps × (all_long ss + all_long ps ≤ how_long ss ms)

-- the same with distances in place of ways, by any metric in which no street is shorter than the distance of its ends
abbrev pub MetricBelow : Type 0
MetricBelow =
    (ss : List Street) (n : ℕ) (d : ℕ → ℕ → ℕ) (c : ℕ) (ms : List Leg) →
    Metric n d →
    Spans (NoShorter n d) ss →
    is_round ss c ms ≡ true →
    (ps : List Street) × Pairing (NoShorter n d) (odd_once ss) ps × (all_long ss + all_long ps ≤ how_long ss ms)

-- in a connected town, any ways that join the odd corners in pairs give a round no longer than they and all streets, which uses none more than twice
abbrev pub PairsAbove : Type 0
PairsAbove =
    (ss : List Street) (c : ℕ) (ps : List Street) →
    Joined ss c →
    Pairing (Way ss) (odd_once ss) ps →
    (ls : List Leg) × (is_round ss c ls ≡ true) × AtMostTwice ls (length ss) × (how_long ss ls ≤ all_long ss + all_long ps)

-- the cheapest of such ways
pub record Cheapest (ss : List Street) (ps : List Street) : Type 0 where
  pub pairing : Pairing (Way ss) (odd_once ss) ps
  pub least : (qs : List Street) → Pairing (Way ss) (odd_once ss) qs → all_long ps ≤ all_long qs

-- in a connected town there are cheapest ones, and whichever they are, a shortest round is just as long as they and all streets
abbrev pub Postman : Type 0
Postman =
    (ss : List Street) (c : ℕ) →
    Joined ss c →
    ((ps : List Street) × Cheapest ss ps)
    × ((ps : List Street) → Cheapest ss ps → (ls : List Leg) × Shortest ss c ls × AtMostTwice ls (length ss) × (how_long ss ls ≡ all_long ss + all_long ps))

-- the test of all rounds that use no street more than twice tells which rounds are shortest
abbrev pub Tried : Type 0
Tried = (ss : List Street) (c : ℕ) (ls : List Leg) → tried ss c ls ≡ true ↔ Shortest ss c ls

abbrev pub triangle : List Street
triangle = joining 0 1 3 ∷ joining 1 2 4 ∷ joining 2 0 5 ∷ []

abbrev pub TriangleShortest : Type 0
TriangleShortest = let ls = forward 0 ∷ forward 1 ∷ forward 2 ∷ [] in Shortest triangle 0 ls × (how_long triangle ls ≡ 12)

abbrev pub path : List Street
path = joining 0 1 3 ∷ joining 1 2 4 ∷ []

abbrev pub PathShortest : Type 0
PathShortest = let ls = forward 0 ∷ forward 1 ∷ backward 1 ∷ backward 0 ∷ [] in Shortest path 0 ls × (how_long path ls ≡ 14)
