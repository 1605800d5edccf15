-- How often each street is used: counts, and what they come to.
use Rattle.std.specs.Prelude.{◌≡◌, ℕ, zero, suc, ◌+◌, ◌*◌, ◌%◌, ◌<◌, ◌≤◌, min, true, List, length}
use Rattle.streets.specs.Streets.{Street, street, Leg, goes, mark, times, ends}

-- the sum of f below n
unfoldable pub sum_below : (ℕ → ℕ) → ℕ → ℕ
sum_below f zero = 0
sum_below f (suc n) = f n + sum_below f n

-- the sum of f over the streets, each taken as often as t says
unfoldable pub weigh : List Street → (Street → ℕ) → (ℕ → ℕ) → ℕ
weigh ss f t = sum_below (λ i. t i * f (street ss i)) (length ss)

abbrev pub degree : List Street → (ℕ → ℕ) → ℕ → ℕ
degree ss t k = weigh ss (λ s. ends s k) t

abbrev pub stretch : List Street → (ℕ → ℕ) → ℕ
stretch ss t = weigh ss (λ s. s.long) t

-- degrees are even but at v and w, where they are odd unless v = w: so are those of every walk from v to w
abbrev pub EvenBut : List Street → (ℕ → ℕ) → ℕ → ℕ → Type 0
EvenBut ss t v w = (k : ℕ) → (degree ss t k + (mark v k + mark w k)) % 2 ≡ 0

-- every street that t counts is reached from c by streets that t counts
abbrev pub Connected : List Street → (ℕ → ℕ) → ℕ → Type 0
Connected ss t c =
    (i : ℕ) →
    i < length ss →
    0 < t i →
    (ls : List Leg) × (goes ss c ls (street ss i).one ≡ true) × ((e : ℕ) → 0 < times ls e → 0 < t e)

-- a walk from v to w along streets that were left, and the rest of them: it has even degrees, and nothing of it is at a corner of the walk
pub record Visit (ss : List Street) (left : ℕ → ℕ) (v w : ℕ) (walk : List Leg) (rest : ℕ → ℕ) : Type 0 where
  pub walks : goes ss v walk w ≡ true
  pub split : (i : ℕ) → left i ≡ times walk i + rest i
  pub even : (k : ℕ) → degree ss rest k % 2 ≡ 0
  pub bare : (k : ℕ) → min (mark v k + degree ss (times walk) k) (degree ss rest k) ≡ 0

abbrev pub OnceOrTwice : List Street → (ℕ → ℕ) → Type 0
OnceOrTwice ss t = (i : ℕ) → i < length ss → (1 ≤ t i) × (t i ≤ 2)

-- what switching streets between once and twice makes of t: degrees are odd or even as with `added` added, and at most n is added to the length
pub record Switched (ss : List Street) (t : ℕ → ℕ) (added : ℕ → ℕ) (n : ℕ) (u : ℕ → ℕ) : Type 0 where
  pub still : OnceOrTwice ss u
  pub parity : (k : ℕ) → degree ss u k % 2 ≡ (degree ss t k + added k) % 2
  pub cost : stretch ss u ≤ stretch ss t + n
