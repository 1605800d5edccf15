-- A test that a round is shortest, which goes through all rounds that use no street more than twice.
use Rattle.std.specs.Prelude.{ℕ, zero, suc, ◌-◌, ◌*◌, Bool, true, not, ◌&&◌, ◌||◌, List, length, ◌==◌, nat_le, nat_lt}
use Rattle.streets.specs.Streets.{Street, Leg, forward, backward, starts, stops, may_go, leg_long, how_long, mark, is_round}

-- p holds of both legs along each street below n
unfoldable pub every_leg : ℕ → (Leg → Bool) → Bool
every_leg zero p = true
every_leg (suc n) p = (p (forward n) && p (backward n)) && every_leg n p

-- of two uses of each street below n at most one is left
unfoldable pub all_used : (ℕ → ℕ) → ℕ → Bool
all_used left zero = true
all_used left (suc n) = nat_lt (left n) 2 && all_used left n

-- a round from c is complete at v, where `left` says how often each street may still be used
abbrev pub complete : List Street → ℕ → (ℕ → ℕ) → ℕ → Bool
complete ss c left v = v == c && all_used left (length ss)

-- l can be the next leg from v
abbrev pub can_go : List Street → (ℕ → ℕ) → ℕ → Leg → Bool
can_go ss left v l = may_go ss l && (nat_lt 0 (left l.along) && starts ss l == v)

-- l can't be the next leg, or `on` holds after it. What a `let` names is computed only where it is asked for
abbrev pub next : List Street → ((ℕ → ℕ) → ℕ → ℕ → Bool) → (ℕ → ℕ) → ℕ → ℕ → Leg → Bool
next ss on left v b l =
    let after = on (λ i. left i - mark l.along i) (stops ss l) (b - leg_long ss l) in
    not (can_go ss left v l) || after

-- no round is complete at v at a length below b, nor later on
abbrev pub none_from : List Street → ℕ → (ℕ → ℕ) → ℕ → ℕ → Bool → Bool
none_from ss c left v b later = nat_le b 0 || (not (complete ss c left v) && later)

-- no walk of at most m legs from v completes a round from c at a length below b
unfoldable pub none_below : List Street → ℕ → ℕ → (ℕ → ℕ) → ℕ → ℕ → Bool
none_below ss c zero left v b = none_from ss c left v b true
none_below ss c (suc m) left v b = let later = every_leg (length ss) (next ss (none_below ss c m) left v b) in none_from ss c left v b later

-- ls is a round from c, and no round that uses each street at most twice is shorter
unfoldable pub tried : List Street → ℕ → List Leg → Bool
tried ss c ls = is_round ss c ls && none_below ss c (2 * length ss) (λ _. 2) c (how_long ss ls)
