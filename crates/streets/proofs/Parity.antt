-- Degrees of a walk: even at every corner but its two ends.
use Rattle.std.proofs.Common.{◌≡◌, ℕ, true, List, [], ◌∷◌, arith}
use Rattle.streets.specs.Streets.{Street, Leg, goes, stops, times, ends}
use Rattle.streets.specs.Counts.{EvenBut}
use Rattle.streets.proofs.Legs.{leg_ends}
use Rattle.streets.proofs.Walks.{step, stands, weigh_none, weigh_leg}

pub parity : (ss : List Street) (c : ℕ) (ls : List Leg) (d : ℕ) → goes ss c ls d ≡ true → EvenBut ss (times ls) c d
parity ss c [] d h k = grind (arith, weigh_none ss (λ s. ends s k), stands ss c d h)
parity ss c (l ∷ ls) d h k =
    let s = step ss c l ls d h in
    grind (arith, s.here, parity ss (stops ss l) ls d s.on k, weigh_leg ss (λ s. ends s k) l ls s.may, leg_ends ss l k)
