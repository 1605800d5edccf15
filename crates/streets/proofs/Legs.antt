-- The leg's law: which legs may be used, their ends and their lengths. Lemmas cite this; only examples that compute open `may_go` and `leg_long` elsewhere.
use Rattle.std.proofs.Common.{◌≡◌, ℕ, ◌+◌, ◌<◌, true, ◌⊎◌, List, length, refl, inl, inr, arith}
use Rattle.std.proofs.lemmas.Bool.{ltb-true, lt-ltb, cases_eq}
use Rattle.std.proofs.lemmas.Bool.Decides.{nat_tests}
use Rattle.streets.specs.Streets.{Street, street, Leg, leg_code, coded, starts, stops, leaving, may_go, leg_long, mark, ends}

-- a number as a leg has that number, and a leg as a number is that leg
pub code_again : (n : ℕ) → leg_code (coded n) ≡ n
code_again n = grind (arith, nat_tests)

pub leg_again : (l : Leg) → coded (leg_code l) ≡ l
leg_again l = grind (arith, nat_tests)

pub leg_there : (ss : List Street) (l : Leg) → may_go ss l ≡ true → l.along < length ss
unfolding may_go
leg_there ss l h = ltb-true l.along (length ss) h

pub leg_may : (ss : List Street) (l : Leg) → l.along < length ss → may_go ss l ≡ true
unfolding may_go
leg_may ss l h = lt-ltb l.along (length ss) h

pub leg_as_long : (ss : List Street) (l : Leg) → leg_long ss l ≡ (street ss l.along).long
unfolding leg_long
leg_as_long ss l = refl

-- a leg has the two ends of its street
pub leg_ends : (ss : List Street) (l : Leg) (k : ℕ) → ends (street ss l.along) k ≡ mark (starts ss l) k + mark (stops ss l) k
leg_ends ss l k = grind (arith, nat_tests)

pub starts_end : (ss : List Street) (l : Leg) → 0 < ends (street ss l.along) (starts ss l)
starts_end ss l = grind (arith, nat_tests, leg_ends ss l (starts ss l))

pub stops_end : (ss : List Street) (l : Leg) → 0 < ends (street ss l.along) (stops ss l)
stops_end ss l = grind (arith, nat_tests, leg_ends ss l (stops ss l))

pub leg_at : (ss : List Street) (l : Leg) (k : ℕ) → 0 < ends (street ss l.along) k → (starts ss l ≡ k) ⊎ (stops ss l ≡ k)
leg_at ss l k h = elim (cases_eq (starts ss l) k) [ inl e ↦ inl e | inr n ↦ inr (grind (arith, nat_tests, leg_ends ss l k)) ]

pub leaving_starts : (ss : List Street) (c i : ℕ) → 0 < ends (street ss i) c → starts ss (leaving ss c i) ≡ c
leaving_starts ss c i h = grind (arith, nat_tests)

-- every leg from c stops where the one that leaves c along its street does: only of a loop are there two
pub leaving_stops : (ss : List Street) (l : Leg) (c : ℕ) → starts ss l ≡ c → stops ss (leaving ss c l.along) ≡ stops ss l
leaving_stops ss l c h = grind (arith, nat_tests)
