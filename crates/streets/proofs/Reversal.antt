-- Walks reversed, in towns whose streets may be used both ways and are as long either way.
use Rattle.std.proofs.Common.{◌≡◌, ℕ, true, not, List, [], ◌∷◌, ◌++◌, sym, refl, ◌∙◌, arith}
use Rattle.std.proofs.lemmas.Bool.Decides.{nat_tests}
use Rattle.streets.specs.Streets.{Street, Leg, stops, may_go, leg_long, goes, how_long}
use Rattle.streets.specs.Pairs.{Way}
use Rattle.streets.proofs.Legs.{leg_there, leg_may, leg_as_long}
use Rattle.streets.proofs.Walks.{step, stands, stay, goes-append, long_append}

abbrev pub turn : Leg → Leg
turn l = record { along = l.along; back = not l.back }

pub record BothWays (ss : List Street) : Type 0 where
  pub may_turn : (l : Leg) → may_go ss l ≡ true → may_go ss (turn l) ≡ true
  pub long_turn : (l : Leg) → leg_long ss (turn l) ≡ leg_long ss l

module _ (ss : List Street) where
  -- every street may be used both ways, as streets are
  pub both_ways : BothWays ss
  both_ways = record { may_turn = λ l h. leg_may ss (turn l) (leg_there ss l h); long_turn = λ l. leg_as_long ss (turn l) ∙ sym (leg_as_long ss l) }

  -- a walk backwards
  pub reversed : BothWays ss → (a : ℕ) (ls : List Leg) (b : ℕ) → goes ss a ls b ≡ true → Way ss b a (how_long ss ls)
  unfolding goes how_long
  reversed both a [] b h = ([], rw (stands ss a b h) (stay ss b), refl)
  reversed both a (l ∷ ls) b h =
      let s = step ss a l ls b h in
      let r = reversed both (stops ss l) ls b s.on in
      let last : goes ss (stops ss l) (turn l ∷ []) a ≡ true = grind (arith, nat_tests, s.here, both.may_turn l s.may) in (
        r.0 ++ turn l ∷ [],
        goes-append ss b r.0 (stops ss l) (turn l ∷ []) a r.1 last,
        omega (arith, long_append ss r.0 (turn l ∷ []), r.2, both.long_turn l),
      )
