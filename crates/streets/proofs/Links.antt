-- Two kinds of links: the walks of a town, and what is no shorter than a metric. Shortest ways are a metric.
use Rattle.std.proofs.Common.{ℕ, ◌+◌, ◌<◌, ◌≤◌, List, [], ◌∷◌, ◌++◌, refl, ◌∙◌, inl, inr, arith}
use Rattle.std.proofs.lemmas.Bool.{cases_lt}
use Rattle.streets.specs.Streets.{Street, forward, how_long}
use Rattle.streets.specs.Pairs.{Way, Linking, Spans, Metric, NoShorter, ShortestWays}
use Rattle.streets.proofs.Legs.{leg_may, leg_as_long}
use Rattle.streets.proofs.Walks.{stay, one_leg, goes-append, long_append}
use Rattle.streets.proofs.Reversal.{BothWays, reversed}

pub way_links : (ss : List Street) → BothWays ss → Linking (Way ss)
way_links ss both =
    record {
      turned = λ a b n w. let r = reversed ss both a w.0 b w.1 in (r.0, r.1, r.2 ∙ w.2);
      joined = λ a b c m n v w. (v.0 ++ w.0, goes-append ss a v.0 b w.0 c v.1 w.1, omega (arith, long_append ss v.0 w.0, v.2, w.2));
    }

pub way_spans : (ss : List Street) → Spans (Way ss) ss
unfolding how_long
way_spans ss i l = (forward i ∷ [], one_leg ss (forward i) (leg_may ss (forward i) l), omega (arith, leg_as_long ss (forward i)))

pub metric_links : (n : ℕ) (d : ℕ → ℕ → ℕ) → Metric n d → Linking (NoShorter n d)
metric_links n d m =
    record {
      turned = λ a b k w. (w.1, w.0, omega (arith, w.2, m.symmetric a b w.0 w.1));
      joined = λ a b c j k v w. (v.0, w.1, omega (arith, v.2, w.2, m.triangle a b c v.0 v.1 w.1));
    }

-- symmetric by walks reversed, with the triangle inequality by walks joined
pub ways_metric : (ss : List Street) → BothWays ss → (n cap : ℕ) (d : ℕ → ℕ → ℕ) → ShortestWays ss n cap d → Metric n d
unfolding how_long
ways_metric ss both n cap d w =
    record {
      same = λ a p. omega (arith, w.least a a 0 p p ([], stay ss a, refl));
      symmetric = λ a b p q. omega (arith, no_more a b p q, no_more b a q p);
      triangle = no_detour;
    }
  where
    law : Linking (Way ss)
    law = way_links ss both

    no_more : (a b : ℕ) → a < n → b < n → d a b ≤ d b a
    no_more a b p q =
        elim (cases_lt (d b a) cap) [
          | inl l ↦ w.least a b (d b a) p q (law.turned b a (d b a) (w.way b a q p l))
          | inr l ↦ omega (arith, w.capped a b p q)
        ]

    no_detour : (a b c : ℕ) → a < n → b < n → c < n → d a c ≤ d a b + d b c
    no_detour a b c p q r =
        elim (cases_lt (d a b + d b c) cap) [
          | inl l ↦ w.least a c (d a b + d b c) p r (law.joined a b c (d a b) (d b c) (w.way a b p q (omega arith)) (w.way b c q r (omega arith)))
          | inr l ↦ omega (arith, w.capped a c p r)
        ]
