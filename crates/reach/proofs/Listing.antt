-- The list of the odd corners, corner by corner.
use Rattle.std.proofs.Common.{◌≡◌, ℕ, ◌+◌, ◌%◌, ◌≤◌, true, false, cond, List, [], ◌∷◌, ◌++◌, length, set, refl, ap, ◌∙◌, arith, add-one}
use Rattle.std.proofs.lemmas.List.{map-id, append-nil, length_push}
use Rattle.std.proofs.lemmas.List.FromFn.{filter_of_map_range_with_len_more}
use Rattle.streets.specs.Streets.{Street, odd_corners}
use Rattle.streets.specs.Theorems.{in_town}
use Rattle.streets.proofs.Degrees.{in_pairs}
use Rattle.streets.specs.Calls.{odd, number, changed, may_say}
use Rattle.town.specs.Layout.{limits_in, streets_in}
use Rattle.town.specs.Town.{Sound}
use Rattle.town.specs.Changes.{Called}
use Rattle.town.proofs.Calling.{accepted}
use Rattle.reach.specs.Odd.{is_odd, odd_below, over}

-- of the corners below c, `found` are odd, and these are written over w
pub record Listed (ss : List Street) (w : List ℕ) (c found : ℕ) (w' : List ℕ) : Type 0 where
  pub count : found ≡ odd_corners ss c
  pub long : found ≡ length (odd_below ss c)
  pub few : found ≤ c
  pub written : w' ≡ over (odd_below ss c) w

over_push : (xs : List ℕ) (x : ℕ) (w : List ℕ) → over (xs ++ x ∷ []) w ≡ set (over xs w) (length xs) x
over_push [] x [] = refl
over_push [] x (y ∷ w) = refl
over_push (z ∷ xs) x [] = refl
over_push (z ∷ xs) x (y ∷ w) = ap (λ (v : List ℕ). z ∷ v) (over_push xs x w)

odd_below_more : (ss : List Street) (c : ℕ) → odd_below ss (c + 1) ≡ odd_below ss c ++ cond (is_odd ss c) (c ∷ []) []
odd_below_more ss c = simp map-id at (filter_of_map_range_with_len_more (is_odd ss) (λ (x : ℕ). x) 0 c c (omega arith))

odd_corners_more : (ss : List Street) (c : ℕ) → odd_corners ss (c + 1) ≡ cond (is_odd ss c) 1 0 + odd_corners ss c
unfolding odd_corners
odd_corners_more ss c = rw add-one

module _ {ss : List Street} {w : List ℕ} where
  pub listed_none : Listed ss w 0 0 w
  unfolding odd_corners
  listed_none = record { count = refl; long = refl; few = omega arith; written = refl }

  module _ {c found : ℕ} {w' : List ℕ} (s : Listed ss w c found w') where
    pub listed_odd : true ≡ is_odd ss c → Listed ss w (c + 1) (found + 1) (set w' found c)
    listed_odd e =
        let more : odd_below ss (c + 1) ≡ odd_below ss c ++ c ∷ [] = rw (← e) at (odd_below_more ss c) in
        record {
          count = omega (arith, rw (← e) at (odd_corners_more ss c));
          long = omega (arith, ap length more, length_push (odd_below ss c) c);
          few = omega arith;
          written = cc (over_push (odd_below ss c) c w, more);
        }

    pub listed_even : false ≡ is_odd ss c → Listed ss w (c + 1) found w'
    listed_even e =
        let same : odd_below ss (c + 1) ≡ odd_below ss c = rw (← e) at (odd_below_more ss c) ∙ append-nil (odd_below ss c) in
        record { count = omega (arith, rw (← e) at (odd_corners_more ss c)); long = rw same s.long; few = omega arith; written = rw same s.written }

  -- all corners of a town
  pub listed_all : {n c found : ℕ} {w' : List ℕ} → Listed ss w c found w' → c ≡ n → in_town n ss ≡ true → (found ≡ odd_corners ss n) × (found % 2 ≡ 0) × (w' ≡ over (odd_below ss n) w)
  listed_all {n} s e town = let all = rw e at s.count in (all, omega (arith, in_pairs ss n town), rw e at s.written)

-- the call that asks for their number changes nothing
pub answered : {m : List ℕ} {r : ℕ} → Sound m → r ≡ odd_corners (streets_in m) (limits_in m).corners → Called m odd (number r) m
unfolding changed may_say
answered t e = accepted refl (ap number e) t refl
