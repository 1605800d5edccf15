-- Legs in bytes, two for each.
use Rattle.std.proofs.Common.{◌≡◌, ℕ, zero, suc, ◌+◌, ◌*◌, ◌<◌, ◌≤◌, List, [], ◌∷◌, ◌++◌, map, length, get_or, take, drop, refl, ap, ◌∙◌, arith}
use Rattle.std.proofs.lemmas.List.{get_or-drop, length-drop, map_more, length-map, length-take}
use Rattle.std.proofs.lemmas.List.Elements.{All-map}
use Rattle.std.proofs.lemmas.Nat.{le_bytes_2, from_le_bytes-to_le_bytes_2}
use Rattle.std.proofs.lemmas.Grind.{common_steps}
use Rattle.std.proofs.lemmas.Bool.Decides.{nat_tests}
use Rattle.streets.specs.Streets.{Leg, leg_code}
use Rattle.streets.specs.Meaning.{as_leg}
use Rattle.streets.specs.declared.leg.Leg.{Leg as LegStruct}
use Rattle.streets.proofs.Legs.{code_again, leg_again}
use Rattle.wire.specs.Rows.{put, word}
use Rattle.wire.specs.Format.{leg_row, leg_at, legs_row, legs_in, Short}
use Rattle.wire.proofs.Puts.{put_then, put_same}

pub length-legs_row : (ls : List Leg) → length (legs_row ls) ≡ 2 * length ls
unfolding legs_row
length-legs_row [] = refl
length-legs_row (l ∷ ls) = let r = length-legs_row ls in omega arith

pub length-legs_in : (n : ℕ) (bs : List ℕ) → length (legs_in n bs) ≡ n
unfolding legs_in
length-legs_in zero bs = refl
length-legs_in (suc n) bs = ap suc (length-legs_in n (drop 2 bs))

pub legs_row_push : (ls : List Leg) (l : Leg) → legs_row (ls ++ l ∷ []) ≡ legs_row ls ++ leg_row l
unfolding legs_row
legs_row_push [] l = refl
legs_row_push (k ∷ ls) l = ap (λ r. leg_row k ++ r) (legs_row_push ls l)

-- one leg more behind those that are written
pub legs_more :
    {X : Type 0} (f : X → Leg) (xs : List X) (k : ℕ) (x : X) (part : List ℕ) {bs bs' : List ℕ} →
    k < length xs →
    x ≡ get_or xs k x →
    bs ≡ put part 0 (legs_row (map f (take k xs))) →
    bs' ≡ put bs (2 * k) (leg_row (f x)) →
    bs' ≡ put part 0 (legs_row (map f (take (k + 1) xs)))
legs_more f xs k x part h at was puts =
    let m : map f (take (k + 1) xs) ≡ map f (take k xs) ++ f x ∷ [] = cc (map_more f xs k x h) in
    let n : 2 * k ≡ length (legs_row (map f (take k xs))) = simp (length-legs_row, length-map, length-take) (omega arith) in
    rw (m, legs_row_push) (put_then part (legs_row (map f (take k xs))) (leg_row (f x)) (2 * k) was puts n)

-- two bytes as a leg are the leg's two bytes
leg_row_again : (x y : ℕ) (bs : List ℕ) → x < 256 → y < 256 → leg_row (leg_at (x ∷ y ∷ bs) 0) ≡ x ∷ y ∷ []
leg_row_again x y bs p q = rw (code_again (x + y * 256)) (le_bytes_2 (x ∷ y ∷ []) (x + y * 256) refl (λ k. grind (arith, common_steps)) refl)

pub legs_row_again : (n : ℕ) (bs : List ℕ) → ((k : ℕ) → k < 2 * n → get_or bs k 0 < 256) → 2 * n ≤ length bs → legs_row (legs_in n bs) ≡ take (2 * n) bs
unfolding legs_row legs_in
legs_row_again zero bs b h = refl
legs_row_again (suc n) [] b h = absurd (omega arith)
legs_row_again (suc n) (x ∷ []) b h = absurd (omega arith)
legs_row_again (suc n) (x ∷ y ∷ bs) b h =
    let e : 2 * suc n ≡ suc (suc (2 * n)) = omega arith in
    let r = legs_row_again n bs (λ k l. b (suc (suc k)) (omega arith)) (omega arith) in
    let first = leg_row_again x y bs (b 0 (omega arith)) (b 1 (omega arith)) in
    rw e (ap (λ row. row ++ legs_row (legs_in n bs)) first ∙ ap (λ row. x ∷ y ∷ row) r)

-- behind a count, bytes are as many legs
pub legs_stay :
    (t n : ℕ) (base bs : List ℕ) →
    ((k : ℕ) → k < 5 + 2 * n → get_or bs k 0 < 256) →
    5 + 2 * n ≤ length base →
    bs ≡ put base 0 (t ∷ word n) →
    bs ≡ put base 0 (t ∷ (word (length (legs_in n (drop 5 base))) ++ legs_row (legs_in n (drop 5 base))))
legs_stay t n base bs b h was =
    let part : drop 5 bs ≡ drop 5 base = rw was refl in
    let long : length bs ≡ length base = rw was (simp length-drop (omega arith)) in
    let byte : (k : ℕ) → k < 2 * n → get_or (drop 5 bs) k 0 < 256 = λ k l. rw get_or-drop (b (5 + k) (omega arith)) in
    let again = legs_row_again n (drop 5 base) (rw part at byte) (simp length-drop (omega arith)) in
    let same = rw part at (put_same bs 5 (2 * n) (omega arith)) in
    rw (length-legs_in n (drop 5 base), again) (put_then base (t ∷ word n) (take (2 * n) (drop 5 base)) 5 was same refl)

-- a leg's two bytes as a leg are the leg
leg_at_again : (l : Leg) (bs : List ℕ) → l.along < 32768 → leg_at (leg_row l ++ bs) 0 ≡ l
leg_at_again l bs h = rw (from_le_bytes-to_le_bytes_2 (leg_code l) (grind (arith, nat_tests))) (leg_again l)

pub legs_in_again : (ls : List Leg) (bs : List ℕ) → Short ls → legs_in (length ls) (legs_row ls ++ bs) ≡ ls
unfolding legs_row legs_in
legs_in_again [] bs h = refl
legs_in_again (l ∷ ls) bs h =
    let first = leg_at_again l (legs_row ls ++ bs) (h 0 l (omega arith)) in
    ap (λ x. x ∷ legs_in (length ls) (legs_row ls ++ bs)) first ∙ ap (λ xs. l ∷ xs) (legs_in_again ls bs (λ k d i. h (suc k) d (omega arith)))

-- the code's legs are short
pub short_legs : (xs : List LegStruct) → Short (map as_leg xs)
short_legs xs = All-map (λ l. l.along < 32768) as_leg xs (λ k d _. (get_or xs k d).short)
