-- Rows that are written over bytes, one after the other.
use Rattle.std.proofs.Common.{◌≡◌, ℕ, ◌+◌, ◌-◌, ◌<◌, ◌≤◌, Bool, true, false, List, [], ◌∷◌, ◌++◌, length, get_or, take, drop, set, None, Option, sym, refl, ap, ◌∙◌, add_assoc, arith}
use borrow.Rule.Slice.PartMut.{put_mid}
use Rattle.std.proofs.lemmas.List.{drop_all, take_all, append-nil, drop-drop, append_assoc, length-append, length-take, length-drop, take-append-drop, take_at, drop_at, get_or_append_left}
use Rattle.std.proofs.lemmas.Bool.{le-leb}
use Rattle.std.proofs.lemmas.Grind.{common_steps}
use Rattle.std.proofs.lemmas.Slice.{drop-put_mid}
use Rattle.wire.specs.Rows.{put, Written, WrittenIf}

-- a row at the front of all that comes behind an index is a row at that index
pub put_behind :
    (a : ℕ) (xs ys row : List ℕ) →
    a ≤ length xs →
    ys ≡ put (take (length xs - a) (drop a xs)) 0 row →
    put_mid a (length xs - a) xs ys ≡ put xs a row
put_behind a xs ys row h was =
    let short : length (drop a xs) ≤ length xs - a = simp length-drop (omega arith) in
    let all = take_all (length xs - a) (drop a xs) short in
    let none = drop_all (length xs - a) (drop a xs) short in
    let row_long : 0 + length row ≡ length row = omega arith in
    rw (was, row_long, all, none, append-nil, drop-drop)

-- the first byte of a row, and what comes behind
pub put_first : (bs : List ℕ) (b : ℕ) → 1 ≤ length bs → set bs 0 b ≡ put bs 0 (b ∷ [])
put_first bs b h = grind (arith, common_steps)

pub put_then :
    (base row more : List ℕ) (n : ℕ) {bs bs' : List ℕ} →
    bs ≡ put base 0 row →
    bs' ≡ put bs n more →
    n ≡ length row →
    bs' ≡ put base 0 (row ++ more)
put_then base row more n was puts e =
    let t = take_at row (drop (0 + length row) base) n (sym e) in let d = drop_at row (drop (0 + length row) base) n (sym e) in
    puts ∙ rw (was, t, ← drop-drop, d, drop-drop, append_assoc) (simp (length-append, add_assoc))

-- what stands there already may be written once more
pub put_same : (bs : List ℕ) (n m : ℕ) → n + m ≤ length bs → bs ≡ put bs n (take m (drop n bs))
put_same bs n m h =
    let e : length (take m (drop n bs)) ≡ m = simp (length-take, length-drop) (omega arith) in
    rw (e, ← drop-drop, take-append-drop, take-append-drop)

pub unwritten : (fits : Bool) (row before : List ℕ) → fits ≡ false → WrittenIf fits row before None before
unwritten fits row before t = record { count = rw t; bytes = rw t }

-- a byte before the place where a row is put is as it was
pub byte_before : (bs row : List ℕ) (n k : ℕ) → k < n → n ≤ length bs → get_or (put bs n row) k 0 ≡ get_or bs k 0
byte_before bs row n k l h = grind (arith, common_steps, get_or_append_left)

-- what lies past a row that is put somewhere is as it was
pub put_past : (bs row : List ℕ) (i n : ℕ) → i + length row ≤ n → i ≤ length bs → drop n (put bs i row) ≡ drop n bs
put_past bs row i n h l = rw (← drop-drop) (drop-put_mid i (length row) bs row n h l refl)

-- a row that is written over a part of itself is written over what was there before
pub written_over :
    (fits : Bool) (row over base bs bs' : List ℕ) (i : ℕ) (r : Option ℕ) →
    fits ≡ true →
    i + length over ≤ length row →
    length row ≤ length base →
    bs ≡ put base i over →
    Written row bs r bs' →
    WrittenIf fits row base r bs'
written_over fits row over base bs bs' i r t h l was w =
    let long : length bs ≡ length base = rw was (simp (length-append, length-take, length-drop) (omega arith)) in
    let fit = le-leb (length row) (length bs) (omega arith) in
    let past : drop (0 + length row) bs ≡ drop (0 + length row) base = rw was (put_past base over i (0 + length row) (omega arith) (omega arith)) in
    record { count = rw t (rw fit at w.count); bytes = rw t ((rw fit at w.bytes) ∙ ap (λ x. row ++ x) past) }
