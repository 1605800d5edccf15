-- Numbers and their four bytes.
use Rattle.std.proofs.Common.{◌≡◌, ℕ, ◌+◌, ◌<◌, ◌≤◌, List, ◌++◌, length, take, drop, ap, ◌∙◌, arith}
use Rattle.std.proofs.lemmas.Nat.{from_le_bytes-to_le_bytes_4, le_bytes_4}
use Rattle.std.proofs.lemmas.List.{get_or-append-add, get_or-take, get_or-drop, drop-drop, take-append-drop, length-drop, length-take}
use Rattle.std.proofs.lemmas.Grind.{common_steps}
use Rattle.wire.specs.Rows.{Bytes, word, word_at}

pub quad_again : (bs : List ℕ) (i : ℕ) → Bytes bs → i + 4 ≤ length bs → word (word_at bs i) ≡ take 4 (drop i bs)
quad_again bs i b h =
    let four : length (take 4 (drop i bs)) ≡ 4 = simp (length-take, length-drop) (omega arith) in
    le_bytes_4 (take 4 (drop i bs)) (word_at bs i) four (λ k. grind (arith, common_steps, get_or-take, get_or-drop, b (i + k))) (grind (arith, common_steps, get_or-take, get_or-drop))

-- a word and what comes behind it
pub word_then : (bs rest : List ℕ) (i : ℕ) → Bytes bs → i + 4 ≤ length bs → rest ≡ drop (i + 4) bs → word (word_at bs i) ++ rest ≡ drop i bs
word_then bs rest i b h e = ap (λ w. w ++ rest) (quad_again bs i b h) ∙ rw (e, ← drop-drop) (take-append-drop 4 (drop i bs))

pub word_last : (bs : List ℕ) (i : ℕ) → Bytes bs → i + 4 ≡ length bs → word (word_at bs i) ≡ drop i bs
word_last bs i b h = grind (arith, common_steps, quad_again bs i b)

-- a number's bytes at the end of others
pub word_behind : (xs : List ℕ) (n i : ℕ) → i ≡ length xs → n < 4294967296 → word_at (xs ++ word n) i ≡ n
word_behind xs n i e h = grind (arith, common_steps, get_or-append-add xs (word n), from_le_bytes-to_le_bytes_4 n h)
