-- Answers with legs that stand in lent bytes: how many they take, and that they are written.
use Rattle.std.proofs.Common.{◌≡◌, ℕ, ◌+◌, ◌-◌, ◌*◌, ◌<◌, ◌≤◌, Bool, true, cond, leb, List, [], ◌∷◌, ◌++◌, map, length, get_or, take, drop, set, Some, None, Option, refl, ◌∙◌, arith}
use borrow.Rule.Slice.PartMut.{put_mid}
use Rattle.std.proofs.lemmas.List.{drop_at, length-append, length-drop, length-set, length-take}
use Rattle.std.proofs.lemmas.Bool.{le-leb}
use Rattle.streets.specs.Streets.{Leg}
use Rattle.wire.specs.Rows.{Bytes, put, word, Written, WrittenIf}
use Rattle.wire.specs.Format.{answer_row, legs_in, legs_row, Short}
use Rattle.wire.specs.Meaning.{as_answer, answer_size, as_round, counted}
use Rattle.wire.specs.declared.answer.Answer.{Answer as AnswerEnum}
use Rattle.wire.specs.declared.answer.Answer.TheVariants.{Refused, Number, Shortest, SomeRound, Never}
use Rattle.wire.proofs.Puts.{put_behind, put_first, put_then, byte_before, written_over}
use Rattle.wire.proofs.Pairs.{length-legs_row, length-legs_in, legs_stay, legs_in_again}

pub length_answer_row : (part : List ℕ) (a : AnswerEnum) → length (answer_row (as_answer part a)) ≡ answer_size a
length_answer_row part (Refused k p) = refl
length_answer_row part (Number n) = refl
length_answer_row part (Shortest n) = omega (arith, length-legs_row (legs_in n part), length-legs_in n part)
length_answer_row part (SomeRound n low) = simp length-append (omega (arith, length-legs_row (legs_in n part), length-legs_in n part))
length_answer_row part Never = refl

module _ (n : ℕ) (base bs : List ℕ) where
  head_written :
      (t : ℕ) →
      5 + 2 * n ≤ length base →
      bs ≡ put (set base 0 t) 1 (word n) →
      ((k : ℕ) → k < 5 + 2 * n → get_or bs k 0 < 256) →
      bs ≡ put base 0 (t ∷ (word (length (legs_in n (drop 5 base))) ++ legs_row (legs_in n (drop 5 base))))
  head_written t h puts b = legs_stay t n base bs b h (put_then base (t ∷ []) (word n) 1 (put_first base t (omega arith)) puts refl)

  pub shortest_written :
      5 + 2 * n ≤ length base →
      bs ≡ put (set base 0 2) 1 (word n) →
      Bytes bs →
      bs ≡ put base 0 (answer_row (as_answer (drop 5 base) (Shortest n)))
  shortest_written h puts b = head_written 2 h puts (λ k l. b k)

  pub some_round_written :
      (low : ℕ) (bs' : List ℕ) →
      9 + 2 * n ≤ length base →
      bs ≡ put (set base 0 3) 1 (word n) →
      bs' ≡ put bs (5 + 2 * n) (word low) →
      Bytes bs' →
      bs' ≡ put base 0 (answer_row (as_answer (drop 5 base) (SomeRound n low)))
  some_round_written low bs' h puts ends b =
      let ls = legs_in n (drop 5 base) in
      let long : length bs ≡ length base = rw puts (simp (length-append, length-take, length-drop, length-set) (omega arith)) in
      let before : (k : ℕ) → k < 5 + 2 * n → get_or bs k 0 < 256 = λ k l. grind (arith, b k, ends, byte_before bs (word low) (5 + 2 * n) k) in
      put_then base (3 ∷ (word (length ls) ++ legs_row ls)) (word low) (5 + 2 * n) (head_written 3 (omega arith) puts before) ends (omega (arith, length-legs_row ls, length-legs_in n (drop 5 base)))

pub length_round : (ls : List Leg) (low : Option ℕ) → 5 + 2 * length ls ≤ length (answer_row (as_round ls low))
length_round ls None = omega (arith, length-legs_row ls)
length_round ls (Some n) = simp length-append (omega (arith, length-legs_row ls))

pub size_counted :
    (ls : List Leg) (low : Option ℕ) {n size : ℕ} {a : AnswerEnum} →
    n ≡ length ls →
    a ≡ counted n low →
    size ≡ answer_size a →
    size ≡ length (answer_row (as_round ls low))
size_counted ls None e w s = let t = rw w at s in omega (arith, length-legs_row ls)
size_counted ls (Some k) e w s = let t = rw w at s in simp length-append (omega (arith, length-legs_row ls))

counted_is : (part : List ℕ) (n : ℕ) (low : Option ℕ) → as_answer part (counted n low) ≡ as_round (legs_in n part) low
counted_is part n low = grind arith

-- what an answer has behind its count
abbrev pub behind : List ℕ → List ℕ
behind base = take (length base - 5) (drop 5 base)

-- legs that were written there
pub legs_handed_on :
    {X : Type 0} (f : X → Leg) (xs : List X) (base ys : List ℕ) →
    5 + 2 * length xs ≤ length base →
    ys ≡ cond (leb (2 * length xs) (length (behind base))) (put (behind base) 0 (legs_row (map f xs))) (behind base) →
    put_mid 5 (length base - 5) base ys ≡ put base 5 (legs_row (map f xs))
legs_handed_on f xs base ys h was =
    let fit = le-leb (2 * length xs) (length (behind base)) (simp (length-take, length-drop) (omega arith)) in
    put_behind 5 base ys (legs_row (map f xs)) (omega arith) (rw fit at was)

-- and the answer that was written around them
pub round_written :
    (fits : Bool) (ls : List Leg) (low : Option ℕ) {n : ℕ} {a : AnswerEnum} {base bs bs' : List ℕ} {r : Option ℕ} →
    Short ls →
    n ≡ length ls →
    a ≡ counted n low →
    fits ≡ true →
    length (answer_row (as_round ls low)) ≤ length base →
    bs ≡ put base 5 (legs_row ls) →
    Written (answer_row (as_answer (drop 5 bs) a)) bs r bs' →
    WrittenIf fits (answer_row (as_round ls low)) base r bs'
round_written fits ls low {n} {a} {base} {bs} {bs'} {r} short count is t h was w =
    let five = length_round ls low in
    let part : drop 5 bs ≡ legs_row ls ++ drop (5 + length (legs_row ls)) base = rw was (drop_at (take 5 base) _ 5 (simp length-take (omega arith))) in
    let again = legs_in_again ls (drop (5 + length (legs_row ls)) base) short in
    let e : as_answer (drop 5 bs) a ≡ as_round ls low = rw (is, count) (counted_is (drop 5 bs) (length ls) low ∙ rw (part, again)) in
    written_over fits (answer_row (as_round ls low)) (legs_row ls) base bs bs' 5 r t (omega (arith, length-legs_row ls)) h was (rw e at w)
