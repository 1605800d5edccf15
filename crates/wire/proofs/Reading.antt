-- What was written reads as what it was, and what reads as a call or an answer was written so.
use Rattle.std.proofs.Common.{◌≡◌, ℕ, suc, ◌+◌, ◌*◌, ◌≤◌, true, cond, ◌&&◌, eqb, ltb, List, [], ◌∷◌, ◌++◌, length, drop, Ok, Result, sym, refl, ap, ◌∙◌, arith}
use Rattle.std.proofs.lemmas.Bool.{eq-eqb, ltb-true, and_parts}
use Rattle.std.proofs.lemmas.Bool.Decides.{nat_tests}
use Rattle.std.proofs.lemmas.Nat.{from_le_bytes-to_le_bytes_4}
use Rattle.std.proofs.lemmas.List.{nil_from_length, append-nil, length-append, length-drop, get_or-drop, drop-drop, drop_all, take-append-drop}
use Rattle.streets.specs.Streets.{Leg}
use Rattle.streets.specs.Calls.{refused, number, shortest, some_round, never}
use Rattle.wire.specs.Rows.{Bytes, word, word_at}
use Rattle.wire.specs.Format.{call_row, fitting, legs_row, legs_in, answer_row}
use Rattle.wire.specs.Laws.{CallAgain, CallRowAgain, OneCallRow, FirstRow, AnswerAgain, AnswerRowAgain}
use Rattle.wire.specs.declared.call.Call.TheVariants.{Open, Close, Odd, Round}
use Rattle.wire.proofs.Words.{word_then, word_last, word_behind}
use Rattle.wire.proofs.Pairs.{length-legs_row, length-legs_in, legs_row_again, legs_in_again}

pub call_again : CallAgain
call_again (Open a b n) h =
    let p = and_parts (ltb a 4294967296) (ltb b 4294967296 && ltb n 4294967296) h in
    let q = and_parts (ltb b 4294967296) (ltb n 4294967296) p.1 in
    rw (from_le_bytes-to_le_bytes_4 a (ltb-true _ _ p.0), from_le_bytes-to_le_bytes_4 b (ltb-true _ _ q.0), from_le_bytes-to_le_bytes_4 n (ltb-true _ _ q.1))
call_again (Close i) h = rw (from_le_bytes-to_le_bytes_4 i (ltb-true _ _ h))
call_again Odd h = refl
call_again (Round c) h = rw (from_le_bytes-to_le_bytes_4 c (ltb-true _ _ h))

pub first_row_is : FirstRow
first_row_is (Open a b n) rest = refl
first_row_is (Close i) rest = refl
first_row_is Odd rest = refl
first_row_is (Round c) rest = refl

-- a row that is tried for a first byte and a size: it is what was read, written, or the next are tried
module _ {A : Type 0} (row : A → List ℕ) (k j n : ℕ) (bs : List ℕ) (a x : A) (next : Result A ℕ) where
  pub tried :
      cond (eqb k j) (fitting n bs a) next ≡ Ok x →
      (length bs ≡ n → row a ≡ j ∷ bs) →
      (next ≡ Ok x → row x ≡ k ∷ bs) →
      row x ≡ k ∷ bs
  tried e here there = grind (arith, nat_tests)

pub call_row_again : CallRowAgain
call_row_again [] c b e = absurd (cc)
call_row_again (k ∷ bs) c b e =
    let r : Bytes bs = λ i. b (suc i) in
    tried call_row k 0 12 bs _ c _ e (λ n. ap (λ row. 0 ∷ row) (word_then bs _ 0 r (omega arith) (word_then bs _ 4 r (omega arith) (word_last bs 8 r (omega arith)))))
    (λ e. tried call_row k 1 4 bs _ c _ e (λ n. ap (λ row. 1 ∷ row) (word_last bs 0 r (omega arith)))
    (λ e. tried call_row k 2 0 bs _ c _ e (λ n. ap (λ row. 2 ∷ row) (sym (nil_from_length bs n)))
    (λ e. tried call_row k 3 4 bs _ c _ e (λ n. ap (λ row. 3 ∷ row) (word_last bs 0 r (omega arith)))
    (λ e. absurd (cc)))))

pub one_call_row : OneCallRow
one_call_row row row' c b b' e e' = sym (call_row_again row c b e) ∙ call_row_again row' c b' e'

-- as many legs as are said, and nothing or a length behind them
length_shortest : (ls : List Leg) → eqb (length (word (length ls) ++ legs_row ls)) (4 + 2 * length ls) ≡ true
length_shortest ls = eq-eqb _ (4 + 2 * length ls) (omega (arith, length-legs_row ls))

length_some_round : (ls : List Leg) (low : ℕ) → eqb (length (word (length ls) ++ (legs_row ls ++ word low))) (8 + 2 * length ls) ≡ true
length_some_round ls low = eq-eqb _ (8 + 2 * length ls) (omega (arith, length-legs_row ls, length-append (legs_row ls) (word low)))

legs_behind :
    (bs rest : List ℕ) →
    Bytes bs →
    4 + 2 * word_at bs 0 ≤ length bs →
    rest ≡ drop (4 + 2 * word_at bs 0) bs →
    word (length (legs_in (word_at bs 0) (drop 4 bs))) ++ (legs_row (legs_in (word_at bs 0) (drop 4 bs)) ++ rest) ≡ bs
legs_behind bs rest b h e =
    let n = word_at bs 0 in
    let legs = legs_row_again n (drop 4 bs) (λ k l. rw get_or-drop (b (4 + k))) (simp length-drop (omega arith)) in
    let part : legs_row (legs_in n (drop 4 bs)) ++ rest ≡ drop 4 bs = rw (legs, e, ← drop-drop) (take-append-drop (2 * n) (drop 4 bs)) in
    ap (λ m. word m ++ (legs_row (legs_in n (drop 4 bs)) ++ rest)) (length-legs_in n (drop 4 bs)) ∙ word_then bs _ 0 b (omega arith) part

pub answer_again : AnswerAgain
answer_again (refused k p) h = rw (from_le_bytes-to_le_bytes_4 k h.0, from_le_bytes-to_le_bytes_4 p h.1)
answer_again (number n) h = rw (from_le_bytes-to_le_bytes_4 n h)
answer_again (shortest ls) h =
    let legs : legs_in (length ls) (legs_row ls) ≡ ls = rw append-nil at (legs_in_again ls [] h.1) in
    rw (from_le_bytes-to_le_bytes_4 (length ls) h.0, length_shortest ls, legs)
answer_again (some_round ls low) h =
    let low_is = word_behind (word (length ls) ++ legs_row ls) low (4 + 2 * length ls) (omega (arith, length-legs_row ls)) h.2 in
    rw (from_le_bytes-to_le_bytes_4 (length ls) h.0, length_some_round ls low, legs_in_again ls (word low) h.1, low_is)
answer_again never h = refl

pub answer_row_again : AnswerRowAgain
answer_row_again [] a b e = absurd (cc)
answer_row_again (k ∷ bs) a b e =
    let r : Bytes bs = λ i. b (suc i) in
    tried answer_row k 0 8 bs _ a _ e (λ n. ap (λ row. 0 ∷ row) (word_then bs _ 0 r (omega arith) (word_last bs 4 r (omega arith))))
    (λ e. tried answer_row k 1 4 bs _ a _ e (λ n. ap (λ row. 1 ∷ row) (word_last bs 0 r (omega arith)))
    (λ e. tried answer_row k 2 (4 + 2 * word_at bs 0) bs _ a _ e (λ n. ap (λ row. 2 ∷ row) (rw append-nil at (legs_behind bs [] r (omega arith) (sym (drop_all (4 + 2 * word_at bs 0) bs (omega arith))))))
    (λ e. tried answer_row k 3 (8 + 2 * word_at bs 0) bs _ a _ e (λ n. ap (λ row. 3 ∷ row) (legs_behind bs _ r (omega arith) (word_last bs (4 + 2 * word_at bs 0) r (omega arith))))
    (λ e. tried answer_row k 4 0 bs _ a _ e (λ n. ap (λ row. 4 ∷ row) (sym (nil_from_length bs n)))
    (λ e. absurd (cc))))))
