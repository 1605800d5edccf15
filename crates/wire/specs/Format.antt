-- Calls and answers as rows of bytes.
use Rattle.std.specs.Prelude.{ℕ, zero, suc, ◌+◌, ◌*◌, ◌/◌, ◌%◌, ◌<◌, min, if◌then◌else◌, List, [], ◌∷◌, ◌++◌, length, take, drop, Ok, Err, Result, ◌==◌, All}
use Rattle.streets.specs.Streets.{Leg, leg_code, coded}
use Rattle.streets.specs.Calls.{Call, opens, closes, odd, round, garbled, Answer, refused, number, shortest, some_round, never}
use Rattle.wire.specs.Rows.{word, word_at, pair_at}

-- what was read, if exactly n bytes follow the first one; else the index of the byte that is missing or too many
abbrev pub fitting : {A : Type 0} → ℕ → List ℕ → A → Result A ℕ
fitting n bs a = if length bs == n then Ok a else Err (1 + min n (length bs))

-- a call's number and its fields; `garbled` has no row, and the empty list stands for it
abbrev pub call_row : Call → List ℕ
call_row (opens a b n) = 0 ∷ (word a ++ (word b ++ word n))
call_row (closes i) = 1 ∷ word i
call_row odd = 2 ∷ []
call_row (round c) = 3 ∷ word c
call_row (garbled p) = []

abbrev pub call_in : List ℕ → Result Call ℕ
call_in [] = Err 0
call_in (k ∷ bs) =
    if k == 0 then fitting 12 bs (opens (word_at bs 0) (word_at bs 4) (word_at bs 8))
    else if k == 1 then fitting 4 bs (closes (word_at bs 0))
    else if k == 2 then fitting 0 bs odd
    else if k == 3 then fitting 4 bs (round (word_at bs 0))
    else Err 0

-- the call that any row stands for
abbrev pub called : Result Call ℕ → Call
called (Ok c) = c
called (Err p) = garbled p

-- the row of the first call of a sequence, cut short where the bytes end
abbrev pub fields_size : ℕ → ℕ
fields_size k = if k == 0 then 12 else if k == 1 then 4 else if k == 3 then 4 else 0

abbrev pub first_row : List ℕ → List ℕ
first_row [] = []
first_row (k ∷ bs) = k ∷ take (fields_size k) bs

-- the legs that two bytes can hold
abbrev pub Short : List Leg → Type 0
Short ls = All (λ l. l.along < 32768) ls

-- a leg's number as two bytes, little-endian, and the leg whose number stands at an index
abbrev pub leg_row : Leg → List ℕ
leg_row l = leg_code l % 256 ∷ leg_code l / 256 % 256 ∷ []

abbrev pub leg_at : List ℕ → ℕ → Leg
leg_at bs i = coded (pair_at bs i)

unfoldable pub legs_row : List Leg → List ℕ
legs_row [] = []
legs_row (l ∷ ls) = leg_row l ++ legs_row ls

-- the first n legs that the bytes hold
unfoldable pub legs_in : ℕ → List ℕ → List Leg
legs_in zero bs = []
legs_in (suc n) bs = leg_at bs 0 ∷ legs_in n (drop 2 bs)

-- an answer's number and its fields; where there are legs they begin at `legs_at`, after their count
abbrev pub legs_at : ℕ
legs_at = 5

abbrev pub answer_row : Answer → List ℕ
answer_row (refused k p) = 0 ∷ (word k ++ word p)
answer_row (number n) = 1 ∷ word n
answer_row (shortest ls) = 2 ∷ (word (length ls) ++ legs_row ls)
answer_row (some_round ls low) = 3 ∷ (word (length ls) ++ (legs_row ls ++ word low))
answer_row never = 4 ∷ []

abbrev pub answer_in : List ℕ → Result Answer ℕ
answer_in [] = Err 0
answer_in (k ∷ bs) =
    if k == 0 then fitting 8 bs (refused (word_at bs 0) (word_at bs 4))
    else if k == 1 then fitting 4 bs (number (word_at bs 0))
    else if k == 2 then fitting (4 + 2 * word_at bs 0) bs (shortest (legs_in (word_at bs 0) (drop 4 bs)))
    else if k == 3 then fitting (8 + 2 * word_at bs 0) bs (some_round (legs_in (word_at bs 0) (drop 4 bs)) (word_at bs (4 + 2 * word_at bs 0)))
    else if k == 4 then fitting 0 bs never
    else Err 0
