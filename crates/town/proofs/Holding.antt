-- Where a corner's list stands, and which words hold the town.
use Rattle.std.proofs.Common.{◌≡◌, ℕ, ◌+◌, ◌-◌, ◌<◌, ◌≤◌, List, [], length, take, drop, sym, ◌∙◌, arith}
use borrow.Rule.Slice.PartMut.{put_mid}
use Rattle.std.proofs.lemmas.List.{nil_from_length, get_or-take, length-take-le, length-append, take-take, take-append-le, drop-take}
use Rattle.std.proofs.lemmas.Slice.{between_from_start, drop-put_mid}
use Rattle.streets.specs.Streets.{Street, ends_at}
use Rattle.streets.specs.Calls.{Limits}
use Rattle.streets.proofs.Degrees.{none_past}
use Rattle.streets.proofs.Sums.{sum_next}
use Rattle.town.specs.Corners.{streets_at, ends_before}
use Rattle.town.specs.Layout.{limits_in, streets_in, word, starts_from, lists_from, words}
use Rattle.town.specs.Town.{Town, Sound}
use Rattle.town.specs.Laws.{OneTown}
use Rattle.town.proofs.Ends.{all_ends}
use Rattle.town.proofs.Numbering.{front_kept}
use Rattle.town.proofs.Layouts.{few_ends, ends_in_town}

module _ {l : Limits} {m : List ℕ} {ss : List Street} (t : Town l m ss) where
  -- past the last corner there are no streets
  pub none_there : (c : ℕ) → l.corners ≤ c → streets_at ss c ≡ []
  none_there c h = nil_from_length (streets_at ss c) (all_ends ss c ∙ none_past ss l.corners c (ends_in_town t.front) h)

  -- a corner's list by where it begins and where the next one does
  module _ (c : ℕ) {at lists : ℕ} (there : c < l.corners) (here : at ≡ starts_from l + c) (behind : lists ≡ lists_from l) where
    start : word m at ≡ ends_before ss c
    start = rw here (t.lists.starts c (omega arith))

    stop : word m (at + 1) ≡ ends_before ss c + ends_at ss c
    stop = let e : at + 1 ≡ starts_from l + (c + 1) = omega arith in rw (e, ← sum_next (ends_at ss) c) (t.lists.starts (c + 1) (omega arith))

    pub list_fits : (lists + word m at ≤ lists + word m (at + 1)) × (lists + word m (at + 1) ≤ length m)
    list_fits = omega (arith, start, stop, few_ends t.front c there, t.front.room)

    pub list_read : take (lists + word m (at + 1) - (lists + word m at)) (drop (lists + word m at) m) ≡ streets_at ss c
    list_read =
        let n : lists + word m (at + 1) - (lists + word m at) ≡ ends_at ss c = omega (arith, start, stop) in
        let p : lists + word m at ≡ lists_from l + ends_before ss c = omega (arith, start) in
        rw (n, p) (t.lists.listed c there)

pub one_town : OneTown
one_town l l' m ss ss' t u = (sym t.front.limits ∙ u.front.limits, sym t.front.streets ∙ u.front.streets)

-- a town is in the words that it asks for: whatever lies behind them, memory holds it
module _ {l : Limits} {m : List ℕ} (m' : List ℕ) {ss : List Street} (t : Town l m ss) (room : words l ≤ length m') (same : take (words l) m' ≡ take (words l) m) where
  same_word : (p : ℕ) → p < words l → word m' p ≡ word m p
  same_word p h = rw (← get_or-take (words l) m' p 0 h, same, get_or-take)

  same_stretch : (s n : ℕ) → s + n ≤ words l → take n (drop s m') ≡ take n (drop s m)
  same_stretch s n h = rw (← drop-take s n m', ← take-take (s + n) (words l) m' h, same, take-take, drop-take)

  pub same_town : Town l m' ss
  same_town =
      record {
        front = front_kept t.front room (λ p h. same_word p (omega arith));
        lists =
            record {
              starts = λ c h. same_word (starts_from l + c) (omega arith) ∙ t.lists.starts c h;
              listed = λ c h. same_stretch (lists_from l + ends_before ss c) (ends_at ss c) (omega (arith, few_ends t.front c h)) ∙ t.lists.listed c h;
            };
      }

-- the town's words, as `&mut m[0..n]` hands them on, and m when ys has come back
abbrev pub own : ℕ → List ℕ → List ℕ
own n m = take (n - 0) (drop 0 m)

abbrev pub owned : ℕ → List ℕ → List ℕ → List ℕ
owned n m ys = put_mid 0 (n - 0) m ys

module _ (l : Limits) (m : List ℕ) {n : ℕ} (all : n ≡ words l) (room : words l ≤ length m) where
  length_own : length (own n m) ≡ n
  length_own = rw between_from_start (length-take-le n m (omega arith))

  pub first_words : {ss : List Street} → Town l m ss → Town l (own n m) ss
  first_words t = same_town _ t (omega (arith, length_own)) (rw between_from_start (take-take (words l) n m (omega arith)))

  pub put_back : {ys : List ℕ} {ss : List Street} → length ys ≡ length (own n m) → Town l ys ss → Town l (owned n m ys) ss
  put_back {ys} kept t =
      let long : length ys ≡ n = kept ∙ length_own in
      same_town _ t (omega (arith, length-append ys (drop (n - 0) m))) (take-append-le (words l) ys (drop (n - 0) m) (omega arith))

  pub behind_stays : (ys : List ℕ) → length ys ≡ length (own n m) → drop (words l) (owned n m ys) ≡ drop (words l) m
  behind_stays ys kept = drop-put_mid 0 (n - 0) m ys (words l) (omega arith) (omega arith) (kept ∙ length_own ∙ omega arith)

pub sound : {l : Limits} {m : List ℕ} {ss : List Street} → Town l m ss → Sound m
sound t = rw (t.front.limits, t.front.streets) t

-- the same of a sound memory: what is handed on is the town too, and so is the whole when that has changed
module _ {m : List ℕ} {n : ℕ} (t : Sound m) (all : n ≡ words (limits_in m)) where
  pub own_town : Town (limits_in m) (own n m) (streets_in m)
  own_town = first_words _ _ all t.front.room t

  module _ (ys : List ℕ) (kept : length ys ≡ length (own n m)) where
    pub changed : {ss : List Street} → Town (limits_in (own n m)) ys ss → Town (limits_in m) (owned n m ys) ss
    changed u = put_back _ _ all t.front.room kept (rw own_town.front.limits at u)

    pub changed_behind : drop (words (limits_in m)) (owned n m ys) ≡ drop (words (limits_in m)) m
    changed_behind = behind_stays _ _ all t.front.room ys kept
