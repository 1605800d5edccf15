-- What the words of the head and of a street say.
use Rattle.std.proofs.Common.{◌≡◌, ℕ, suc, ◌+◌, ◌-◌, ◌*◌, [], ◌∷◌, ◌<◌, ◌≤◌, true, List, length, take, ◌∙◌, sym, refl, ap, inl, inr, arith}
use Rattle.std.proofs.lemmas.Bool.{cases_lt}
use Rattle.std.proofs.lemmas.List.{length-take-le, get_or-take}
use Rattle.std.proofs.lemmas.List.FromFn.{length-map-range_with_len, get_or-map-range_with_len, fill_by_all}
use Rattle.streets.specs.Streets.{Street, joining, street, ends_at}
use Rattle.streets.specs.Calls.{Limits}
use Rattle.streets.specs.Promise.{GoodLimits}
use Rattle.streets.specs.Theorems.{in_town}
use Rattle.streets.proofs.Tests.{in_town_from}
use Rattle.streets.proofs.Degrees.{two_ends, none_past}
use Rattle.town.specs.Corners.{ends_before}
use Rattle.town.specs.Layout.{corners_at, limit_at, count_at, word, limits_in, count_in, street_from, street_in, streets_in, streets_left, Readable, starts_from, words}
use Rattle.town.specs.Town.{Proper, Front, Ready, Town}
use Rattle.town.proofs.Ends.{before_upto}

-- the limits, from their words
limits_read : (l : Limits) (m : List ℕ) → word m corners_at ≡ l.corners → word m limit_at ≡ l.streets → limits_in m ≡ l
unfolding limits_in
limits_read l m e f = rw (e, f)

pub street_is : (m : List ℕ) (i : ℕ) (s : Street) → word m (street_from i) ≡ s.one → word m (street_from i + 1) ≡ s.other → word m (street_from i + 2) ≡ s.long → street_in m i ≡ s
unfolding street_in
street_is m i s e f g = rw (e, f, g)

-- street j of m is street i of m', if its words are
pub street_moved : (m m' : List ℕ) (i j : ℕ) → let p = street_from i in let q = street_from j in (word m' p ≡ word m q) × (word m' (p + 1) ≡ word m (q + 1)) × (word m' (p + 2) ≡ word m (q + 2)) → street_in m' i ≡ street_in m j
unfolding street_in
street_moved m m' i j e = cc

-- a street less is left, until none is
module _ (m : List ℕ) (i n : ℕ) where
  pub none_left : n ≤ i → streets_left m i n ≡ []
  unfolding streets_left
  none_left h = let e : n - i ≡ 0 = omega arith in rw e

  pub one_less_left : i < n → streets_left m i n ≡ street_in m i ∷ streets_left m (i + 1) n
  unfolding streets_left
  one_less_left h = let e : n - i ≡ suc (n - (i + 1)) = omega arith in rw e

streets_read : (m : List ℕ) (ss : List Street) → word m count_at ≡ length ss → ((i : ℕ) → i < length ss → street_in m i ≡ street ss i) → streets_in m ≡ ss
unfolding streets_in count_in
streets_read m ss n each =
    rw n (sym (fill_by_all (street_in m) ss (length ss) (joining 0 0 0) refl (λ k h. sym (each k h))))

pub front_from : {l : Limits} {m : List ℕ} {ss : List Street} → GoodLimits l → words l ≤ length m → word m corners_at ≡ l.corners → word m limit_at ≡ l.streets → word m count_at ≡ length ss → ((i : ℕ) → i < length ss → (street_in m i ≡ street ss i) × Proper l (street ss i)) → length ss ≤ l.streets → Front l m ss
front_from good room corners limit count each few =
    record { good = good; room = room; limits = limits_read _ _ corners limit; streets = streets_read _ _ count (λ i h. (each i h).0); few = few; proper = λ i h. (each i h).1 }

module _ {l : Limits} {m : List ℕ} {ss : List Street} (r : Front l m ss) where
  pub limit_words : (word m corners_at ≡ l.corners) × (word m limit_at ≡ l.streets)
  unfolding limits_in
  limit_words = (cc, cc)

  pub limit_short : (word m corners_at < 65536) × (word m limit_at < 65536)
  limit_short = omega (arith, limit_words.0, limit_words.1, r.good.few_corners, r.good.few_streets)

  pub count_word : word m count_at ≡ length ss
  unfolding streets_in count_in
  count_word = rw length-map-range_with_len at (ap length r.streets)

  pub count_short : word m count_at < 65536
  count_short = omega (arith, count_word, r.few, r.good.few_streets)

  pub street_read : (i : ℕ) → i < length ss → street_in m i ≡ street ss i
  unfolding streets_in count_in
  street_read i h =
      rw (sym (r.streets)) (sym (get_or-map-range_with_len (street_in m) 0 (word m count_at) i i (joining 0 0 0) (omega (arith, count_word)) (omega arith)))

  -- the same in a memory that has kept the words of the street
  pub street_kept : (m' : List ℕ) (i : ℕ) → i < length ss → ((p : ℕ) → count_at < p → p < street_from (i + 1) → word m' p ≡ word m p) → street_in m' i ≡ street ss i
  street_kept m' i h same = let p = street_from i in street_moved _ _ i i (same p (omega arith) (omega arith), same (p + 1) (omega arith) (omega arith), same (p + 2) (omega arith) (omega arith)) ∙ street_read i h

  -- other streets in a memory that has kept the limits
  pub front_changed : {m' : List ℕ} {ss' : List Street} → length m' ≡ length m → ((p : ℕ) → p < count_at → word m' p ≡ word m p) → word m' count_at ≡ length ss' → ((i : ℕ) → i < length ss' → (street_in m' i ≡ street ss' i) × Proper l (street ss' i)) → length ss' ≤ l.streets → Front l m' ss'
  front_changed long same = front_from r.good (omega (arith, r.room)) (same corners_at (omega arith) ∙ limit_words.0) (same limit_at (omega arith) ∙ limit_words.1)

  pub ends_short : (i : ℕ) → i < length ss → (word m (street_from i) < 65536) × (word m (street_from i + 1) < 65536)
  unfolding street_in
  ends_short i h =
      let w = street_read i h in
      let p = r.proper i h in
      omega (arith, ap (λ (s : Street). s.one) w, ap (λ (s : Street). s.other) w, p.one_there, p.other_there, r.good.few_corners)

  -- the words before the lists have all streets
  module _ {a : ℕ} (here : a ≡ suc (starts_from l)) where
    pub front_length : length (take a m) ≡ suc (starts_from l)
    front_length = length-take-le a m (omega (arith, r.room)) ∙ here

    front_word : (p : ℕ) → p < a → word (take a m) p ≡ word m p
    front_word p h = rw get_or-take

    pub front_streets : {n : ℕ} → n ≡ length ss → streets_left (take a m) 0 n ≡ ss
    unfolding streets_left
    front_streets all = let e : length ss - 0 ≡ length ss = omega arith in rw (all, e) (sym (fill_by_all (street_in (take a m)) ss (length ss) (joining 0 0 0) refl (λ i h. sym (each i h))))
      where
        each : (i : ℕ) → i < length ss → street_in (take a m) i ≡ street ss i
        each i h =
            let p = street_from i in
            let fits = r.few in
            street_moved m (take a m) i i (front_word p (omega arith), front_word (p + 1) (omega arith), front_word (p + 2) (omega arith)) ∙ street_read i h

    pub front_readable : {n : ℕ} → n ≡ length ss → Readable (take a m) n
    front_readable all =
        record {
          room = omega (arith, front_length, r.few);
          short = λ i h. let s = ends_short i (omega arith) in omega (arith, front_word (street_from i) (omega (arith, r.few)), front_word (street_from i + 1) (omega (arith, r.few)));
        }

  pub ready : Ready m
  ready = rw (r.limits, r.streets) r

  -- the town in a memory that the lists were written to
  pub relisted : {m' : List ℕ} → Town (limits_in m) m' (streets_in m) → Town l m' ss
  relisted t = rw (r.limits, r.streets) at t

  pub ends_in_town : in_town l.corners ss ≡ true
  ends_in_town = in_town_from l.corners ss (λ i h. ((r.proper i h).one_there, (r.proper i h).other_there))

  -- two ends for each street, so at most 2,048 at a corner
  pub two_for_each : ends_before ss l.corners ≡ 2 * length ss
  two_for_each = two_ends ss l.corners ends_in_town

  pub few_ends : (c : ℕ) → c < l.corners → ends_before ss c + ends_at ss c ≤ 2 * l.streets
  few_ends c h = omega (arith, two_for_each, before_upto ss c l.corners h, r.few)

  pub short_degree : (c : ℕ) → ends_at ss c < 65536
  short_degree c =
      elim (cases_lt c l.corners) [
        | inl h ↦ omega (arith, few_ends c h, r.good.few_streets)
        | inr h ↦ omega (arith, none_past ss l.corners c ends_in_town h)
      ]
