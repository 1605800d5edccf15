-- A search goes on: a corner is found, and the legs of a corner have been followed.
use Rattle.std.proofs.Common.{◌≡◌, ℕ, suc, ◌+◌, ◌-◌, ◌<◌, ◌≤◌, min, true, List, sym, ap, ◌∙◌, inl, inr, arith}
use borrow.Author.Count.{below_more}
use Rattle.std.proofs.lemmas.Bool.{cases_eq}
use Rattle.streets.specs.Streets.{Street, Leg, starts, stops, may_go, mark}
use Rattle.streets.specs.Counts.{sum_below}
use Rattle.streets.proofs.Sums.{sum_split, sum_ones, part_le, one_more}
use Rattle.streets.proofs.Degrees.{mark_once}
use Rattle.reach.specs.Reach.{First}
use Rattle.reach.specs.Searching.{Near, Closed, Search}

-- corner x is found by the leg l, at the level v, and put to the end of the queue
pub record Found (level level' : ℕ → ℕ) (first first' : ℕ → Leg) (queue queue' : ℕ → ℕ) (found x v : ℕ) (l : Leg) : Type 0 where
  pub new : level x ≡ 0
  pub level_here : level' x ≡ v
  pub level_else : (k : ℕ) → (x ≡ k → ⊥) → level' k ≡ level k
  pub first_here : first' x ≡ l
  pub first_else : (k : ℕ) → (x ≡ k → ⊥) → first' k ≡ first k
  pub queue_here : queue' found ≡ x
  pub queue_else : (i : ℕ) → (found ≡ i → ⊥) → queue' i ≡ queue i

module _ {ss : List Street} {n : ℕ} {level level' : ℕ → ℕ} {first first' : ℕ → Leg} {queue queue' : ℕ → ℕ} {done found x : ℕ} {l : Leg}
    (s : Search ss n level first queue done found) (open_yet : done < found) (there : x < n)
    (f : Found level level' first first' queue queue' found x (suc (level (queue done))) l) where
  -- what was found before is as it was
  pub still : (k : ℕ) → 0 < level k → level' k ≡ level k
  still k some = f.level_else k (λ e. omega (arith, ap level e, f.new))

  still_queued : (i : ℕ) → i < found → (queue' i ≡ queue i) × (level' (queue' i) ≡ level (queue i))
  still_queued i h =
      let e = f.queue_else i (λ e. omega arith) in
      (e, ap level' e ∙ still (queue i) (s.queued i h).1)

  last : level' (queue' found) ≡ suc (level (queue done))
  last = ap level' f.queue_here ∙ f.level_here

  pub still_near : (v w : ℕ) → 0 < level v → Near (level v) (level w) → Near (level' v) (level' w)
  still_near v w some near = let a = still v some in let b = still w near.0 in omega (arith, near.0, near.1)

  still_closed : (c : ℕ) → 0 < level c → Closed ss level c → Closed ss level' c
  still_closed c some closed k may here = still_near c (stops ss k) some (closed k may here)

  more : (k : ℕ) → min 1 (level' k) ≡ mark x k + min 1 (level k)
  more = one_more (λ k. min 1 (level k)) (λ k. min 1 (level' k)) x (omega (arith, f.new, f.level_here)) (λ k e. omega (arith, f.level_else k e))

  room_sum : sum_below (λ k. min 1 (level' k)) n ≡ 1 + sum_below (λ k. min 1 (level k)) n
  room_sum = omega (arith, sum_split (λ k. min 1 (level' k)) (mark x) (λ k. min 1 (level k)) n (λ k _. more k), mark_once x n there)

  at_last : (i : ℕ) → i < found + 1 → found ≤ i → (queue' i ≡ x) × (level' (queue' i) ≡ suc (level (queue done)))
  at_last i h past = let e : i ≡ found = omega arith in (ap queue' e ∙ f.queue_here, ap (λ (j : ℕ). level' (queue' j)) e ∙ last)

  module _ (may : may_go ss l ≡ true) (from : starts ss l ≡ queue done) (to : stops ss l ≡ x) where
    first_now : (k : ℕ) → k < n → 1 < level' k → First ss level' k (first' k)
    first_now k h some =
        elim (cases_eq x k) [
          | inl e ↦ rw (← e, f.first_here) (record { may = may; here = to; lower = ap suc (ap level' from ∙ still (queue done) (s.queued done open_yet).1) ∙ sym f.level_here })
          | inr e ↦
              let p = s.firsts k h (omega (arith, f.level_else k e)) in
              rw (f.first_else k e) (record { may = p.may; here = p.here; lower = omega (arith, f.level_else k e, still (starts ss (first k)) (omega (arith, p.lower)), p.lower) })
        ]

    rising_now : (i j : ℕ) → i ≤ j → j < found + 1 → level' (queue' i) ≤ level' (queue' j)
    rising_now i j le h = grind (arith, still_queued i, still_queued j, s.rising i j, s.near i, at_last i, at_last j)

    pub marked : Search ss n level' first' queue' done (found + 1)
    marked = record {
      asked = (omega arith, (still_queued 0 s.asked.0).1 ∙ s.asked.1);
      counted = omega (arith, room_sum);
      queued = λ i h. grind (arith, still_queued i, s.queued i, at_last i);
      placed = λ k h some.
          elim (cases_eq x k) [
            | inl e ↦ (found, omega arith, f.queue_here ∙ e)
            | inr e ↦ let p = s.placed k h (omega (arith, f.level_else k e)) in (p.0, omega (arith, p.1), (still_queued p.0 p.1).0 ∙ p.2)
          ];
      low = λ k h. grind (arith, f.level_else k, f.level_here, s.low k, s.low (queue done), s.queued done);
      lowest = λ k h one.
          elim (cases_eq x k) [
            | inl e ↦ absurd (omega (arith, ap level' e, f.level_here, (s.queued done open_yet).1))
            | inr e ↦ s.lowest k h (sym (f.level_else k e) ∙ one) ∙ sym (still_queued 0 s.asked.0).0
          ];
      firsts = first_now;
      rising = rising_now;
      near = λ j h _. grind (arith, still_queued j, still_queued done, s.near j, at_last j);
      closed = λ i h. let a : i < found = omega arith in rw (still_queued i a).0 (still_closed (queue i) (s.queued i a).1 (s.closed i h));
    }

-- the legs of the next corner in the queue have been followed
pub followed : {ss : List Street} {n : ℕ} {level : ℕ → ℕ} {first : ℕ → Leg} {queue : ℕ → ℕ} {done found : ℕ} → Search ss n level first queue done found → done < found → Closed ss level (queue done) → Search ss n level first queue (done + 1) found
followed {ss} {level = level} {queue = queue} {done = done} s h now = record {
  asked = s.asked;
  counted = s.counted;
  queued = s.queued;
  placed = s.placed;
  low = s.low;
  lowest = s.lowest;
  firsts = s.firsts;
  rising = s.rising;
  near = λ j a b. omega (arith, s.near j a h, s.rising done (done + 1) (omega arith) b);
  closed = below_more (λ i. Closed ss level (queue i)) done s.closed now;
}

module _ {ss : List Street} {n : ℕ} {level : ℕ → ℕ} {first : ℕ → Leg} {queue : ℕ → ℕ} {done found : ℕ} (s : Search ss n level first queue done found) where
  rest : ℕ → ℕ
  rest k = 1 - min 1 (level k)

  all_corners : found + sum_below rest n ≡ n
  unfolding rest
  all_corners = omega (arith, s.counted, sum_split (λ _. 1) (λ k. min 1 (level k)) rest n (λ k _. omega arith), sum_ones n)

  pub few_found : found ≤ n
  few_found = omega (arith, all_corners)

  -- where a corner is left to be found, the queue has room
  pub queue_room : (x : ℕ) → x < n → level x ≡ 0 → found < n
  unfolding rest
  queue_room x there none = omega (arith, all_corners, part_le rest n x there)
