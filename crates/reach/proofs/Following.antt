-- The legs of a corner, followed one after the other.
use Rattle.std.proofs.Common.{◌≡◌, ℕ, suc, ◌+◌, ◌<◌, ◌≤◌, true, List, length, set, sym, ap, ◌∙◌, subst, arith}
use Rattle.std.proofs.lemmas.List.{get_or-set_same, get_or-set_other, get_or_default}
use borrow.Author.Count.{below_more}
use Rattle.streets.specs.Streets.{Street, street, Leg, leg_code, coded, leaving, starts, stops, may_go, ends}
use Rattle.streets.proofs.Legs.{leg_there, leg_may, leg_again, starts_end, leaving_starts, leaving_stops}
use Rattle.town.specs.Corners.{streets_at}
use Rattle.town.proofs.Ends.{listed_ends, ends_listed}
use Rattle.reach.specs.Reach.{entry}
use Rattle.reach.specs.Searching.{HasRoom, Near, Closed, Searching}
use Rattle.reach.proofs.Marking.{Found, marked, still, still_near, followed, queue_room}
use Rattle.reach.proofs.Levels.{Inside, leg_inside}

-- where the leg along the i-th street of a corner stops was found
abbrev pub NearStop : List Street → ℕ → List ℕ → ℕ → Type 0
NearStop ss c levels i = Near (entry levels c) (entry levels (stops ss (leaving ss c (entry (streets_at ss c) i))))

-- of the streets at the corner `here`, the first j have been followed
pub record Following (ss : List Street) (n here level asked : ℕ) (levels legs queue : List ℕ) (done found j : ℕ) : Type 0 where
  pub search : Searching ss n levels legs queue done found
  pub next : done < found
  pub at_here : entry queue done ≡ here
  pub above : suc (entry levels here) ≡ level
  pub began : entry queue 0 ≡ asked
  pub passed : (i : ℕ) → i < j → NearStop ss here levels i

-- a street in the list of a corner is there, and the leg along it comes to a corner
pub street_there : (ss : List Street) (c j : ℕ) → j < length (streets_at ss c) → entry (streets_at ss c) j < length ss
street_there ss c j h = (listed_ends ss c j h).0

pub stop_there : (n : ℕ) (ss : List Street) (c j : ℕ) → Inside n ss → j < length (streets_at ss c) → stops ss (leaving ss c (entry (streets_at ss c) j)) < n
stop_there n ss c j inside h = (leg_inside ss n inside _ (leg_may ss _ (street_there ss c j h))).1

-- the next street in the list of the corner: the leg l along it comes to x
module _ {ss : List Street} {n here level asked : ℕ} {levels legs queue : List ℕ} {done found j : ℕ} (f : Following ss n here level asked levels legs queue done found j)
    (inside : Inside n ss) {list : List ℕ} (all : list ≡ streets_at ss here) (h : j < length list) {l : Leg} {x : ℕ} (leaves : l ≡ leaving ss here (entry list j)) (to : x ≡ stops ss (leaving ss here (entry list j))) where
  ends_here : (entry list j < length ss) × (0 < ends (street ss (entry list j)) here)
  ends_here = rw all (listed_ends ss here j (omega (arith, ap length all)))

  here_found : (here < n) × (0 < entry levels here)
  here_found = rw f.at_here at (f.search.queued done f.next)

  goes_on : (may_go ss l ≡ true) × (starts ss l ≡ here) × (stops ss l ≡ x)
  goes_on = rw leaves (leg_may ss _ ends_here.0, leaving_starts ss here (entry list j) ends_here.1, sym to)

  there : x < n
  there = rw (to, all) (stop_there n ss here j inside (omega (arith, ap length all)))

  -- of the legs followed so far and this one, if it comes to a corner that has a level
  passing : (levels' : List ℕ) → ((i : ℕ) → i < j → NearStop ss here levels' i) → Near (entry levels' here) (entry levels' x) → (i : ℕ) → i < j + 1 → NearStop ss here levels' i
  passing levels' before now = below_more (NearStop ss here levels') j before (rw (to, all) at now)

  -- it was found before
  pub pass_by : 0 < entry levels x → Following ss n here level asked levels legs queue done found (j + 1)
  pass_by some =
      let p = f.search.placed x there some in
      let near = f.search.near p.0 p.1 f.next in
      let now : Near (entry levels here) (entry levels x) = (some, omega (arith, near, ap (entry levels) p.2, ap (entry levels) f.at_here)) in
      record { search = f.search; next = f.next; at_here = f.at_here; above = f.above; began = f.began; passed = passing levels f.passed now }

  -- it is found now
  module _ (none : entry levels x ≡ 0) where
    pub place_there : found < n
    place_there = queue_room f.search x there none

    module _ (room : HasRoom n levels legs queue) {levels' legs' queue' : List ℕ} (level_is : levels' ≡ set levels x level) (leg_is : legs' ≡ set legs x (leg_code l)) (queue_is : queue' ≡ set queue found x) where
      new : Found (entry levels) (entry levels') (λ k. coded (entry legs k)) (λ k. coded (entry legs' k)) (entry queue) (entry queue') found x (suc (entry levels (entry queue done))) l
      new =
          let t = there in
          let p = place_there in
          record {
            new = none;
            level_here = rw (level_is, f.at_here, f.above) (get_or-set_same levels x level 0 (omega (arith, room.long_levels)));
            level_else = λ k e. rw level_is (get_or-set_other levels x k level 0 (λ q. e (sym q)));
            first_here = rw (leg_is, get_or-set_same legs x (leg_code l) 0 (omega (arith, room.long_legs))) (leg_again l);
            first_else = λ k e. rw (leg_is, get_or-set_other legs x k (leg_code l) 0 (λ q. e (sym q)));
            queue_here = rw queue_is (get_or-set_same queue found x 0 (omega (arith, room.long_queue)));
            queue_else = λ k e. rw queue_is (get_or-set_other queue found k x 0 (λ q. e (sym q)));
          }

      near_still : (a b : ℕ) → 0 < entry levels a → Near (entry levels a) (entry levels b) → Near (entry levels' a) (entry levels' b)
      near_still = still_near f.search f.next there new

      pub pass_new : Following ss n here level asked levels' legs' queue' done (found + 1) (j + 1)
      pass_new =
          let before = still f.search f.next there new here here_found.1 in
          let now : Near (entry levels' here) (entry levels' x) = omega (arith, before, new.level_here, ap (entry levels) f.at_here) in
          let kept : (i : ℕ) → i < found → entry queue' i ≡ entry queue i = λ i a. new.queue_else i (λ e. omega arith) in
          record {
            search = marked f.search f.next there new goes_on.0 (goes_on.1 ∙ sym f.at_here) goes_on.2;
            next = omega (arith, f.next);
            at_here = kept done f.next ∙ f.at_here;
            above = ap suc before ∙ f.above;
            began = kept 0 f.search.asked.0 ∙ f.began;
            passed = passing levels' (λ i a. near_still here _ here_found.1 (f.passed i a)) now;
          }

-- all of them
pub all_followed : {ss : List Street} {n here level asked : ℕ} {levels legs queue : List ℕ} {done found j : ℕ} → Following ss n here level asked levels legs queue done found j → length (streets_at ss here) ≤ j → Searching ss n levels legs queue (done + 1) found
all_followed {ss} {here = here} {levels = levels} {queue = queue} {done = done} f over = followed f.search f.next closed
  where
    closed : Closed ss (entry levels) (entry queue done)
    closed l may from =
        let at : starts ss l ≡ here = from ∙ f.at_here in
        let k = ends_listed ss here l.along (leg_there ss l may) (rw at at (starts_end ss l)) in
        let stop : stops ss (leaving ss here (entry (streets_at ss here) k.0)) ≡ stops ss l = ap (λ (i : ℕ). stops ss (leaving ss here i)) (get_or_default _ k.0 0 l.along k.1 ∙ k.2) ∙ leaving_stops ss l here at in
        rw f.at_here (subst (λ (i : ℕ). Near (entry levels here) (entry levels i)) stop (f.passed k.0 (omega (arith, k.1))))
