-- A sequence of calls, each accepted or refused, and when its answers are right, over any state.
use Rattle.std.specs.Prelude.{◌≡◌, ℕ, Bool, true, false, if◌then◌else◌, List, [], ◌∷◌, ◌==◌}

-- a test of a call, and the number and place of the refusal where it is not met
pub record Check : Type 0 where
  pub number : ℕ
  pub place : ℕ
  pub met : Bool

abbrev pub asking : ℕ → ℕ → Bool → Check
asking k p b = record { number = k; place = p; met = b }

-- number and place of the first check that fails; 0 if none does
abbrev pub first_number : List Check → ℕ
first_number [] = 0
first_number (c ∷ cs) = if c.met then first_number cs else c.number

abbrev pub first_place : List Check → ℕ
first_place [] = 0
first_place (c ∷ cs) = if c.met then first_place cs else c.place

-- the checks of a call, in order; the state after it and its right answers, where all are met; the answer that refuses it
pub record Protocol (State Call Answer : Type 0) : Type 1 where
  pub checks : State → Call → List Check
  pub changed : State → Call → State
  pub may_say : State → Call → Answer → Type 0
  pub refused : ℕ → ℕ → Answer

-- a desk by its memory: at the start and after each call, and the answer to each call
pub record Desk (Limits Memory Call Answer : Type 0) : Type 0 where
  pub opened : Limits → Memory
  pub next : Memory → Call → Memory
  pub says : Memory → Call → Answer

module _ {State Call Answer : Type 0} (p : Protocol State Call Answer) where
  -- the number of the refusal; 0 if the call is accepted
  abbrev pub turned : State → Call → ℕ
  turned s c = first_number (p.checks s c)

  abbrev pub after : State → Call → State
  after s c = if turned s c == 0 then p.changed s c else s

  abbrev pub right_if : Bool → State → Call → Answer → Type 0
  right_if true s c a = p.may_say s c a
  right_if false s c a = a ≡ p.refused (turned s c) (first_place (p.checks s c))

  abbrev pub right : State → Call → Answer → Type 0
  right s c a = right_if (turned s c == 0) s c a

  -- the state after all calls
  unfoldable pub ran : State → List Call → State
  ran s [] = s
  ran s (c ∷ cs) = ran (after s c) cs

  -- every answer of d is right for the state at which it was given
  unfoldable pub all_right : {Limits Memory : Type 0} → Desk Limits Memory Call Answer → Memory → State → List Call → Type 0
  all_right d m s [] = Unit {0}
  all_right d m s (c ∷ cs) = right s c (d.says m c) × all_right d (d.next m c) (after s c) cs

-- the memory after all calls
unfoldable pub left_by : {Limits Memory Call Answer : Type 0} → Desk Limits Memory Call Answer → Memory → List Call → Memory
left_by d m [] = m
left_by d m (c ∷ cs) = left_by d (d.next m c) cs
