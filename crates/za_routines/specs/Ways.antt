-- How a thread comes from one of its own instructions to the next: by polls of the pending signals, and by
-- runs of handlers over an area of memory.
-- Source: the kernel is this emulator's own.
use Rattle.std.specs.Prelude.{◌≡◌, ◌≢◌, ℕ, suc, Bool, true, false, List, [], ◌∷◌}
use Rattle.sm_types.specs.declared.config.Config.{Config}
use Rattle.sm_types.specs.declared.shared_op.Event.{Event}
use Rattle.kernel_contexts.specs.State.{State}
use Rattle.kernel_contexts.specs.Turn.{is_poll_due, is_delivery_due}
use Rattle.kernel_contexts.specs.Run.{At, reach_from}
use Rattle.kernel_contexts.specs.HandlerRun.{IsNext, IsPlain, HandlerRun}

-- where a thread is: its state, the number of events so far, and the events that are left
pub record Place : Type 0 where
  pub state : State
  pub used : ℕ
  pub left : List Event

-- one turn, in which the thread goes on
abbrev pub IsTurn : Config → ℕ → Place → Place → Type 0
IsTurn config thread p q = reach_from config thread p.state p.used p.left 1 ≡ At q.state q.used q.left

-- a poll of the pending signals is due, and is made
pub record IsPollTurn (config : Config) (thread : ℕ) (p q : Place) : Type 0 where
  pub within : p.state.count ≢ config.budget
  pub due : is_poll_due config p.state ≡ true
  pub turn : IsTurn config thread p q

-- neither a poll nor a delivery is due, and the thread executes an instruction of its own
pub record IsOwnTurn (config : Config) (thread : ℕ) (p q : Place) : Type 0 where
  pub next : IsNext config p.state
  pub undue : is_delivery_due config p.state ≡ false
  pub turn : IsTurn config thread p q

-- a handler runs over the area, and others in it
abbrev pub IsHandling : Config → ℕ → (ℕ → Bool) → Place → Place → Type 0
IsHandling config thread area p q = HandlerRun config thread area p.state p.used p.left q.state q.used q.left

-- what may come next
pub data Step : Type 0 where
  Polls : Step
  Handles : Step
  Executes : Step

abbrev pub IsStep : Config → ℕ → (ℕ → Bool) → Step → Place → Place → Type 0
IsStep config thread area Polls p q = IsPollTurn config thread p q
IsStep config thread area Handles p q = IsHandling config thread area p q
IsStep config thread area Executes p q = IsOwnTurn config thread p q

-- some of these, one after another
abbrev pub AreSteps : Config → ℕ → (ℕ → Bool) → List Step → Place → Place → Type 0
AreSteps config thread area [] p q = q ≡ p
AreSteps config thread area (step ∷ steps) p q =
    (between : Place) × IsStep config thread area step p between × AreSteps config thread area steps between q

-- how many instructions of the thread's own are among them
abbrev pub own_instructions : List Step → ℕ
own_instructions [] = 0
own_instructions (Polls ∷ steps) = own_instructions steps
own_instructions (Handles ∷ steps) = own_instructions steps
own_instructions (Executes ∷ steps) = suc (own_instructions steps)

-- some turns lead from a place to another
abbrev pub IsLater : Config → ℕ → Place → Place → Type 0
IsLater config thread p q =
    (turns : ℕ) × (reach_from config thread p.state p.used p.left turns ≡ At q.state q.used q.left)

-- between two places each delivery is due in a plain state
abbrev pub ArePlainBetween : Config → ℕ → Place → Place → Type 0
ArePlainBetween config thread from to =
    (p : Place) → IsLater config thread from p → IsLater config thread p to
    → is_delivery_due config p.state ≡ true → IsPlain config p.state
