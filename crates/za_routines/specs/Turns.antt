-- Turns of a thread in which nothing but its instructions is due, and what they come to where its next word
-- is that of a routine or a tail.
-- Source: the kernel is this emulator's own.
use Rattle.std.specs.Prelude.{◌≡◌, ℕ, ◌+◌, ◌%◌, ◌<◌, ◌≤◌, ◌==◌, Bool, true, false, List, Option, Some, IsSome}
use Rattle.scalar_exec.specs.Registers.{x_of}
use Rattle.sm_types.specs.declared.config.Config.{Config}
use Rattle.machine_step.specs.ProcessorState.{ProcessorState, vector_bytes}
use Rattle.kernel_contexts.specs.State.{State}
use Rattle.kernel_contexts.specs.Turn.{is_poll_due, is_delivery_due}
use Rattle.kernel_contexts.specs.declared.context.Turn.{Turn}
use Rattle.kernel_contexts.specs.declared.context.Turn.TheVariants.{Ran}
use Rattle.lazy_saving.specs.Instructions.{after_instructions}
use Rattle.lazy_saving.specs.Dormant.{Places, IsDormantAt}
use Rattle.lazy_saving.specs.Outcome.{IsDisabled, IsBack, IsPast, IsRestored, disable_length}
use Rattle.lazy_saving.specs.Outcome.{instructions_past}

-- the turn was made, and the thread goes on
abbrev pub has_run : Turn → Bool
has_run Ran = true
has_run other = false

-- no poll and no delivery is due within so many instructions, and the budget is not reached
pub record IsQuiet (config : Config) (s : State) (turns : ℕ) : Type 0 where
  pub poll : 0 < turns → is_poll_due config s ≡ false
  pub delivery : 0 < turns → is_delivery_due config s ≡ false
  pub later : (n : ℕ) → 0 < n → n < turns → ((s.count + n) % config.slice == 0) ≡ false
  pub budget : s.count + turns ≤ config.budget

-- what an instruction sees, after so many, where each is executed
abbrev pub core_after : Config → ℕ → State → Option ProcessorState
core_after config turns s = after_instructions (vector_bytes config.vl) turns s.core

-- so many instructions after s the thread is so: all but what an instruction sees, the counts and that the
-- pending signals were polled is as it was
pub record IsAfter (config : Config) (n : ℕ) (s t : State) : Type 0 where
  pub core : core_after config n s ≡ Some t.core
  pub rest : t ≡ record s { core = t.core; polled = t.polled; count = s.count + n; turns = s.turns + n }
  pub polled : 0 < n → t.polled ≡ false

-- fewer than so many instructions after s
pub record IsOnTheWay (config : Config) (all : ℕ) (s t : State) : Type 0 where
  pub turns : ℕ
  pub fewer : turns < all
  pub after : IsAfter config turns s t

-- a thread is at the first word of __arm_za_disable, with its ZA dormant, and nothing else is due before it
-- comes back
pub record CanDisableAt (places : Places) (config : Config) (s : State) : Type 0 where
  pub pc : s.core.scalars.pc ≡ places.disable
  pub dormant : IsDormantAt places s.core s.core.tpidr2
  pub quiet : IsQuiet config s (disable_length dormant.bytes)

-- wherever the other words stand
abbrev pub CanDisable : Config → State → Type 0
CanDisable config s = (places : Places) × CanDisableAt places config s

-- what it comes to, wherever the other words stand
abbrev pub Disables : Config → State → State → ℕ → Type 0
Disables config s t turns =
    (places : Places) (dormant : IsDormantAt places s.core s.core.tpidr2)
    → s.core.scalars.pc ≡ places.disable
    → (turns ≡ disable_length dormant.bytes) × IsDisabled s.core t.core dormant.bytes
    × IsAfter config turns s t

abbrev pub DisablesInPart : Config → State → State → Type 0
DisablesInPart config s t =
    (places : Places) (dormant : IsDormantAt places s.core s.core.tpidr2) → s.core.scalars.pc ≡ places.disable
    → IsOnTheWay config (disable_length dormant.bytes) s t

-- the half in which a callee left a thread, by PSTATE.ZA, TPIDR2_EL0 and X19, which has the address of the
-- block: ZA dormant, or saved and off
abbrev pub IsHalf : Bool → ℕ → ℕ → Type 0
IsHalf true pointer block = pointer ≡ block
IsHalf false pointer block = pointer ≡ 0

-- of a state
abbrev pub IsHalfOf : ProcessorState → Type 0
IsHalfOf r = IsHalf r.za_on r.tpidr2 (x_of r.scalars 19)

-- what becomes of ZA: it stays, or its slices come back from the buffer
abbrev pub IsArrayBack : Bool → ProcessorState → ProcessorState → List ℕ → Type 0
IsArrayBack true r t bytes = t.bank.za ≡ r.bank.za
IsArrayBack false r t bytes = IsRestored r t bytes

-- a thread is at the first word of the tail, as a lawful callee leaves it, and nothing else is due before it
-- is past the tail
pub record CanReturnAt (places : Places) (config : Config) (s : State) : Type 0 where
  pub bytes : List ℕ
  pub back : IsBack places s.core bytes
  pub half : IsHalfOf s.core
  pub quiet : IsQuiet config s (instructions_past s.core.za_on bytes)

-- wherever the other words stand
abbrev pub CanReturn : Config → State → Type 0
CanReturn config s = (places : Places) × CanReturnAt places config s

-- what the tail comes to, wherever the other words stand
abbrev pub Returns : Config → State → State → ℕ → Type 0
Returns config s t turns =
    (places : Places) (bytes : List ℕ) → IsBack places s.core bytes → IsHalfOf s.core
    → (turns ≡ instructions_past s.core.za_on bytes) × IsPast places s.core t.core
    × IsArrayBack s.core.za_on s.core t.core bytes × IsAfter config turns s t

abbrev pub ReturnsInPart : Config → State → State → Type 0
ReturnsInPart config s t =
    (places : Places) (bytes : List ℕ) → IsBack places s.core bytes → IsHalfOf s.core
    → IsOnTheWay config (instructions_past s.core.za_on bytes) s t

-- what is known of so many turns before a call: they are quiet and executed, and what they come to
pub record IsDisableKnown (config : Config) (s : State) (turns : ℕ) : Type 0 where
  pub quiet : IsQuiet config s turns
  pub executed : IsSome (core_after config turns s)
  pub done : (t : State) → IsAfter config turns s t → Disables config s t turns
  pub part : (t : State) → IsOnTheWay config turns s t → DisablesInPart config s t

pub record IsReturnKnown (config : Config) (s : State) (turns : ℕ) : Type 0 where
  pub quiet : IsQuiet config s turns
  pub executed : IsSome (core_after config turns s)
  pub done : (t : State) → IsAfter config turns s t → Returns config s t turns
  pub part : (t : State) → IsOnTheWay config turns s t → ReturnsInPart config s t
