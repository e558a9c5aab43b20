-- Instructions of a page of code that is held, with the stores that change no page that is not owned.
use Rattle.std.specs.Prelude.{◌≡◌, ℕ, ◌≤◌, ◌&&◌, Bool, true, false, List, Option, Some, None}
use Rattle.paged_memory.specs.PageTable.{KeepsOwned, KeepsShared}
use Rattle.scalar_exec.specs.Apart.{at_distance}
use Rattle.mem_access.specs.Bank.{bank_state}
use Rattle.mem_access.specs.declared.bank.Bank.{Bank}
use Rattle.machine_step.specs.ProcessorState.{VectorState, vector_bytes}
use Rattle.machine_step.specs.Effect.{effect_of}
use Rattle.machine_step.specs.Needs.{needs_bank}
use Rattle.machine_step.specs.Machine.{core_of, StepsOn, IsInMode, IsSameBank, KeepsMode}
use Rattle.machine_step.specs.Next.{Follows}
use Rattle.machine_step.specs.Several.{AreExecuted}
use Rattle.machine_step.specs.declared.decoder.Decoded.{Decoded}
use Rattle.machine_step.specs.declared.executed.Executed.TheVariants.{Next as IsNext}
use Rattle.machine_step.specs.declared.machine.Machine.{Machine}
use Rattle.machine_step.specs.declared.page_run.Next.{Next}

-- a machine with PC at a distance from an address
abbrev pub machine_at : ℕ → ℕ → Machine → Machine
machine_at base at m = record m { scalars = at_distance base at m.scalars }

-- the instruction at PC is executed, and needs no bank where the machine is kept off it
pub record IsMoved (apart : Bool) (old : Machine) (before : Bank) (new : Machine) (after : Bank)
    : Type 0 where
  pub effect : StepsOn effect_of old before new after IsNext
  pub kept : (apart && needs_bank (core_of old (bank_state before))) ≡ false

-- an answer, with PC at a distance from an address: the instruction there is, and so far is the next one; or
-- nothing has changed, and PC is there
abbrev pub MovesTo : Bool → ℕ → ℕ → Machine → Bank → Option ℕ → Machine → Bank → Type 0
MovesTo apart base at old before (Some next) new after =
    IsMoved apart (machine_at base at old) before (machine_at base next new) after
MovesTo apart base at old before None new after = (new ≡ machine_at base at old) × (after ≡ before)

-- the instruction at PC, a store, is executed whatever the bank is, which it does not need
pub record IsStored (old new : Machine) : Type 0 where
  pub effect : (bank : Bank) → StepsOn effect_of old bank new bank IsNext
  pub kept : (apart : Bool) (bank : VectorState) → (apart && needs_bank (core_of old bank)) ≡ false
  pub shared : KeepsShared old.pages new.pages
  pub mode : KeepsMode old new

-- an answer: it is, or nothing has changed
abbrev pub Stores : Machine → Machine → Bool → Type 0
Stores old new true = IsStored old new
Stores old new false = new ≡ old

-- the same with PC at a distance from an address; where it is not made PC alone may be another
abbrev pub StoresTo : ℕ → ℕ → Machine → Option ℕ → Machine → Type 0
StoresTo base at old (Some next) new = IsStored (machine_at base at old) (machine_at base next new)
StoresTo base at old None new = machine_at base at new ≡ machine_at base at old

-- so many instructions are executed, and what is known of the next one
pub record RunsOn (halts : ℕ → ℕ → Bool) (apart : Bool) (most : ℕ) (places : List Decoded) (old : Machine)
    (before : Bank) (new : Machine) (after : Bank) (made : ℕ × Next) : Type 0 where
  pub executed : AreExecuted halts apart (vector_bytes before.vectors.vl) made.0
      (core_of old (bank_state before)) (core_of new (bank_state after))
  pub few : made.0 ≤ most
  pub next : Follows halts new.pages.memory places new.scalars made.1
  pub owned : KeepsOwned old.pages new.pages
  pub same : IsSameBank before after
  pub mode : IsInMode after new
