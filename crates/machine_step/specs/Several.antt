-- Some instructions, one after the other.
use Rattle.std.specs.Prelude.{◌≡◌, ◌≤◌, ◌<◌, ◌&&◌, Bool, true, false, ℕ, zero, suc}
use Rattle.std.specs.Prelude.{Option, Some, None, MatchOption}
use Rattle.paged_memory.specs.Memory.{AddressSpace, word_at}
use Rattle.paged_memory.specs.PageTable.{KeepsOwned}
use Rattle.mem_access.specs.Bank.{bank_state}
use Rattle.mem_access.specs.declared.bank.Bank.{Bank}
use Rattle.machine_step.specs.ProcessorState.{ProcessorState, vector_bytes}
use Rattle.machine_step.specs.Effect.{Becomes, effect_of}
use Rattle.machine_step.specs.Needs.{needs_bank}
use Rattle.machine_step.specs.Machine.{core_of, IsInMode, IsSameBank}
use Rattle.machine_step.specs.declared.machine.Machine.{Machine}
use Rattle.machine_step.specs.declared.several.Made.{Made}

-- whether a run that is told to halt before these words at these addresses does before the instruction at PC
abbrev pub halts_at : (ℕ → ℕ → Bool) → ℕ → Option ℕ → Bool
halts_at halts pc None = false
halts_at halts pc (Some word) = halts pc word

abbrev pub halts_in : (ℕ → ℕ → Bool) → AddressSpace → ℕ → Bool
halts_in halts m pc = halts_at halts pc (word_at m pc)

-- each of so many instructions is executed, with this vector length in bytes, and they take the one state to
-- the other; of a machine that is kept off the bank none needs one; and it was told to halt before none
abbrev pub AreExecuted : (ℕ → ℕ → Bool) → Bool → ℕ → ℕ → ProcessorState → ProcessorState → Type 0
AreExecuted halts apart vl zero old new = new ≡ old
AreExecuted halts apart vl (suc n) old new =
    (before : ProcessorState)
    × AreExecuted halts apart vl n old before
    × (effect_of vl before ≡ Becomes new)
    × ((apart && needs_bank before) ≡ false)
    × (halts_in halts before.memory before.scalars.pc ≡ false)

-- it halts before the instruction at PC, of which this is the word
abbrev pub HaltsAt : (ℕ → ℕ → Bool) → AddressSpace → ℕ → ℕ → Type 0
HaltsAt halts m pc word = (word_at m pc ≡ Some word) × (halts pc word ≡ true)

-- that is so if a word is given; if none is and fewer were made than might be, it is none to halt before;
-- after as many as might be, no word need be given
abbrev pub HaltsBy : (ℕ → ℕ → Bool) → AddressSpace → ℕ → ℕ → Made → Type 0
HaltsBy halts m pc most made =
    MatchOption made.halt (made.count < most → halts_in halts m pc ≡ false) (λ word. HaltsAt halts m pc word)

-- so many instructions, at most so many, take a machine and its bank from the one to the other; where it was
-- told to halt before the next one, `HaltsBy` says; owned pages stay owned
pub record MakesSteps (halts : ℕ → ℕ → Bool) (apart : Bool) (most : ℕ) (old : Machine) (before : Bank)
    (new : Machine) (after : Bank) (made : Made) : Type 0 where
  pub executed : AreExecuted halts apart (vector_bytes before.vectors.vl) made.count
      (core_of old (bank_state before))
      (core_of new (bank_state after))
  pub few : made.count ≤ most
  pub halted : HaltsBy halts new.pages.memory new.scalars.pc most made
  pub owned : KeepsOwned old.pages new.pages
  pub same : IsSameBank before after
  pub mode : IsInMode after new
