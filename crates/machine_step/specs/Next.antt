-- The instruction at PC, where it is kept.
use Rattle.std.specs.Prelude.{◌≡◌, ℕ, ◌%◌, ◌<◌, Bool, false, Some, List, length, get_or}
use Rattle.sm_types.specs.declared.scalars.Scalars.{Scalars}
use Rattle.paged_memory.specs.Memory.{AddressSpace, word_at}
use Rattle.machine_step.specs.declared.decoder.Decoded.{Decoded}
use Rattle.machine_step.specs.declared.page_run.Next.{Next}
use Rattle.machine_step.specs.declared.page_run.Next.TheVariants as next
use Rattle.machine_step.specs.Several.{HaltsAt, halts_in}

-- the instruction at PC is that of the place, and it is none to halt before
pub record IsNext (halts : ℕ → ℕ → Bool) (m : AddressSpace) (places : List Decoded) (place : ℕ) (s : Scalars)
    : Type 0 where
  pub there : place < length places
  pub aligned : s.pc % 4 ≡ 0
  pub fetched : (d : Decoded) → word_at m s.pc ≡ Some (get_or places place d).word
  pub unhalted : halts_in halts m s.pc ≡ false

-- it is of that word
pub record IsWord (halts : ℕ → ℕ → Bool) (m : AddressSpace) (word : ℕ) (s : Scalars) : Type 0 where
  pub aligned : s.pc % 4 ≡ 0
  pub fetched : word_at m s.pc ≡ Some word
  pub unhalted : halts_in halts m s.pc ≡ false

-- what is known of the instruction at PC
abbrev pub Follows : (ℕ → ℕ → Bool) → AddressSpace → List Decoded → Scalars → Next → Type 0
Follows halts m places s next.Unknown = Unit
Follows halts m places s (next.Kept place) = IsNext halts m places place s
Follows halts m places s (next.Word word) = IsWord halts m word s
Follows halts m places s (next.Halts word) = HaltsAt halts m s.pc word
