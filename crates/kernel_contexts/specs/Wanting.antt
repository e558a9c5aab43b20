-- For which turns memory may be wanting, beside that for the journal's list.
use Rattle.std.specs.Prelude.{◌≡◌, ◌≢◌, ◌⊎◌, true, false, Some, None, slice_index}
use Rattle.sm_types.specs.declared.config.Config.{Config}
use Rattle.paged_memory.specs.Memory.{bytes_with}
use Rattle.paged_memory.specs.PageTable.{PageTable}
use Rattle.mem_access.specs.declared.bank.Bank.{Bank}
use Rattle.machine_step.specs.ProcessorState.{vector_bytes}
use Rattle.machine_step.specs.Effect.{Effect, Raises, Calls, Becomes, Asks, effect_of}
use Rattle.machine_step.specs.Machine.{HasRoomToStep}
use Rattle.signal_frames.specs.Frame.{HasFrameRoom}
use Rattle.sm_types.specs.Options.{version_of}
use Rattle.kernel_contexts.specs.KernelCall.{write_number, post_number}
use Rattle.kernel_contexts.specs.State.{State}
use Rattle.kernel_contexts.specs.GuestThread.{held_state}
use Rattle.kernel_contexts.specs.Turn.{is_poll_due, is_delivery_due}
use Rattle.kernel_contexts.specs.declared.guest.GuestThread.{GuestThread}

-- the call write of the kernel, which adds X2 bytes from X1 on to the output: there are some, and they can be
-- read
pub record WriteWants (s : State) : Type 0 where
  pub number : slice_index s.core.scalars.x 8 ≡ write_number
  pub some : slice_index s.core.scalars.x 2 ≢ 0
  pub readable : bytes_with 4 s.core.memory (slice_index s.core.scalars.x 1)
      (slice_index s.core.scalars.x 2)
      ≢ None

-- that call, or the call post, which makes a signal pending through a port that takes memory where this holds
abbrev pub CallWants : Type 0 → State → Type 0
CallWants takes s = WriteWants s ⊎ ((slice_index s.core.scalars.x 8 ≡ post_number) × takes)

-- a frame for whose bytes a page is not owned
abbrev pub FrameWants : Config → State → PageTable → Type 0
FrameWants config s pages = ¬ HasFrameRoom (version_of config) (vector_bytes config.vl) s.core pages

-- an instruction of this effect: it writes a page that is not owned, asks an operation, or is such a call
abbrev pub EffectWants : Type 0 → Type 0 → Type 0 → Effect → Type 0
EffectWants takes has_room calls (Raises exception) = ⊥
EffectWants takes has_room calls (Calls number) = calls
EffectWants takes has_room calls (Becomes core) = ¬ has_room
EffectWants takes has_room calls (Asks op next) = takes

-- the instruction at PC of a guest thread with a bank
abbrev pub InstructionWants : Type 0 → GuestThread → Bank → Type 0
InstructionWants takes g bank =
    EffectWants takes (HasRoomToStep g.machine (Some bank)) (CallWants takes (held_state g bank))
    (effect_of (vector_bytes g.config.vl) (held_state g bank).core)

-- the turn of a guest thread with a bank, before the end of its budget: a poll, the delivery of a signal, or
-- an instruction; for a poll and an instruction memory may be wanting besides where the list of the journal
-- has no free place
pub data TurnWants (free takes : Type 0) (g : GuestThread) (bank : Bank) : Type 0 where
  Polls : g.count ≢ g.config.budget → is_poll_due g.config (held_state g bank) ≡ true → (free → takes)
      → TurnWants free takes g bank
  Delivers : g.count ≢ g.config.budget → is_delivery_due g.config (held_state g bank) ≡ true
      → FrameWants g.config (held_state g bank) g.machine.pages → TurnWants free takes g bank
  Executes : g.count ≢ g.config.budget → is_poll_due g.config (held_state g bank) ≡ false
      → is_delivery_due g.config (held_state g bank) ≡ false → (free → InstructionWants takes g bank)
      → TurnWants free takes g bank
