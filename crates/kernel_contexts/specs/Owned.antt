-- Which pages a turn makes owned: those of the bytes that it writes to the thread's memory, and no others.
-- Source: copy on write, as System V's fork has it.
use Rattle.std.specs.Prelude.{◌≡◌, ℕ, List, [], Some, cond}
use Rattle.paged_memory.specs.PageTable.{PageTable, OwnsAlso, KeepsOwned}
use Rattle.mem_access.specs.declared.bank.Bank.{Bank}
use Rattle.machine_step.specs.ProcessorState.{vector_bytes}
use Rattle.machine_step.specs.Effect.{Effect, Becomes, effect_of}
use Rattle.machine_step.specs.Owned.{step_writes}
use Rattle.signal_frames.specs.Frame.{frame_addresses}
use Rattle.sm_types.specs.Options.{version_of}
use Rattle.kernel_contexts.specs.GuestThread.{held_state}
use Rattle.kernel_contexts.specs.Turn.{is_poll_due, is_delivery_due}
use Rattle.kernel_contexts.specs.declared.guest.GuestThread.{GuestThread}
use Rattle.kernel_contexts.specs.declared.context.Turn.{Turn}
use Rattle.kernel_contexts.specs.declared.context.Turn.TheVariants as turn

-- the addresses of the bytes that an instruction of this effect writes to the thread's memory: one that
-- raises, a call of the kernel and an operation on a shared word write none
abbrev pub effect_writes : List ℕ → Effect → List ℕ
effect_writes written (Becomes core) = written
effect_writes written other = []

-- those that the instruction at PC of a guest thread with a bank writes
abbrev pub instruction_writes : GuestThread → Bank → List ℕ
instruction_writes g bank =
    effect_writes (step_writes g.machine (Some bank))
    (effect_of (vector_bytes g.config.vl) (held_state g bank).core)

-- those of the frame of a signal
abbrev pub frame_writes : GuestThread → Bank → List ℕ
frame_writes g bank =
    frame_addresses (version_of g.config) (vector_bytes g.config.vl) (held_state g bank).core

-- those that the turn of a guest thread with a bank writes where the thread goes on: a poll writes none, the
-- delivery of a signal its frame
abbrev pub turn_writes : GuestThread → Bank → List ℕ
turn_writes g bank =
    cond (is_poll_due g.config (held_state g bank)) []
    (cond (is_delivery_due g.config (held_state g bank)) (frame_writes g bank) (instruction_writes g bank))

-- the page table after a turn that writes these bytes where the thread goes on: then exactly their pages are
-- owned besides; where memory is wanting, more pages may be owned; else it is as it was
abbrev pub TurnOwns : List ℕ → PageTable → PageTable → Turn → Type 0
TurnOwns written old new turn.Ran = OwnsAlso old new written
TurnOwns written old new turn.Memory = KeepsOwned old new
TurnOwns written old new other = new ≡ old
