-- The checkpoint of a thread of a report at a count of its instructions: what is written of it.
use Rattle.std.specs.Prelude.{◌≡◌, ◌≢◌, ◌⊎◌, ℕ, ◌<◌, ◌≤◌, List}
use Rattle.sm_types.specs.declared.config.Config.{Config}
use Rattle.sm_types.specs.declared.shared_op.Event.{Event}
use Rattle.sm_types.specs.declared.stop.Stop.{Stop}
use Rattle.paged_memory.specs.Image.{Program}
use Rattle.kernel_contexts.specs.State.{State}
use Rattle.kernel_contexts.specs.Run.{At, Ended, reach}
use Rattle.lone_runner.specs.Parting.{IsPartingBefore, state_at}
use Rattle.lone_runner.specs.declared.fault.AloneFault.{AloneFault}
use Rattle.lone_runner.specs.declared.fault.AloneFault.TheVariants.{EndsEarly}
use Rattle.ckpt_file.specs.Checkpoint.{checkpoint, ReadsCheckpoint}
use Rattle.command_lines.specs.CheckpointLines.{checkpoint_line}
use Rattle.command_lines.specs.declared.checkpoint_line.CheckpointFault.TheVariants.{Count}
use Rattle.report_compare.specs.DifferLines.{parting_line}
use Rattle.smemu.specs.Replay.{IsBlockIn}

-- after the fewest turns by which so many instructions are counted the thread goes on, in this state, and so
-- many events are used
pub record StandsAt (program : Program) (config : Config) (thread : ℕ) (journal : List Event) (count : ℕ)
    (state : State) (used : ℕ)
    : Type 0 where
  pub turns : ℕ
  pub left : List Event
  pub reached : reach program config thread journal turns ≡ At state used left
  pub counts : state.count ≡ count
  pub first : (earlier : ℕ)
      → earlier < turns → (state_at (reach program config thread journal earlier)).count ≢ count

-- after the fewest turns by which so many instructions are counted the thread is stopped so
pub record StopsAt (program : Program) (config : Config) (thread : ℕ) (journal : List Event) (count : ℕ)
    (stop : Stop)
    : Type 0 where
  pub turns : ℕ
  pub state : State
  pub used : ℕ
  pub left : List Event
  pub reached : reach program config thread journal turns ≡ Ended state stop used left
  pub counts : state.count ≡ count
  pub first : (earlier : ℕ)
      → earlier < turns → (state_at (reach program config thread journal earlier)).count ≢ count

-- the thread does not go on at the count: it parts before, or is stopped there, which is told as an early end
abbrev pub FallsShort : Program → Config → ℕ → List Event → ℕ → AloneFault → Type 0
FallsShort program config thread journal count fault =
    IsPartingBefore program config thread journal count fault
    ⊎ ((stop : Stop) × StopsAt program config thread journal count stop × (fault ≡ EndsEarly count stop))

-- the text is the checkpoint of a thread of a report at a count below that of its block; where the budget is
-- not used up there, the report reads the text back
pub record IsCheckpointOf (file report : List ℕ) (thread count : ℕ) (text : List ℕ) : Type 0 where
  pub at : IsBlockIn file report thread
  pub below : count < at.block.count
  pub state : State
  pub used : ℕ
  pub stands : StandsAt at.program at.config thread at.block.journal count state used
  pub is_text : text ≡ checkpoint at.said.image at.said.options state thread used
  pub read_back : count < at.config.budget → ReadsCheckpoint text at.said state thread used

-- the count is not below that of the block, and the text says so
pub record IsLate (file report : List ℕ) (thread count : ℕ) (text : List ℕ) : Type 0 where
  pub at : IsBlockIn file report thread
  pub late : at.block.count ≤ count
  pub is_text : text ≡ checkpoint_line (Count at.block.count)

-- the thread does not go on at the count, and the text says why
pub record IsShort (file report : List ℕ) (thread count : ℕ) (text : List ℕ) : Type 0 where
  pub at : IsBlockIn file report thread
  pub below : count < at.block.count
  pub fault : AloneFault
  pub short : FallsShort at.program at.config thread at.block.journal count fault
  pub is_text : text ≡ parting_line fault
