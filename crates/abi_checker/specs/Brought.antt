-- A marked call that returned in a run of which it is told that no marked call is at fault.
use Rattle.std.specs.Prelude.{◌≡◌, ℕ, ◌≤◌, List, Some}
use Rattle.sm_types.specs.declared.config.Config.{Config}
use Rattle.sm_types.specs.declared.shared_op.Event.{Event}
use Rattle.paged_memory.specs.Image.{Program}
use Rattle.paged_memory.specs.Memory.{bytes_with}
use Rattle.kernel_contexts.specs.State.{State}
use Rattle.kernel_contexts.specs.Run.{At, reach}
use Rattle.lazy_saving.specs.Dormant.{Places}
use Rattle.za_routines.specs.Ways.{Place}
use Rattle.abi_checker.specs.Faults.{IsReturn, block_of}
use Rattle.abi_checker.specs.Checked.{IsChecked, states_of}
use Rattle.abi_checker.specs.declared.abi.Abi.TheVariants.{Yes}

-- that is told of the thread's run over the journal, to its end at that count; s is the state after the call, r
-- that of its return, both of that run, and the block has these bytes in s
pub record IsReturned (program : Program) (config : Config) (thread : ℕ) (journal : List Event) (count : ℕ)
    (p : Places) (s r : State) (bytes : List ℕ)
    : Type 0 where
  pub calls : ℕ
  pub unreturned : ℕ
  pub yes : IsChecked program config thread journal count (Yes calls unreturned)
  pub call : ℕ
  pub at : ℕ
  pub within : at ≤ yes.turns
  pub return : IsReturn (states_of program config thread journal) p call at
  pub before : states_of program config thread journal call ≡ s
  pub after : states_of program config thread journal at ≡ r
  pub block : bytes_with 4 s.core.memory (block_of s) 16 ≡ Some bytes

-- the same, where the run goes on from the return's state: this is the thread's place in the run then
pub record IsReturnedAt (program : Program) (config : Config) (thread : ℕ) (journal : List Event) (count : ℕ)
    (p : Places) (s : State) (from : Place) (bytes : List ℕ)
    : Type 0 where
  pub returned : IsReturned program config thread journal count p s from.state bytes
  pub place : reach program config thread journal returned.at ≡ At from.state from.used from.left
