-- What is told of the marked calls of the run of one guest thread alone, over a journal.
use Rattle.std.specs.Prelude.{◌≡◌, ℕ, suc, ◌<◌, ◌≤◌, List, []}
use Rattle.sm_types.specs.declared.config.Config.{Config}
use Rattle.sm_types.specs.declared.shared_op.Event.{Event}
use Rattle.sm_types.specs.declared.stop.Stop.{Stop}
use Rattle.paged_memory.specs.Image.{Program}
use Rattle.kernel_contexts.specs.State.{State}
use Rattle.kernel_contexts.specs.Run.{At, Ended, reach}
use Rattle.lone_runner.specs.Parting.{state_at}
use Rattle.abi_checker.specs.Numbers.{NumberOf}
use Rattle.abi_checker.specs.Faults.{HasFault, HasReturned, IsOpen, IsFirstFault, AreLawful}
use Rattle.abi_checker.specs.Whole.{AreWhole, ArePlainBefore}
use Rattle.abi_checker.specs.declared.abi.Abi.{Abi}
use Rattle.abi_checker.specs.declared.abi.Abi.TheVariants.{Yes, No}
use Rattle.abi_checker.specs.declared.abi.AbiKind.{AbiKind}

-- the states of the thread's run over the journal
abbrev pub states_of : Program → Config → ℕ → List Event → ℕ → State
states_of program config thread journal turns = state_at (reach program config thread journal turns)

-- no state up to state n has a fault, each return by then is from a lawful callee, the states of calls and
-- returns are whole, and of the marked calls so many have returned by it, and so many have not
pub record IsFaultless (run : ℕ → State) (n calls unreturned : ℕ) : Type 0 where
  pub none : (m : ℕ) (kind : AbiKind) → m ≤ n → ¬ HasFault run m kind
  pub lawful : AreLawful run n
  pub whole : AreWhole run n
  pub back : NumberOf (HasReturned run n) (suc n) calls
  pub out : NumberOf (IsOpen run n) (suc n) unreturned

-- the first fault up to state n is of this kind, where so many instructions are counted, at this PC
pub record IsFaulty (run : ℕ → State) (n count pc : ℕ) (kind : AbiKind) : Type 0 where
  pub at : ℕ
  pub within : at ≤ n
  pub first : IsFirstFault run at kind
  pub counts : count ≡ (run at).count
  pub place : pc ≡ (run at).core.scalars.pc

-- what is told of the states up to state n
abbrev pub IsTold : (ℕ → State) → ℕ → Abi → Type 0
IsTold run n (Yes calls unreturned) = IsFaultless run n calls unreturned
IsTold run n (No count pc kind) = IsFaulty run n count pc kind

-- the thread's run over the journal ends when so many instructions are counted, with exactly the journal's
-- events used, and this is what is told of its states, the last among them; those in which a signal is
-- delivered are plain
pub record IsChecked (program : Program) (config : Config) (thread : ℕ) (journal : List Event) (count : ℕ)
    (abi : Abi)
    : Type 0 where
  pub turns : ℕ
  pub state : State
  pub stop : Stop
  pub used : ℕ
  pub ends : reach program config thread journal turns ≡ Ended state stop used []
  pub counts : state.count ≡ count
  pub first : (earlier : ℕ) → earlier < turns → (s : State) × (done : ℕ) × (left : List Event)
      × (reach program config thread journal earlier ≡ At s done left)
  pub plain : ArePlainBefore (states_of program config thread journal) config turns
  pub told : IsTold (states_of program config thread journal) turns abi
