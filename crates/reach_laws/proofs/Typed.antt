-- States whose numbers and lists have the ranges and the lengths of their types.
use Rattle.std.specs.Prelude.{◌≡◌, ℕ, ◌<◌, ◌^◌, Bool, false, if◌then◌else◌, Some}
use Rattle.std.specs.FinMap.{get}
use Rattle.sm_types.specs.declared.config.Config.{Config}
use Rattle.sm_types.specs.declared.version.Version.TheVariants.{One}
use Rattle.sm_types.specs.Options.{version_of}
use Rattle.za_array.specs.Array.{zero_vectors}
use Rattle.machine_step.specs.ProcessorState.{ProcessorState, vector_bytes}
use Rattle.machine_step.specs.Effect.{Effect, Raises, Calls, Becomes, Asks}
use Rattle.kernel_contexts.specs.State.{State}
use Rattle.kernel_contexts.specs.Call.{TurnEnd, Goes, Yields, Ends}
use Rattle.kernel_contexts.specs.Call as call
use Rattle.kernel_contexts.specs.Run.{Reached, At, Ended, Strays}
use Rattle.reach_laws.specs.Run.{AreAnswers, HasBytes}
use Rattle.reach_laws.proofs.Fits.{Fits, Holds, IsArray}

-- the length of vectors in a mode, of VL and SVL in bytes
abbrev pub current_length : ℕ → ℕ → Bool → ℕ
current_length vl svl streaming = if streaming then svl else vl

-- what an instruction sees of a thread, with its bytes
pub record IsTyped (vl svl : ℕ) (s : ProcessorState) : Type 0 where
  pub scalars : Fits s.scalars
  pub tpidr : s.tpidr < 2 ^ 64
  pub tpidr2 : s.tpidr2 < 2 ^ 64
  pub registers : Holds (current_length vl svl s.streaming) s.bank.registers
  pub za : IsArray svl s.bank.za
  pub off : s.za_on ≡ false → s.bank.za ≡ zero_vectors svl
  pub memory : HasBytes s.memory

-- each state that an effect leads to is such a one, where an answer has 64 bits
abbrev pub LeadsToTyped : ℕ → ℕ → Effect → Type 0
LeadsToTyped vl svl (Raises exception) = Unit {0}
LeadsToTyped vl svl (Calls number) = Unit {0}
LeadsToTyped vl svl (Becomes s) = IsTyped vl svl s
LeadsToTyped vl svl (Asks op next) = (answer : ℕ) → answer < 2 ^ 64 → IsTyped vl svl (next answer)

-- ---- threads

-- a state of a thread with the ranges of its types
pub record IsTypedState (config : Config) (s : State) : Type 0 where
  pub core : IsTyped (vector_bytes config.vl) (vector_bytes config.svl) s.core
  pub handlers : (signal address : ℕ) → get s.handlers signal ≡ Some address → address < 2 ^ 64
  pub mask : s.mask < 2 ^ 64
  pub unmasked : version_of config ≡ One → s.mask ≡ 0

-- each state that a turn leads to is such a one, where an answer has 64 bits
abbrev pub TurnsToTyped : Config → TurnEnd → Type 0
TurnsToTyped config (Goes s) = IsTypedState config s
TurnsToTyped config (Yields s) = IsTypedState config s
TurnsToTyped config (call.Asks op next) = (answer : ℕ) → answer < 2 ^ 64 → IsTypedState config (next answer)
TurnsToTyped config (Ends s stop) = Unit {0}

-- a thread that goes on is in such a state, and so are the answers to come
abbrev pub ReachesTyped : Config → Reached → Type 0
ReachesTyped config (At s used left) = IsTypedState config s × AreAnswers left
ReachesTyped config (Ended s stop used left) = Unit {0}
ReachesTyped config (Strays s used left) = Unit {0}
