-- The machine and its bank that the code makes of a vector, and what its instruction comes to.
use Rattle.std.specs.Prelude.{◌≡◌, false}
use Rattle.sm_types.specs.declared.length.VecLen.{VecLen}
use Rattle.za_array.specs.Array.{zero_array}
use Rattle.mem_access.specs.Bank.{bank_state}
use Rattle.machine_step.specs.ProcessorState.{ProcessorState}
use Rattle.machine_step.specs.Effect.{Effect, Raises, Calls, Becomes}
use Rattle.machine_step.specs.Machine.{core_of}
use Rattle.machine_step.specs.Step.{AsksFor}
use Rattle.vector_runner.specs.declared.answer.Outcome.{Outcome}
use Rattle.vector_runner.specs.declared.answer.Outcome.TheVariants as outcome
use Rattle.vector_runner.specs.declared.state.State.{State}
use Rattle.vector_runner.specs.declared.vector.Modes.{Modes}

-- the state of a machine and its bank
abbrev pub core_in : State → ProcessorState
core_in s = core_of s.machine (bank_state s.bank)

-- they have these lengths and modes; ZA is zero where it is off
pub record IsFor (v s : VecLen) (modes : Modes) (state : State) : Type 0 where
  pub vl : state.bank.vectors.vl ≡ v
  pub svl : state.bank.vectors.svl ≡ s
  pub streaming : state.bank.vectors.streaming ≡ modes.streaming
  pub machine : state.machine.streaming ≡ modes.streaming
  pub za_on : state.machine.za_on ≡ modes.za_on
  pub off : modes.za_on ≡ false → state.bank.za ≡ zero_array s

-- what an instruction came to is its effect, and the state after it where it is executed
abbrev pub HasOutcome : Effect → ProcessorState → Outcome → Type 0
HasOutcome effect new outcome.Next = effect ≡ Becomes new
HasOutcome effect new (outcome.Call number) = effect ≡ Calls number
HasOutcome effect new (outcome.Raise exception) = effect ≡ Raises exception
HasOutcome effect new outcome.Shared = AsksFor effect (λ op. Unit {0})
