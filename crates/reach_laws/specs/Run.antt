-- What a thread's run from its start has by the types of what it starts from and of its journal.
use Rattle.std.specs.Prelude.{◌≡◌, ℕ, ◌<◌, ◌^◌, List, All, Some}
use Rattle.std.specs.FinMap.{get}
use Rattle.sm_types.specs.declared.config.Config.{Config}
use Rattle.sm_types.specs.declared.shared_op.Event.{Event}
use Rattle.paged_memory.specs.Memory.{AddressSpace}
use Rattle.paged_memory.specs.Image.{Program}

-- each address that has a byte has one below 256
abbrev pub HasBytes : AddressSpace → Type 0
HasBytes m = (address b : ℕ) → get m.mem address ≡ Some b → b < 256

-- answers of 64 bits
abbrev pub AreAnswers : List Event → Type 0
AreAnswers journal = All (λ (event : Event). event.answer < 2 ^ 64) journal

-- what a run starts from: bytes in the image's memory, and an entry, a thread's number and a number of
-- threads of 64 bits; and so are the answers of its journal
pub record IsTypedRun (program : Program) (config : Config) (thread : ℕ) (journal : List Event)
    : Type 0 where
  pub bytes : HasBytes program.memory
  pub entry : program.entry < 2 ^ 64
  pub number : thread < 2 ^ 64
  pub threads : config.threads < 2 ^ 64
  pub answers : AreAnswers journal
