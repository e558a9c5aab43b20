-- What a command and a fault of the code stand for.
use Rattle.std.specs.Prelude.{◌≡◌, ℕ, ◌<◌, ◌≤◌, List, [], ◌∷◌, Some}
use Rattle.std.specs.String.{string_bytes}
use Rattle.sm_types.specs.Options.{numbers_of}
use Rattle.sm_types.specs.declared.numbers.Numbers.{Numbers}
use Rattle.cmd_words.specs.Options.{default_options, with_number}
use Rattle.cmd_words.specs.Words.{Argument, NameSaid, ThreadSaid, WorkloadSaid, CountSaid, Request}
use Rattle.cmd_words.specs.Words.{usage_fault}
use Rattle.cmd_words.specs.declared.command.Command.{Command}
use Rattle.cmd_words.specs.declared.command.Command.TheVariants as command
use Rattle.cmd_words.specs.declared.command.WordsFault.{WordsFault}
use Rattle.cmd_words.specs.declared.command.WordsFault.TheVariants as fault
use Rattle.cmd_words.specs.declared.verb.Verb.{Verb}
use Rattle.cmd_words.specs.declared.verb.Verb.TheVariants.{Run, Sim, Dis, Asm, Replay, Debug, Ckpt, Resume}
use Rattle.cmd_words.specs.declared.verb.Verb.TheVariants.{AbiCheck, Vectors, Gen, Bench, Help, Version}
use Rattle.cmd_words.specs.declared.setting.Setting.TheVariants.{Cores}

abbrev pub asking : Verb → List Argument → Numbers → Request
asking verb operands options = record { verb = verb; operands = operands; options = options }

-- what a command asks for
abbrev pub request_of : Command → Request
request_of (command.Run program config) =
    asking Run (NameSaid (string_bytes program) ∷ []) (numbers_of config)
request_of (command.Sim program plan config) =
    asking Sim (NameSaid (string_bytes program) ∷ NameSaid (string_bytes plan) ∷ []) (numbers_of config)
request_of (command.Dis program) = asking Dis (NameSaid (string_bytes program) ∷ []) default_options
request_of (command.Asm source) = asking Asm (NameSaid (string_bytes source) ∷ []) default_options
request_of (command.Replay program report thread) =
    asking Replay
    (NameSaid (string_bytes program) ∷ NameSaid (string_bytes report) ∷ ThreadSaid thread ∷ [])
    default_options
request_of (command.Debug program report thread script) =
    asking Debug
    (NameSaid (string_bytes program) ∷ NameSaid (string_bytes report) ∷ ThreadSaid thread
    ∷ NameSaid (string_bytes script) ∷ [])
    default_options
request_of (command.Ckpt program report thread count) =
    asking Ckpt
    (NameSaid (string_bytes program) ∷ NameSaid (string_bytes report) ∷ ThreadSaid thread ∷ CountSaid count
    ∷ [])
    default_options
request_of (command.Resume program report checkpoint) =
    asking Resume
    (NameSaid (string_bytes program) ∷ NameSaid (string_bytes report) ∷ NameSaid (string_bytes checkpoint)
    ∷ [])
    default_options
request_of (command.AbiCheck program report thread) =
    asking AbiCheck
    (NameSaid (string_bytes program) ∷ NameSaid (string_bytes report) ∷ ThreadSaid thread ∷ [])
    default_options
request_of (command.Vectors file config) =
    asking Vectors (NameSaid (string_bytes file) ∷ []) (numbers_of config)
request_of (command.Gen number) = asking Gen (WorkloadSaid number ∷ []) default_options
request_of (command.Bench number cores) =
    asking Bench (WorkloadSaid number ∷ []) (with_number default_options Cores cores)
request_of command.Help = asking Help [] default_options
request_of command.Version = asking Version [] default_options

-- the numbers of a command that are in no config are those that its words may give
abbrev pub IsInRange : Command → Type 0
IsInRange (command.Run program config) = Unit {0}
IsInRange (command.Sim program plan config) = Unit {0}
IsInRange (command.Dis program) = Unit {0}
IsInRange (command.Asm source) = Unit {0}
IsInRange (command.Replay program report thread) = thread < 32
IsInRange (command.Debug program report thread script) = thread < 32
IsInRange (command.Ckpt program report thread count) = thread < 32
IsInRange (command.Resume program report checkpoint) = Unit {0}
IsInRange (command.AbiCheck program report thread) = thread < 32
IsInRange (command.Vectors file config) = Unit {0}
IsInRange (command.Gen number) = (1 ≤ number) × (number ≤ 20000)
IsInRange (command.Bench number cores) = (1 ≤ number) × (number ≤ 20000) × (1 ≤ cores) × (cores ≤ 64)
IsInRange command.Help = Unit {0}
IsInRange command.Version = Unit {0}

-- the fault is the first of the words; `Memory` says nothing of them
abbrev pub IsFirstFault : List (List ℕ) → WordsFault → Type 0
IsFirstFault words (fault.Usage place kind) = usage_fault words ≡ Some (record { place = place; kind = kind })
IsFirstFault words fault.Memory = Unit {0}
