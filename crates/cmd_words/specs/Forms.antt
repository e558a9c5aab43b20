-- The forms of the commands: what stands after each of them. Source: this project's own command line.
use Rattle.std.specs.Prelude.{ℕ, ◌+◌, List, [], ◌∷◌, length}
use Rattle.cmd_words.specs.declared.form.Operand.{Operand}
use Rattle.cmd_words.specs.declared.form.Operand.TheVariants.{Name, Thread, Workload, Count}
use Rattle.cmd_words.specs.declared.setting.Setting.{Setting}
use Rattle.cmd_words.specs.declared.setting.Setting.TheVariants.{Vl, Svl, Slice, Budget, Threads, Cores}
use Rattle.cmd_words.specs.declared.verb.Verb.{Verb}
use Rattle.cmd_words.specs.declared.verb.Verb.TheVariants.{Run, Sim, Dis, Asm, Replay, Debug, Ckpt, Resume}
use Rattle.cmd_words.specs.declared.verb.Verb.TheVariants.{AbiCheck, Vectors, Gen, Bench, Help, Version}

-- what must stand after a command, in order, and the options that may follow then, each with its value as the
-- next word
pub record Form : Type 0 where
  pub operands : List Operand
  pub options : List Setting

-- the options of commands that run threads
abbrev pub run_options : List Setting
run_options = Vl ∷ Svl ∷ Slice ∷ Budget ∷ Threads ∷ Cores ∷ []

-- those of a command that runs single instructions
abbrev pub vector_options : List Setting
vector_options = Vl ∷ Svl ∷ Cores ∷ []

-- the form of each command
abbrev pub form_of : Verb → Form
form_of Run = record { operands = Name ∷ []; options = run_options }
form_of Sim = record { operands = Name ∷ Name ∷ []; options = run_options }
form_of Dis = record { operands = Name ∷ []; options = [] }
form_of Asm = record { operands = Name ∷ []; options = [] }
form_of Replay = record { operands = Name ∷ Name ∷ Thread ∷ []; options = [] }
form_of Debug = record { operands = Name ∷ Name ∷ Thread ∷ Name ∷ []; options = [] }
form_of Ckpt = record { operands = Name ∷ Name ∷ Thread ∷ Count ∷ []; options = [] }
form_of Resume = record { operands = Name ∷ Name ∷ Name ∷ []; options = [] }
form_of AbiCheck = record { operands = Name ∷ Name ∷ Thread ∷ []; options = [] }
form_of Vectors = record { operands = Name ∷ []; options = vector_options }
form_of Gen = record { operands = Workload ∷ []; options = [] }
form_of Bench = record { operands = Workload ∷ []; options = Cores ∷ [] }
form_of Help = record { operands = []; options = [] }
form_of Version = record { operands = []; options = [] }

-- the place of the first option, which stands after the command and its operands
abbrev pub options_from : Form → ℕ
options_from form = 1 + length form.operands
