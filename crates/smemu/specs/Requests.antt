-- The files that a request names, and how far they are read.
use Rattle.std.specs.Prelude.{◌≡◌, ℕ, List, [], ◌∷◌, ◌++◌, Option, Some, None, is_none, slice_get}
use Rattle.std.specs.Prelude.{if◌then◌else◌}
use Rattle.edge_io.specs.Files.{Told}
use Rattle.cmd_words.specs.Words.{Argument, NameSaid, ThreadSaid, WorkloadSaid, CountSaid, Request}
use Rattle.cmd_words.specs.Words.{command_of}
use Rattle.cmd_words.specs.declared.verb.Verb.{Verb}
use Rattle.cmd_words.specs.declared.verb.Verb.TheVariants.{Run, Sim, Dis, Asm, Replay, Debug, Ckpt, Resume}
use Rattle.cmd_words.specs.declared.verb.Verb.TheVariants.{AbiCheck, Vectors, Gen, Bench, Help, Version}
use Rattle.command_lines.specs.declared.status.Status.{Status}
use Rattle.command_lines.specs.declared.status.Status.TheVariants.{Done, Usage, Absent}
use Rattle.smemu.specs.Rejections.{Kind, ProgramFile, SourceFile, ReportFile, PlanFile, ScriptFile}
use Rattle.smemu.specs.Rejections.{CheckpointFile, VectorsFile}
use Rattle.smemu.specs.Rejections.{Judge, judge_of, rejection_status}
use Rattle.smemu.specs.declared.rejection.Rejection.{Rejection}

-- a file that is named
pub record Named : Type 0 where
  pub name : List ℕ
  pub kind : Kind

-- what the files of a command are to be, in the order of the words
abbrev pub kinds_of : Verb → List Kind
kinds_of Run = ProgramFile ∷ []
kinds_of Sim = ProgramFile ∷ PlanFile ∷ []
kinds_of Dis = ProgramFile ∷ []
kinds_of Asm = SourceFile ∷ []
kinds_of Replay = ProgramFile ∷ ReportFile ∷ []
kinds_of Debug = ProgramFile ∷ ReportFile ∷ ScriptFile ∷ []
kinds_of Ckpt = ProgramFile ∷ ReportFile ∷ []
kinds_of Resume = ProgramFile ∷ ReportFile ∷ CheckpointFile ∷ []
kinds_of AbiCheck = ProgramFile ∷ ReportFile ∷ []
kinds_of Vectors = VectorsFile ∷ []
kinds_of Gen = []
kinds_of Bench = []
kinds_of Help = []
kinds_of Version = []

-- the files of these kinds, by the names that operands say
abbrev pub named_by : List Argument → List Kind → List Named
named_by [] kinds = []
named_by (ThreadSaid thread ∷ operands) kinds = named_by operands kinds
named_by (WorkloadSaid number ∷ operands) kinds = named_by operands kinds
named_by (CountSaid count ∷ operands) kinds = named_by operands kinds
named_by (NameSaid name ∷ operands) [] = []
named_by (NameSaid name ∷ operands) (kind ∷ kinds) =
    record { name = name; kind = kind } ∷ named_by operands kinds

-- the files that a request names, in the order of the words
abbrev pub files_named : Request → List Named
files_named request = named_by request.operands (kinds_of request.verb)

-- ---- how far the files are read: a file is reached where each before it is there and accepted. Each is
-- judged with what was asked and the files before it

-- those after a file that is judged so, where it is there and accepted
abbrev pub after_file : Judge → Option (List ℕ) → (List ℕ → List Named) → List Named
after_file judge None rest = []
after_file judge (Some file) rest = if is_none (judge file) then rest file else []

-- the files that are reached, of those that are there, after these files, which are accepted
abbrev pub reached_in : Request → List (List ℕ) → (List ℕ → Option (List ℕ)) → List Named → List Named
reached_in request before files [] = []
reached_in request before files (named ∷ rest) =
    named ∷ after_file (judge_of request before named.kind) (files named.name)
    (λ file. reached_in request (before ++ file ∷ []) files rest)

-- the files that are reached, or may be, where it is not told which are there
abbrev pub reached_from : Told → Request → List (List ℕ) → List Named → List Named
reached_from None request before names = names
reached_from (Some files) request before names = reached_in request before files names

-- those of a request
abbrev pub reached_of : Told → Request → List Named
reached_of told request = reached_from told request [] (files_named request)

-- those of what words ask for
abbrev pub reached_asked : Told → Option Request → List Named
reached_asked told None = []
reached_asked told (Some request) = reached_of told request

-- a file is one of those that are reached
abbrev pub IsAmong : List Named → Named → Type 0
IsAmong reached named = (place : ℕ) × (slice_get reached place ≡ Some named)

-- ---- the status that is due

abbrev pub due_of_rejection : Option Rejection → Status → Status
due_of_rejection None rest = rest
due_of_rejection (Some rejection) rest = rejection_status rejection

abbrev pub due_of_file : Judge → Option (List ℕ) → (List ℕ → Status) → Status
due_of_file judge None rest = Absent
due_of_file judge (Some file) rest = due_of_rejection (judge file) (rest file)

-- for files in their order, after these, which are accepted: that of the first that is not there or not
-- accepted
abbrev pub due_of_files : Request → List (List ℕ) → (List ℕ → Option (List ℕ)) → List Named → Status
due_of_files request before files [] = Done
due_of_files request before files (named ∷ rest) =
    due_of_file (judge_of request before named.kind) (files named.name)
    (λ file. due_of_files request (before ++ file ∷ []) files rest)

abbrev pub due_of_request : (List ℕ → Option (List ℕ)) → Option Request → Status
due_of_request files None = Usage
due_of_request files (Some request) = due_of_files request [] files (files_named request)

-- the status that is due for words, where the files are those
abbrev pub due_status : (List ℕ → Option (List ℕ)) → List (List ℕ) → Status
due_status files words = due_of_request files (command_of words)
