-- What the command writes for a request: the report of a run, the text of a plan, a listing, a program's
-- file, the block of a thread that is replayed or resumed, what a script's commands show of a thread, its
-- checkpoint, what is told of its marked calls, the answers to vectors, or a text of its own; and what else
-- may become of it.
use Rattle.std.specs.Prelude.{◌≡◌, ℕ, [], ◌∷◌, ◌++◌, List, Some, None, IfSome}
use Rattle.sha2.specs.Sha256.{sha256}
use Rattle.sm_types.specs.declared.config.Config.{Config}
use Rattle.sm_types.specs.declared.object.Object.{Object}
use Rattle.sm_types.specs.declared.shared_words.Words.{Words}
use Rattle.edge_io.specs.Files.{Told}
use Rattle.sm_types.specs.Options.{numbers_of}
use Rattle.sm_types.specs.declared.numbers.Numbers.{Numbers}
use Rattle.cmd_words.specs.Words.{Argument, ThreadSaid, WorkloadSaid, CountSaid, Request}
use Rattle.cmd_words.specs.declared.verb.Verb.{Verb}
use Rattle.cmd_words.specs.declared.verb.Verb.TheVariants.{Run, Sim, Dis, Asm, Replay, Debug, Ckpt, Resume}
use Rattle.cmd_words.specs.declared.verb.Verb.TheVariants.{AbiCheck, Vectors, Gen, Bench, Help, Version}
use Rattle.asm_core.specs.Assembly.{Assembles}
use Rattle.code_listing.specs.Listing.{listing_text}
use Rattle.paged_memory.specs.Image.{Program}
use Rattle.elf_loader.specs.Loading.{Loads}
use Rattle.elf_loader.specs.Objects.{IsFileOf}
use Rattle.report_text.specs.Report.{ThreadEnd, report_text}
use Rattle.command_lines.specs.Texts.{help_text, version_text}
use Rattle.command_lines.specs.declared.status.Status.{Status}
use Rattle.command_lines.specs.declared.status.Status.TheVariants.{Done, OutOfMemory, BadReport, Differs}
use Rattle.command_lines.specs.declared.status.Status.TheVariants.{BadCheckpoint, Unlawful}
use Rattle.smemu.specs.Rejections.{judge_of}
use Rattle.workload.specs.Source.{source_of}
use Rattle.smemu.specs.Bench.{IsBench}
use Rattle.smemu.specs.Checkpoints.{IsCheckpointOf, IsLate, IsShort}
use Rattle.smemu.specs.Checks.{IsLawfulOf, IsUnlawfulOf}
use Rattle.smemu.specs.Debug.{IsDebugOf, IsDebugFrontOf}
use Rattle.smemu.specs.Replay.{IsReplayOf, IsParted, MismatchesSo, DiffersSo}
use Rattle.smemu.specs.Requests.{Named, files_named}
use Rattle.smemu.specs.Resume.{IsResumeOf, IsOtherProgram, RestDiffers}
use Rattle.smemu.specs.Runs.{IsWholeRun}
use Rattle.smemu.specs.Vectors.{IsAnswersOf}
use Rattle.smemu.specs.Worlds.{IsSimulation}

-- the file of that name, as far as the files are told
abbrev pub IsFile : Told → List ℕ → List ℕ → Type 0
IsFile told name file = IfSome told (λ files. files name ≡ Some file)

-- the text is the report of the run of a file with these options: the program that it is loaded as, the end
-- of each guest thread, and the words that they share
pub record IsReportOf (file : List ℕ) (config : Config) (text : List ℕ) : Type 0 where
  pub program : Program
  pub loads : Loads file program
  pub ends : List ThreadEnd
  pub words : Words
  pub run : IsWholeRun program config ends words
  pub is_text : text ≡ report_text config (sha256 file) ends words

-- the text is the report of the run of a file with these options
pub record IsReport (file : List ℕ) (options : Numbers) (text : List ℕ) : Type 0 where
  pub config : Config
  pub given : numbers_of config ≡ options
  pub report : IsReportOf file config text

-- the text is the listing of the code words of the program that a file is loaded as
pub record IsListingOf (file text : List ℕ) : Type 0 where
  pub program : Program
  pub loads : Loads file program
  pub is_text : text ≡ listing_text program.code

-- the text is the file of the program that a source is assembled to: it is loaded as the image of the
-- source's object
pub record IsProgramOf (source text : List ℕ) : Type 0 where
  pub object : Object
  pub assembles : Assembles source object
  pub written : IsFileOf object text

-- ---- what may become of a request whose files are accepted

-- how operands, options and the files tell a text
abbrev pub Outcome : Type 1
Outcome = List Argument → Numbers → List (List ℕ) → List ℕ → Type 0

-- of one file
abbrev pub of_file : (List ℕ → Numbers → List ℕ → Type 0) → Outcome
of_file tells operands options (file ∷ []) text = tells file options text
of_file tells operands options files text = ⊥

-- of a program and a plan
abbrev pub of_plan : (List ℕ → List ℕ → Numbers → List ℕ → Type 0) → Outcome
of_plan tells operands options (file ∷ plan ∷ []) text = tells file plan options text
of_plan tells operands options files text = ⊥

-- of a program, a report of it, and a thread of that
abbrev pub of_thread : (List ℕ → List ℕ → ℕ → List ℕ → Type 0) → Outcome
of_thread tells (program ∷ report ∷ ThreadSaid thread ∷ []) options (file ∷ bytes ∷ []) text =
    tells file bytes thread text
of_thread tells operands options files text = ⊥

-- of a program, a report of it, a thread of that, and a count
abbrev pub of_count : (List ℕ → List ℕ → ℕ → ℕ → List ℕ → Type 0) → Outcome
of_count tells (program ∷ report ∷ ThreadSaid thread ∷ CountSaid count ∷ []) options (file ∷ bytes ∷ [])
    text = tells file bytes thread count text
of_count tells operands options files text = ⊥

-- of a program, a report of it, and a checkpoint of a thread of that
abbrev pub of_checkpoint : (List ℕ → List ℕ → List ℕ → List ℕ → Type 0) → Outcome
of_checkpoint tells operands options (file ∷ bytes ∷ checkpoint ∷ []) text = tells file bytes checkpoint text
of_checkpoint tells operands options files text = ⊥

-- of a program, a report of it, a thread of that, and a script
abbrev pub of_script : (List ℕ → List ℕ → ℕ → List ℕ → List ℕ → Type 0) → Outcome
of_script tells (program ∷ report ∷ ThreadSaid thread ∷ script ∷ []) options (file ∷ bytes ∷ lines ∷ [])
    text = tells file bytes thread lines text
of_script tells operands options files text = ⊥

-- of the number of a workload
abbrev pub of_workload : (ℕ → Numbers → List ℕ → Type 0) → Outcome
of_workload tells (WorkloadSaid number ∷ []) options [] text = tells number options text
of_workload tells operands options files text = ⊥

-- a text of the command's own
abbrev pub own_text : List ℕ → Outcome
own_text said operands options files text = text ≡ said

-- how the text that goes with a status is told, or that a command never ends so
pub data Telling : Type 1 where
  Tells : Outcome → Telling
  Never : Telling

-- the text that goes with a status, for each status with which a command may end
abbrev pub outcomes_of : Verb → Status → Telling
outcomes_of Run Done = Tells (of_file IsReport)
outcomes_of Sim Done = Tells (of_plan IsSimulation)
outcomes_of Dis Done = Tells (of_file (λ file options. IsListingOf file))
outcomes_of Asm Done = Tells (of_file (λ file options. IsProgramOf file))
outcomes_of Replay Done = Tells (of_thread IsReplayOf)
outcomes_of Replay BadReport = Tells (of_thread MismatchesSo)
outcomes_of Replay Differs = Tells (of_thread DiffersSo)
outcomes_of Debug Done = Tells (of_script IsDebugOf)
outcomes_of Debug OutOfMemory = Tells (of_script IsDebugFrontOf)
outcomes_of Debug BadReport =
    Tells (of_script (λ file report thread script. MismatchesSo file report thread))
outcomes_of Debug Differs = Tells (of_script (λ file report thread script. IsParted file report thread))
outcomes_of Ckpt Done = Tells (of_count IsCheckpointOf)
outcomes_of Ckpt BadReport = Tells (of_count (λ file report thread count. MismatchesSo file report thread))
outcomes_of Ckpt BadCheckpoint = Tells (of_count IsLate)
outcomes_of Ckpt Differs = Tells (of_count IsShort)
outcomes_of Resume Done = Tells (of_checkpoint IsResumeOf)
outcomes_of Resume BadReport = Tells (of_checkpoint IsOtherProgram)
outcomes_of Resume Differs = Tells (of_checkpoint RestDiffers)
outcomes_of AbiCheck Done = Tells (of_thread IsLawfulOf)
outcomes_of AbiCheck BadReport = Tells (of_thread MismatchesSo)
outcomes_of AbiCheck Differs = Tells (of_thread IsParted)
outcomes_of AbiCheck Unlawful = Tells (of_thread IsUnlawfulOf)
outcomes_of Vectors Done = Tells (of_file IsAnswersOf)
outcomes_of Gen Done = Tells (of_workload (λ number options text. text ≡ source_of number))
outcomes_of Bench Done = Tells (of_workload IsBench)
outcomes_of Help Done = Tells (own_text help_text)
outcomes_of Version Done = Tells (own_text version_text)
outcomes_of verb status = Never

-- a text goes with it
abbrev pub IsTold : Telling → Type 0
IsTold (Tells says) = Unit {0}
IsTold Never = ⊥

-- the text is the one that is told so
abbrev pub IsToldBy : Telling → Outcome
IsToldBy (Tells says) operands options files text = says operands options files text
IsToldBy Never operands options files text = ⊥

-- a command whose files are accepted may end with that status, where memory is not wanting
abbrev pub MayEnd : Verb → Status → Type 0
MayEnd verb OutOfMemory = ⊥
MayEnd verb status = IsTold (outcomes_of verb status)

-- what may become of a request whose files, in order, are these and are accepted: a status and a text
abbrev pub outcome : Request → List (List ℕ) → Status → List ℕ → Type 0
outcome request files status text =
    IsToldBy (outcomes_of request.verb status) request.operands request.options files text

-- the files that are named are these, as far as they are told, and each is accepted, after those before it
abbrev pub AreAccepted : Told → Request → List (List ℕ) → List Named → List (List ℕ) → Type 0
AreAccepted told request before [] [] = Unit {0}
AreAccepted told request before (named ∷ names) (file ∷ files) =
    IsFile told named.name file × (judge_of request before named.kind file ≡ None)
    × AreAccepted told request (before ++ file ∷ []) names files
AreAccepted told request before names files = ⊥

-- what became of a request whose files are accepted
pub record IsOutcome (told : Told) (request : Request) (status : Status) (text : List ℕ) : Type 0 where
  pub files : List (List ℕ)
  pub accepted : AreAccepted told request [] (files_named request) files
  pub ends : outcome request files status text
