-- How a call of the command ends: which text is written with which status, and why.
use Rattle.std.specs.Prelude.{◌≡◌, ◌≤◌, ◌++◌, ℕ, ◌∷◌, [], IsTrue, List, Option, Some, None, IfSome, IsSome}
use Rattle.std.specs.Prelude.{Result, Ok, Err, codes, length, map, ◌⊎◌}
use Rattle.std.specs.List.{concat}
use Rattle.std.specs.String.{string_bytes}
use Rattle.std.specs.declared.string.String.{String}
use Rattle.edge_io.specs.Cause.{Rose}
use Rattle.edge_io.specs.Files.{Told, FilesView}
use Rattle.edge_io.specs.Sink.{SinkView, Writes}
use Rattle.edge_io.specs.declared.sink.PutFault.{PutFault}
use Rattle.edge_io.specs.declared.sink.PutFault.TheVariants.{Failed}
use Rattle.cmd_words.specs.Words.{Fault, Request, usage_fault, command_of}
use Rattle.command_lines.specs.Texts.{usage_line}
use Rattle.command_lines.specs.declared.status.Status.{Status}
use Rattle.command_lines.specs.declared.status.Status.TheVariants.{Done, Usage, Absent, ReadFault, WriteFault}
use Rattle.command_lines.specs.declared.status.Status.TheVariants.{OutOfMemory}
use Rattle.smemu.specs.Answers.{AreAccepted, IsFile, IsOutcome, MayEnd}
use Rattle.smemu.specs.Rejections.{judge_of, limit_of, rejection_status, rejection_line}
use Rattle.smemu.specs.Requests.{Named, due_status, files_named, reached_asked, reached_of, IsAmong}
use Rattle.smemu.specs.declared.rejection.Rejection.{Rejection}

-- something before a call and after it
pub record Change (A : Type 0) : Type 0 where
  pub before : A
  pub after : A

-- a call of the command: its words, and what is known of the files and of the sink before it and after it
pub record Call : Type 0 where
  pub words : List (List ℕ)
  pub files : Change FilesView
  pub out : Change SinkView

abbrev pub change : {A V : Type 0} → (A → V) → A → A → Change V
change view before after = record { before = view before; after = view after }

abbrev pub call : {F K Z : Type 0} → (F → FilesView) → (K → SinkView) → List (String Z) → F → F → K → K → Call
call files_view sink_view words files files_after out out_after =
    record {
      words = map string_bytes words;
      files = change files_view files files_after;
      out = change sink_view out out_after;
    }

-- ---- what stands for a request, with its cause

-- the line of a file that is not there
abbrev pub absent_line : List ℕ → List ℕ
absent_line name = concat (codes "absent: " ∷ name ∷ codes "\n" ∷ [])

-- the line of a file that could not be read
abbrev pub read_fault_line : List ℕ → List ℕ
read_fault_line name = concat (codes "read fault: " ∷ name ∷ codes "\n" ∷ [])

-- a file that is reached is not there, and the count of absences rose
pub record IsAbsence (files : Change FilesView) (request : Request) (text : List ℕ) : Type 0 where
  pub named : Named
  pub reached : IsAmong (reached_of files.before.told request) named
  pub missing : IfSome files.before.told (λ told. told named.name ≡ None)
  pub rose : Rose files.before.absences files.after.absences
  pub is_text : text ≡ absent_line named.name

-- a file that is reached is there, it could not be read, and the count of faults rose
pub record IsReadFault (files : Change FilesView) (request : Request) (text : List ℕ) : Type 0 where
  pub named : Named
  pub reached : IsAmong (reached_of files.before.told request) named
  pub there : IfSome files.before.told (λ told. IsSome (told named.name))
  pub rose : Rose files.before.faults files.after.faults
  pub unreliable : IsTrue files.before.reliable → ⊥
  pub is_text : text ≡ read_fault_line named.name

-- a file that a request names, before which these are, which are accepted, is not accepted, and the status and
-- the text are those of the rejection
pub record IsRejection (told : Told) (request : Request) (status : Status) (text : List ℕ) : Type 0 where
  pub names : List Named
  pub named : Named
  pub rest : List Named
  pub are : files_named request ≡ names ++ named ∷ rest
  pub before : List (List ℕ)
  pub accepted : AreAccepted told request [] names before
  pub file : List ℕ
  pub rejection : Rejection
  pub is_file : IsFile told named.name file
  pub rejects : judge_of request before named.kind file ≡ Some rejection
  pub is_status : status ≡ rejection_status rejection
  pub is_text : text ≡ rejection_line rejection

-- the text that goes with a status, where the request stands
abbrev pub Stands : Request → Change FilesView → Status → List ℕ → Type 0
Stands request files Usage text = ⊥
Stands request files WriteFault text = ⊥
Stands request files Absent text = IsAbsence files request text
Stands request files ReadFault text = IsReadFault files request text
Stands request files Done text = IsOutcome files.before.told request Done text
Stands request files OutOfMemory text = IsOutcome files.before.told request OutOfMemory text
Stands request files status text =
    IsRejection files.before.told request status text
    ⊎ IsOutcome files.before.told request status text

-- ---- what stands for words

-- the text is the line of the first fault of the words
pub record IsUsage (words : List (List ℕ)) (text : List ℕ) : Type 0 where
  pub fault : Fault
  pub is_fault : usage_fault words ≡ Some fault
  pub is_text : text ≡ usage_line fault

-- the text that goes with a status, for what the words ask for
pub record IsAsked (words : List (List ℕ)) (files : Change FilesView) (status : Status) (text : List ℕ) :
    Type 0 where
  pub request : Request
  pub asked : command_of words ≡ Some request
  pub stands : Stands request files status text

-- the text that goes with a status, and its cause
abbrev pub Defined : List (List ℕ) → Change FilesView → Status → List ℕ → Type 0
Defined words files Usage text = IsUsage words text
Defined words files status text = IsAsked words files status text

-- ---- the clauses

-- the text that goes with that status was written, with that result
pub record Wrote (c : Call) (status : Status) (result : Result Unit PutFault) : Type 0 where
  pub text : List ℕ
  pub defined : Defined c.words c.files status text
  pub writes : Writes c.out.before c.out.after result text

-- Done: what the words ask for was written
abbrev pub IsDone : Call → Status → Type 0
IsDone c Done = Wrote c Done (Ok tt)
IsDone c other = Unit {0}

-- Every other status: its line was written, for its cause; with WriteFault a part of some status's text.
-- With OutOfMemory nothing was written, or what the command has written by then, where it may end so.
abbrev pub IsRefused : Call → Status → Type 0
IsRefused c Done = Unit {0}
IsRefused c WriteFault = (status : Status) × Wrote c status (Err Failed)
IsRefused c OutOfMemory = Writes c.out.before c.out.after (Ok tt) [] ⊎ Wrote c OutOfMemory (Ok tt)
IsRefused c other = Wrote c other (Ok tt)

-- a status is due: that of the files, or where they are accepted each with which the command may end
abbrev pub IsDueOf : Option Request → Status → Status → Type 0
IsDueOf (Some request) Done status = MayEnd request.verb status
IsDueOf request due status = status ≡ due

abbrev pub IsDue : (List ℕ → Option (List ℕ)) → List (List ℕ) → Status → Type 0
IsDue files words status = IsDueOf (command_of words) (due_status files words) status

-- what may be answered in place of the status that is due: want of memory, a fault of the sink, and a fault
-- of reading a file that is reached and is there
abbrev pub MayCome : (List ℕ → Option (List ℕ)) → List (List ℕ) → Status → Type 0
MayCome files words OutOfMemory = Unit {0}
MayCome files words WriteFault = Unit {0}
MayCome files words ReadFault =
    (named : Named) × IsAmong (reached_asked (Some files) (command_of words)) named
    × IsSome (files named.name)
MayCome files words other = ⊥

-- where the files are told, the status that is due is answered, or one that may come in its place
abbrev pub IsComplete : Call → Status → Type 0
IsComplete c result =
    (files : List ℕ → Option (List ℕ)) → c.files.before.told ≡ Some files
    → IsDue files c.words result ⊎ MayCome files c.words result

-- ---- what is fetched

-- these files were fetched, each once and with its limit, in their order, and nothing else was
abbrev pub AreFetched : {F : Type 0} → (F → List ℕ → ℕ → F → Type 0) → List Named → F → F → Type 0
AreFetched fetched [] old new = new ≡ old
AreFetched {F} fetched (named ∷ rest) old new =
    (now : F) × fetched old named.name (limit_of named.kind) now × AreFetched fetched rest now new

-- The files that are reached were fetched; where memory was wanting, or one of them could not be read,
-- perhaps only some of them, from the first on. Of files that tell nothing the first that is named was fetched, but where
-- memory was wanting, and with Done all of them were.
pub record FetchesReached {F : Type 0} (fetched : F → List ℕ → ℕ → F → Type 0) (told : Told) (unread : Type 0)
    (reached : List Named) (old new : F) (status : Status) : Type 0 where
  pub front : List Named
  pub rest : List Named
  pub part : reached ≡ front ++ rest
  pub all : (status ≡ OutOfMemory → ⊥) → IfSome told (λ files. (rest ≡ []) ⊎ unread)
  pub first : (status ≡ OutOfMemory → ⊥) → front ≡ [] → rest ≡ []
  pub done : status ≡ Done → rest ≡ []
  pub each : AreFetched fetched front old new

-- the files that are reached for the words were fetched, and nothing else was
abbrev pub Fetches :
    {F Z : Type 0} → (F → List ℕ → ℕ → F → Type 0) → (F → FilesView) → List (String Z) → F → F → Status
    → Type 0
Fetches fetched view words old new status =
    FetchesReached fetched (view old).told (Rose (view old).faults (view new).faults)
    (reached_asked (view old).told (command_of (map string_bytes words))) old new status

-- ---- where nothing fails

-- there is room for each text that may be due
abbrev pub HasRoom : Call → Type 0
HasRoom c =
    (status : Status) (text : List ℕ) → Defined c.words c.files status text → length text ≤ c.out.before.room

-- where the files are told, no fetch fails, and there is room for the text: what is due is answered, or
-- memory was wanting
abbrev pub LacksMemoryAlone : Call → Status → Type 0
LacksMemoryAlone c result =
    IsTrue c.files.before.reliable → HasRoom c
    → IfSome c.files.before.told (λ files. IsDue files c.words result ⊎ (result ≡ OutOfMemory))
