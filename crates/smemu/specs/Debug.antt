-- The debugger over a thread of a report: what is written of it.
use Rattle.std.specs.Prelude.{◌≡◌, ◌⊎◌, ℕ, ◌++◌, List, [], ◌∷◌, Result, Ok, Err}
use Rattle.edge_io.specs.Sink.{SinkView, Writes}
use Rattle.edge_io.specs.declared.sink.PutFault.TheVariants.{Failed}
use Rattle.lone_runner.specs.Parting.{EndsAt}
use Rattle.script_reader.specs.Script.{script_in}
use Rattle.script_reader.specs.declared.command.DebugCommand.{DebugCommand}
use Rattle.sme_debugger.specs.Answers.{Answers}
use Rattle.sme_debugger.specs.Recording.{Recording}
use Rattle.sme_debugger.specs.declared.fault.DebugFault.{DebugFault}
use Rattle.sme_debugger.specs.declared.fault.DebugFault.TheVariants.{Put, Memory}
use Rattle.smemu.specs.Replay.{IsBlockIn}

-- from a place of a recorded run commands lead to another, each from where the one before it led to, and the
-- text is what they print
abbrev pub Leads : Recording → ℕ → List DebugCommand → ℕ → List ℕ → Type 0
Leads r from [] place text = (place ≡ from) × (text ≡ [])
Leads r from (command ∷ commands) place text =
    (next : ℕ) × (first : List ℕ) × (rest : List ℕ) × Answers r from command next first
    × Leads r next commands place rest × (text ≡ first ++ rest)

-- the text is what all commands print
abbrev pub AllAnswers : Recording → ℕ → List DebugCommand → List ℕ → Type 0
AllAnswers r from commands text = (place : ℕ) × Leads r from commands place text

-- the text is what the commands before one of them print
pub record FrontAnswers (r : Recording) (from : ℕ) (commands : List DebugCommand) (text : List ℕ)
    : Type 0 where
  pub made : List DebugCommand
  pub next : DebugCommand
  pub left : List DebugCommand
  pub are : commands ≡ made ++ next ∷ left
  pub place : ℕ
  pub leads : Leads r from made place text

-- the recorded run of a thread that a report has
abbrev pub recorded : {file report : List ℕ} {thread : ℕ} → IsBlockIn file report thread → Recording
recorded {thread = thread} at = record {
  program = at.program;
  config = at.config;
  thread = thread;
  journal = at.block.journal;
  last = at.block.count;
}

-- The thread of a report ends alone with exactly the journal and the count of its block, and this holds of
-- its recorded run, of count 0, of the commands of a script, and of a text.
pub record IsDebug (answers : Recording → ℕ → List DebugCommand → List ℕ → Type 0) (file report : List ℕ)
    (thread : ℕ) (script text : List ℕ)
    : Type 0 where
  pub at : IsBlockIn file report thread
  pub ends : EndsAt at.program at.config thread at.block.journal at.block.count
  pub commands : List DebugCommand
  pub said : script_in script ≡ Ok commands
  pub prints : answers (recorded at) 0 commands text

-- the text is what the commands of a script print over the thread, the first of them at count 0
abbrev pub IsDebugOf : List ℕ → List ℕ → ℕ → List ℕ → List ℕ → Type 0
IsDebugOf = IsDebug AllAnswers

-- the same of the commands before one of the script
abbrev pub IsDebugFrontOf : List ℕ → List ℕ → ℕ → List ℕ → List ℕ → Type 0
IsDebugFrontOf = IsDebug FrontAnswers

-- With this result commands were carried out, and their answers written: all of them; or a part from the
-- front of those of some, or of all; or those before one of them.
abbrev pub AnswersEach :
    Recording → ℕ → List DebugCommand → SinkView → SinkView → Result (Unit {0}) DebugFault → Type 0
AnswersEach r from commands before after (Ok nothing) =
    (text : List ℕ) × AllAnswers r from commands text × Writes before after (Ok tt) text
AnswersEach r from commands before after (Err Put) =
    (text : List ℕ) × (AllAnswers r from commands text ⊎ FrontAnswers r from commands text)
    × Writes before after (Err Failed) text
AnswersEach r from commands before after (Err Memory) =
    (text : List ℕ) × FrontAnswers r from commands text × Writes before after (Ok tt) text
