-- The debugger over a thread of a report, from what its parts say.
use Rattle.std.proofs.Common.{◌≡◌, ◌⊎◌, inl, inr, ℕ, ◌+◌, ◌<◌, ◌++◌, List, [], ◌∷◌, length, take, drop, get_or, refl, sym, ◌∙◌, ap}
use Rattle.std.proofs.Common.{subst, append_assoc}
use Rattle.std.proofs.Common.{append-nil, arith, None, Result, Ok, Err}
use Rattle.std.proofs.lemmas.List.{take-append-drop, take_more}
use Rattle.sha2.specs.Sha256.{sha256}
use Rattle.cmd_words.specs.Command.{asking}
use Rattle.cmd_words.specs.Options.{default_options}
use Rattle.cmd_words.specs.Words.{NameSaid, ThreadSaid}
use Rattle.cmd_words.specs.declared.verb.Verb.TheVariants.{Debug}
use Rattle.edge_io.proofs.Writing.{writes_then}
use Rattle.edge_io.specs.Sink.{SinkView, Writes}
use Rattle.edge_io.specs.declared.sink.PutFault.TheVariants.{Failed}
use Rattle.elf_loader.specs.Loading.{Loads}
use Rattle.paged_memory.specs.Image.{Program}
use Rattle.report_reader.specs.Report.{Report, report_in}
use Rattle.report_reader.specs.Told.{block_said, report_said}
use Rattle.report_reader.specs.declared.parts.Report as parts
use Rattle.report_reader.specs.declared.parts.ReportBlock.{ReportBlock}
use Rattle.script_reader.specs.declared.command.DebugCommand.{DebugCommand}
use Rattle.sme_debugger.specs.Answers.{Answers, IsPartWritten, IsWritten}
use Rattle.sme_debugger.specs.Recording.{Recording}
use Rattle.sme_debugger.specs.Session.{recording_of, place_of}
use Rattle.sme_debugger.specs.declared.fault.DebugFault.{DebugFault}
use Rattle.sme_debugger.specs.declared.fault.DebugFault.TheVariants.{Put, Memory}
use Rattle.smemu.specs.Debug.{AllAnswers, AnswersEach, FrontAnswers, IsDebug, Leads, recorded}
use Rattle.smemu.specs.Replay.{mismatch, IsBlockIn}
use Rattle.smemu.specs.Views.{EndsAccepted, EndsDebug, EndsWith, IsDebugging, IsPartedRefusal, IsUnmatched}
use Rattle.smemu.specs.declared.answer.Answer.{Answer}
use Rattle.smemu.specs.declared.answer.Answer.TheVariants as answer
use Rattle.smemu.specs.declared.debug.Debugging.{Debugging}
use Rattle.command_lines.specs.declared.status.Status.{Status}
use Rattle.command_lines.specs.declared.status.Status.TheVariants.{Done, OutOfMemory}
use Rattle.smemu.specs.declared.ending.Difference.TheVariants as difference
use Rattle.smemu.specs.declared.ending.Ending.TheVariants as ending
use Rattle.smemu.specs.declared.refusal.Refusal.{Refusal}
use Rattle.smemu.specs.declared.refusal.Refusal.TheVariants as refusal
use Rattle.smemu.proofs.Replays.{said_at, thread_there}

-- ---- what commands print

-- one more command
leads_more : (r : Recording) (from : ℕ) (made : List DebugCommand) (place : ℕ) (text : List ℕ) (next : DebugCommand) (after : ℕ)
    (said : List ℕ) → Leads r from made place text → Answers r place next after said
    → Leads r from (made ++ next ∷ []) after (text ++ said)
leads_more r from [] place text next after said h a = (
  after,
  said,
  [],
  subst (λ (p : ℕ). Answers r p next after said) h.0 a,
  (refl, refl),
  ap (λ (t : List ℕ). t ++ said) h.1 ∙ sym (append-nil said),
)
leads_more r from (command ∷ made) place text next after said h a = (
  h.0,
  h.1,
  h.2 ++ said,
  h.3,
  leads_more r h.0 made place h.2 next after said h.4 a,
  ap (λ (t : List ℕ). t ++ said) h.5 ∙ append_assoc h.1 h.2 said,
)

-- the commands are those before one, that one, and the others
front_at : (xs : List DebugCommand) (i : ℕ) (d : DebugCommand) → i < length xs → xs ≡ take i xs ++ get_or xs i d ∷ drop (i + 1) xs
front_at xs i d l =
    sym (take-append-drop (i + 1) xs) ∙ ap (λ (t : List DebugCommand). t ++ drop (i + 1) xs) (take_more xs i d l)
    ∙ append_assoc (take i xs) (get_or xs i d ∷ []) (drop (i + 1) xs)

-- the answers of commands were written, and led to a place
pub record HaveAnswered (r : Recording) (from : ℕ) (made : List DebugCommand) (place : ℕ) (before now : SinkView) : Type 0 where
  pub text : List ℕ
  pub leads : Leads r from made place text
  pub writes : Writes before now (Ok tt) text

module _ (r same : Recording) (from : ℕ) (commands : List DebugCommand) (i : ℕ) (d : DebugCommand) (place : ℕ)
    (before now after : SinkView) (l : i < length commands) (h : HaveAnswered r from (take i commands) place before now)
    (is : same ≡ r) where
  abbrev next : DebugCommand
  next = get_or commands i d

  there : (to : ℕ) (text : List ℕ) → Answers same place next to text → Answers r place next to text
  there to text a = subst (λ (q : Recording). Answers q place next to text) is a

  -- and that of one more
  pub answered_more : (to : ℕ) → IsWritten (Answers same place next) to now after (Ok tt)
      → HaveAnswered r from (take (i + 1) commands) to before after
  answered_more to w = record {
    text = h.text ++ w.text;
    leads =
        subst (λ (cs : List DebugCommand). Leads r from cs to (h.text ++ w.text)) (sym (take_more commands i d l))
        (leads_more r from (take i commands) place h.text next to w.text h.leads (there to w.text w.answer));
    writes = writes_then before now after (Ok tt) h.text w.text h.writes w.written;
  }

  -- which of them are so
  which : (left : List DebugCommand) (to : ℕ) (text : List ℕ) → commands ≡ take i commands ++ next ∷ left
      → Leads r from (take i commands ++ next ∷ []) to text → AllAnswers r from commands text ⊎ FrontAnswers r from commands text
  which [] to text are leads = inl (to, subst (λ (cs : List DebugCommand). Leads r from cs to text) (sym are) leads)
  which (command ∷ left) to text are leads = inr (record {
    made = take i commands ++ next ∷ [];
    next = command;
    left = left;
    are = are ∙ sym (append_assoc (take i commands) (next ∷ []) (command ∷ left));
    place = to;
    leads = leads;
  })

  cut : IsPartWritten (Answers same place next) now after (Err Failed) → AnswersEach r from commands before after (Err Put)
  cut w = (
    h.text ++ w.is.text,
    which (drop (i + 1) commands) w.place (h.text ++ w.is.text) (front_at commands i d l)
        (leads_more r from (take i commands) place h.text next w.place w.is.text h.leads (there w.place w.is.text w.is.answer)),
    writes_then before now after (Err Failed) h.text w.is.text h.writes w.is.written,
  )

  wanting : after ≡ now → AnswersEach r from commands before after (Err Memory)
  wanting nothing = (
    h.text,
    record {
      made = take i commands;
      next = next;
      left = drop (i + 1) commands;
      are = front_at commands i d l;
      place = place;
      leads = h.leads;
    },
    subst (λ (v : SinkView). Writes before v (Ok tt) h.text) (sym nothing) h.writes,
  )

  -- or one is not carried out
  pub answered_until : (fault : DebugFault)
      → (◌≡◌ {A = Result (Unit {0}) DebugFault} (Err fault) (Err Put) → IsPartWritten (Answers same place next) now after (Err Failed))
      → (◌≡◌ {A = Result (Unit {0}) DebugFault} (Err fault) (Err Memory) → after ≡ now)
      → AnswersEach r from commands before after (Err fault)
  answered_until Put put memory = cut (put refl)
  answered_until Memory put memory = wanting (memory refl)

-- a part of a session's answers is one of those of all commands, or of those before one
pub cut_answers : (d : Debugging) (before after : SinkView)
    → AnswersEach (recording_of d.session) (place_of d.session) d.commands.items before after (Err Put)
    → (s : Status) × (text : List ℕ) × EndsWith (Ok (answer.Session d)) s text × Writes before after (Err Failed) text
cut_answers d before after h = elim h.1 [
  | inl all ↦ (Done, h.0, all, h.2)
  | inr front ↦ (OutOfMemory, h.0, front, h.2)
]

-- ---- a session over a thread of a report

-- a report of another program, or without the thread
pub debug_unmatched : (file bytes : List ℕ) (thread : ℕ) (script : List ℕ) (program : Program) (said : Report) (r : Refusal)
    → Loads file program → report_in bytes ≡ Ok said → IsUnmatched file thread said r → EndsDebug file bytes thread script (Err r)
debug_unmatched file bytes thread script program said (refusal.Ended (ending.Mismatch line kind)) loads reads h =
    record { program = program; loads = loads; said = said; reads = reads; is_fault = h }
debug_unmatched file bytes thread script program said r loads reads h = absurd h

-- a thread of the code's report, which is one of the program
abbrev pub block_there : (file bytes : List ℕ) (thread : ℕ) (program : Program) (it : parts.Report) (block : ReportBlock)
    → Loads file program → report_in bytes ≡ Ok (report_said it) → mismatch (sha256 file) thread (report_said it) ≡ None
    → it.config.cores ≡ 1 → block ≡ get_or it.blocks.items thread block → IsBlockIn file bytes thread
block_there file bytes thread program it block loads reads matches one_core is = record {
  program = program;
  loads = loads;
  said = report_said it;
  reads = reads;
  matches = matches;
  config = it.config;
  given = refl;
  one_core = one_core;
  block = block_said block;
  stands =
      said_at it.blocks.items thread block is
      (let there = thread_there (sha256 file) thread (report_said it) matches in omega (arith, there, it.one_each));
}

-- the thread parts from the journal or the count
pub debug_parted : (file bytes : List ℕ) (thread : ℕ) (script : List ℕ) (at : IsBlockIn file bytes thread) (r : Refusal)
    → IsPartedRefusal at.program at.config thread at.block r → EndsDebug file bytes thread script (Err r)
debug_parted file bytes thread script at (refusal.Ended (ending.Differs (difference.Parts fault))) h =
    record { at = at; fault = fault; parts = h; is_text = refl }
debug_parted file bytes thread script at refusal.Memory h = tt
debug_parted file bytes thread script at r h = absurd h

module _ (file bytes : List ℕ) (thread : ℕ) (script : List ℕ) (d : Debugging) (h : IsDebugging file bytes thread script d) where
  over : (answers : Recording → ℕ → List DebugCommand → List ℕ → Type 0) (text : List ℕ)
      → answers (recording_of d.session) (place_of d.session) d.commands.items text
      → answers (recorded h.at) 0 d.commands.items text
  over answers text p =
      subst (λ (q : Recording). answers q 0 d.commands.items text) h.recording
      (subst (λ (n : ℕ). answers (recording_of d.session) n d.commands.items text) h.place p)

  debugs : (answers : Recording → ℕ → List DebugCommand → List ℕ → Type 0) (text : List ℕ)
      → answers (recording_of d.session) (place_of d.session) d.commands.items text
      → IsDebug answers file bytes thread script text
  debugs answers text p =
      record { at = h.at; ends = h.ends; commands = d.commands.items; said = h.said; prints = over answers text p }

-- the end of `debug`, for its request
pub debug_accepted : (program report : List ℕ) (thread : ℕ) (script file bytes commands : List ℕ) (end : Result Answer Refusal)
    → EndsDebug file bytes thread commands end
    → EndsAccepted (asking Debug (NameSaid program ∷ NameSaid report ∷ ThreadSaid thread ∷ NameSaid script ∷ []) default_options)
    (file ∷ bytes ∷ commands ∷ []) end
debug_accepted program report thread script file bytes commands (Ok (answer.Text answered)) h = absurd h
debug_accepted program report thread script file bytes commands (Ok (answer.Session d)) h = (
  λ text p. debugs file bytes thread commands d h AllAnswers text p,
  λ text p. debugs file bytes thread commands d h FrontAnswers text p,
)
debug_accepted program report thread script file bytes commands (Err (refusal.Ended (ending.Mismatch line kind))) h =
    record { fault = record { line = line; kind = kind }; is_mismatched = h; is_text = refl }
debug_accepted program report thread script file bytes commands (Err (refusal.Ended (ending.Differs it))) h = h
debug_accepted program report thread script file bytes commands (Err refusal.Memory) h = tt
debug_accepted program report thread script file bytes commands (Err r) h = absurd h
