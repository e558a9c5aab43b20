-- The replay of a thread of a report, from what its parts say.
use Rattle.std.proofs.Common.{◌≡◌, inl, inr, ℕ, zero, suc, ◌<◌, ◌≤◌, Bool, true, false, cond, List, [], ◌∷◌, length, map, get_or, refl}
use Rattle.std.proofs.Common.{sym, ap}
use Rattle.std.proofs.Common.{◌∙◌, subst, arith, Some, None, Result, Ok, Err}
use Rattle.std.specs.Prelude.{slice_get, nat_lt}
use Rattle.cmd_words.specs.Command.{asking}
use Rattle.cmd_words.specs.Options.{default_options}
use Rattle.cmd_words.specs.Words.{NameSaid, ThreadSaid}
use Rattle.cmd_words.specs.declared.verb.Verb.TheVariants.{Replay}
use Rattle.std.proofs.lemmas.Bool.Decides.{nat_tests}
use Rattle.std.proofs.lemmas.Bool.{ltb-false}
use Rattle.sha2.specs.Sha256.{sha256}
use Rattle.sm_types.specs.Options.{numbers_of, version_of}
use Rattle.sm_types.specs.declared.config.Config.{Config}
use Rattle.sm_types.specs.declared.shared_op.Event.{Event}
use Rattle.sm_types.specs.declared.version.Version.{Version}
use Rattle.elf_loader.specs.Loading.{Loads}
use Rattle.kernel_contexts.specs.Context.{state_of, journal_of}
use Rattle.kernel_contexts.specs.declared.context.Context.{Context}
use Rattle.lone_runner.specs.LoneRun.{IsLoneRun, HasRunAlone}
use Rattle.paged_memory.specs.Image.{Program}
use Rattle.report_reader.specs.Block.{Block}
use Rattle.line_reader.specs.Difference.{first_difference}
use Rattle.line_reader.specs.Lines.{lines_of}
use Rattle.report_reader.specs.Reading.{Fault}
use Rattle.report_reader.specs.Report.{Report, report_in}
use Rattle.report_reader.specs.Told.{block_said}
use Rattle.report_reader.specs.declared.fault.ReportKind.TheVariants.{Image, NoThread}
use Rattle.std.specs.Str.{bytes_eq}
use Rattle.report_reader.specs.declared.parts.ReportBlock.{ReportBlock}
use Rattle.report_text.specs.Block.{block_text}
use Rattle.report_text.specs.Ends.{block_of}
use Rattle.command_lines.specs.ReportLines.{difference_lines}
use Rattle.smemu.specs.Replay.{mismatch, text_in, text_of, EndsAsSaid, IsBlockIn, IsReplayOf}
use Rattle.smemu.specs.Views.{ComparesSo, EndsAccepted, EndsReplay, IsPartedRefusal, IsUnmatched}
use Rattle.smemu.specs.declared.answer.Answer.{Answer}
use Rattle.smemu.specs.declared.answer.Answer.TheVariants as answer
use Rattle.smemu.specs.declared.ending.Difference.TheVariants as difference
use Rattle.smemu.specs.declared.ending.Ending.TheVariants as ending
use Rattle.smemu.specs.declared.refusal.Refusal.{Refusal}
use Rattle.smemu.specs.declared.refusal.Refusal.TheVariants as refusal

-- a report that is read is not too long
no_report : (long : Bool) (fault : Fault) (read : Result Report Fault) (said : Report) → cond long (Err fault) read ≡ Ok said → long ≡ false
no_report true fault read said e = cc
no_report false fault read said e = refl

pub report_size : (bytes : List ℕ) (said : Report) → report_in bytes ≡ Ok said → length bytes ≤ 1073741824
unfolding report_in
report_size bytes said e = ltb-false 1073741824 (length bytes) (no_report (nat_lt 1073741824 (length bytes)) _ _ said e)

-- and has the thread, where it is one of the program
below : (t n : ℕ) (same lower : Bool) (f g : Fault) → nat_lt t n ≡ lower → cond same (cond lower None (Some f)) (Some g) ≡ None → t < n
below t n true true f g is e = grind (arith, nat_tests)
below t n true false f g is e = cc
below t n false lower f g is e = cc

pub thread_there : (digest : List ℕ) (thread : ℕ) (said : Report) → mismatch digest thread said ≡ None → thread < said.options.threads
thread_there digest thread said e =
    below thread said.options.threads (bytes_eq said.image digest) (nat_lt thread said.options.threads)
    (record { line = 2; kind = NoThread })
    (record { line = 3; kind = Image }) refl e

-- the block of a thread of the code's report
pub said_at : (blocks : List ReportBlock) (i : ℕ) (b : ReportBlock) → b ≡ get_or blocks i b → i < length blocks
    → slice_get (map block_said blocks) i ≡ Some (block_said b)
said_at [] i b is l = absurd (omega arith)
said_at (x ∷ xs) zero b is l = ap (λ (y : ReportBlock). Some (block_said y)) (sym is)
said_at (x ∷ xs) (suc i) b is l = said_at xs i b is (omega arith)

-- a report of another program, or without the thread
pub unmatched_ends : (file bytes : List ℕ) (thread : ℕ) (program : Program) (said : Report) (r : Refusal) → Loads file program
    → report_in bytes ≡ Ok said → IsUnmatched file thread said r → EndsReplay file bytes thread (Err r)
unmatched_ends file bytes thread program said (refusal.Ended (ending.Mismatch line kind)) loads reads h =
    record { program = program; loads = loads; said = said; reads = reads; is_fault = h }
unmatched_ends file bytes thread program said r loads reads h = absurd h

module _ (file bytes : List ℕ) (thread : ℕ) (program : Program) (config : Config) (said : Report) (block : Block)
    (loads : Loads file program)
    (reads : report_in bytes ≡ Ok said) (matches : mismatch (sha256 file) thread said ≡ None) (given : numbers_of config ≡ said.options)
    (one_core : config.cores ≡ 1) (stands : slice_get said.blocks thread ≡ Some block) where
  abbrev at : IsBlockIn file bytes thread
  at = record {
    program = program;
    loads = loads;
    said = said;
    reads = reads;
    matches = matches;
    config = config;
    given = given;
    one_core = one_core;
    block = block;
    stands = stands;
  }

  -- the thread parts from the journal or the count
  pub parted_ends : (r : Refusal) → IsPartedRefusal program config thread block r → EndsReplay file bytes thread (Err r)
  parted_ends (refusal.Ended (ending.Differs (difference.Parts fault))) h =
      inl (record { at = at; fault = fault; parts = h; is_text = refl })
  parted_ends refusal.Memory h = tt
  parted_ends r h = absurd h

  -- the thread ends as the block says
  module _ (context : Context) (alone : HasRunAlone program config thread context) (journal : journal_of context ≡ block.journal)
      (count : (state_of context).count ≡ block.count) (version : Version) (is : version ≡ version_of config) where
    abbrev ended : EndsAsSaid program config thread block
    ended = record {
      state = state_of context;
      stop = alone.stop;
      run = subst (λ (j : List Event). IsLoneRun program config thread j (state_of context) alone.stop) journal alone.run;
      count = count;
    }

    its_text : block_of version context ≡ text_of ended
    its_text = λ i. block_text (is i) (alone.number i) (state_of context) (alone.stopped i) (journal i)

    -- and its block is the report's
    pub compared_same : text_in bytes block
        ≡ block_of version context
        → IsReplayOf file bytes thread (text_in bytes block)
    compared_same same = record { at = at; end = ended; is_text = same ∙ its_text; same = refl }

    -- or another
    pub compared_ends : (r : Refusal)
        → ComparesSo (text_in bytes block) block.first_line
        (block_of version context) (Err r)
        → EndsReplay file bytes thread (Err r)
    compared_ends (refusal.Ended (ending.Differs (difference.Lines line report replay))) h = inr (record {
      at = at;
      end = ended;
      it = h.0;
      first = subst (λ (text : List ℕ). first_difference 0 (lines_of (text_in bytes block)) (lines_of text) ≡ Some h.0) its_text h.1;
      is_text = λ i. difference_lines (h.2.0 i) (h.2.1 i) (h.2.2 i);
    })
    compared_ends (refusal.Ended (ending.Differs (difference.Parts fault))) h = absurd h.2
    compared_ends refusal.Memory h = tt
    compared_ends r h = absurd h

-- the end of a replay, for its request
pub replay_accepted : (program report : List ℕ) (thread : ℕ) (file bytes : List ℕ) (end : Result Answer Refusal)
    → EndsReplay file bytes thread end
    → EndsAccepted (asking Replay (NameSaid program ∷ NameSaid report ∷ ThreadSaid thread ∷ []) default_options) (file ∷ bytes ∷ []) end
replay_accepted program report thread file bytes (Ok (answer.Text told)) h = h
replay_accepted program report thread file bytes (Ok (answer.Session d)) h = absurd h
replay_accepted program report thread file bytes (Err (refusal.Ended (ending.Mismatch line kind))) h =
    record { fault = record { line = line; kind = kind }; is_mismatched = h; is_text = refl }
replay_accepted program report thread file bytes (Err (refusal.Ended (ending.Differs it))) h = h
replay_accepted program report thread file bytes (Err refusal.Memory) h = tt
replay_accepted program report thread file bytes (Err r) h = absurd h
