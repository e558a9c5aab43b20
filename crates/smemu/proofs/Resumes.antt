-- The rest of the run of a thread of a report, from a checkpoint, from what its parts say.
use Rattle.std.proofs.Common.{◌≡◌, inl, inr, ℕ, ◌-◌, ◌<◌, Bool, true, false, cond, List, [], ◌∷◌, drop, get_or, length, take, refl, sym}
use Rattle.std.proofs.Common.{◌∙◌, ap, subst, arith, Some, None}
use Rattle.std.proofs.Common.{Result, Ok, Err}
use Rattle.std.specs.Prelude.{nat_lt, IsErrAnd}
use Rattle.std.specs.Str.{bytes_eq}
use Rattle.std.proofs.lemmas.Bool.Decides.{nat_tests}
use Rattle.std.proofs.lemmas.Grind.{common_steps}
use Rattle.std.proofs.lemmas.Option.{same_Some}
use Rattle.sha2.specs.Sha256.{sha256}
use Rattle.cmd_words.specs.Command.{asking}
use Rattle.cmd_words.specs.Options.{default_options}
use Rattle.cmd_words.specs.Words.{NameSaid}
use Rattle.cmd_words.specs.declared.verb.Verb.TheVariants.{Resume}
use Rattle.sm_types.specs.Options.{version_of}
use Rattle.sm_types.specs.declared.config.Config.{Config}
use Rattle.sm_types.specs.declared.shared_op.Event.{Event}
use Rattle.sm_types.specs.declared.stop.Stop.{Stop}
use Rattle.elf_loader.specs.Loading.{Loads}
use Rattle.kernel_contexts.specs.Loose.{loose_events, loose_state, loose_thread, IsSameLoose}
use Rattle.kernel_contexts.specs.declared.loose.Loose.{Loose}
use Rattle.lone_runner.specs.Rest.{IsPartingFrom, IsRestOfRun}
use Rattle.lone_runner.specs.Resumed.{IsResumed}
use Rattle.paged_memory.specs.Image.{Program}
use Rattle.line_reader.specs.Difference.{first_difference}
use Rattle.line_reader.specs.Lines.{lines_of}
use Rattle.report_reader.specs.Reading.{Fault}
use Rattle.report_reader.specs.Report.{Report, report_in}
use Rattle.report_reader.specs.Told.{block_said, report_said}
use Rattle.report_reader.specs.declared.parts.Report as parts
use Rattle.report_reader.specs.declared.parts.ReportBlock.{ReportBlock}
use Rattle.report_reader.specs.declared.fault.ReportKind.TheVariants.{Image, NoThread}
use Rattle.report_text.specs.Block.{block_text}
use Rattle.command_lines.specs.ReportLines.{difference_lines, report_line}
use Rattle.smemu.specs.Replay.{mismatch, text_in, IsBlockIn}
use Rattle.smemu.specs.Resume.{rest_text, IsRestIn, IsResumeOf, RestEnds}
use Rattle.smemu.specs.Views.{ended_text, rest_in, ComparesSo, EndsAccepted, EndsResume, IsInBlock, IsRestRefusal, IsStateFor, IsUnmatched}
use Rattle.smemu.specs.declared.answer.Answer.{Answer}
use Rattle.smemu.specs.declared.answer.Answer.TheVariants as answer
use Rattle.smemu.specs.declared.ending.Difference.TheVariants as difference
use Rattle.smemu.specs.declared.ending.Ending.TheVariants as ending
use Rattle.smemu.specs.declared.refusal.Refusal.{Refusal}
use Rattle.smemu.specs.declared.refusal.Refusal.TheVariants as refusal
use Rattle.smemu.proofs.Debugs.{block_there}

-- ---- a report of another program

not_image : (same lower : Bool) (image thread fault : Fault) → lower ≡ true
    → cond same (cond lower None (Some thread)) (Some image) ≡ Some fault
    → (same ≡ false) × (image ≡ fault)
not_image true true image thread fault is e = cc
not_image true false image thread fault is e = cc
not_image false lower image thread fault is e = (refl, same_Some image fault e)

pub resume_unmatched : (file bytes checkpoint : List ℕ) (thread : ℕ) (program : Program) (it : Report) (r : Refusal) → Loads file program
    → report_in bytes ≡ Ok it → thread < it.options.threads → IsUnmatched file thread it r → EndsResume file bytes checkpoint (Err r)
resume_unmatched file bytes checkpoint thread program it (refusal.Ended (ending.Mismatch line kind)) loads reads below h =
    let there : nat_lt thread it.options.threads ≡ true = grind (arith, nat_tests) in
    let other =
    not_image (bytes_eq it.image (sha256 file)) (nat_lt thread it.options.threads)
    (record { line = 3; kind = Image })
    (record { line = 2; kind = NoThread })
    (record { line = line; kind = kind }) there h in
    record {
      program = program;
      loads = loads;
      said = it;
      reads = reads;
      other = other.0;
      is_text = ap report_line (sym other.1);
    }
resume_unmatched file bytes checkpoint thread program it r loads reads below h = absurd h

-- ---- the rest of the run

-- what is left of a journal after some of its events
pub rest_left : (events journal : List Event) (n used : ℕ) → events ≡ journal → n ≡ used
    → take (length events - n) (drop n events) ≡ drop used journal
rest_left events journal n used same is =
    let whole : take (length events - n) (drop n events) ≡ drop n events = grind (arith, common_steps) in
    whole ∙ (λ i. drop (is i) (same i))

module _ (file bytes checkpoint : List ℕ) (program : Program) (it : parts.Report) (block : ReportBlock) (loose : Loose)
    (h : IsStateFor (report_said it) it.config checkpoint loose) (loads : Loads file program)
    (reads : report_in bytes ≡ Ok (report_said it))
    (matches : mismatch (sha256 file) (loose_thread loose) (report_said it) ≡ None) (one_core : it.config.cores ≡ 1)
    (is : block ≡ get_or it.blocks.items (loose_thread loose) block)
  where
    abbrev at : IsBlockIn file bytes (loose_thread loose)
    at = block_there file bytes (loose_thread loose) program it block loads reads matches one_core is

    abbrev rest : IsRestIn file bytes checkpoint
    rest = record { thread = loose_thread loose; at = at; from = loose_state loose; used = loose_events loose; reads = h.reads }

    pub stands_within : IsInBlock (block_said block) loose
    stands_within = h.block (block_said block) at.stands

    -- the thread parts from what is left
    pub rest_parted : (r : Refusal) → IsRestRefusal at.block loose r → EndsResume file bytes checkpoint (Err r)
    rest_parted (refusal.Ended (ending.Differs (difference.Parts fault))) k =
        inl (record {
          rest = rest;
          fault = fault;
          parts =
              subst (λ (c : Config). IsPartingFrom c (loose_thread loose) (loose_state loose) (loose_events loose) (rest_in at.block loose)
              at.block.count fault) h.options k;
          is_text = refl;
        })
    rest_parted refusal.Memory k = tt
    rest_parted r k = absurd k

    -- it comes to the count with all of it used
    module _ (end : Loose) (stop : Stop) (run : IsResumed loose (rest_in at.block loose) at.block.count end stop)
        (same : IsSameLoose loose end)
      where
        abbrev ended : RestEnds rest
        ended = record {
          state = loose_state end;
          stop = stop;
          run =
              subst (λ (c : Config). IsRestOfRun c (loose_thread loose) (loose_state loose) (loose_events loose) (rest_in at.block loose)
              (loose_state end) stop) h.options run.run;
          counts = run.counts;
        }

        its_text : ended_text end stop at.block.journal ≡ rest_text rest ended
        its_text =
            λ i. block_text (version_of ((same.config ∙ h.options) i)) (same.thread i) (loose_state end) (Some stop) at.block.journal

        pub resumed_same : text_in bytes at.block ≡ ended_text end stop at.block.journal
            → IsResumeOf file bytes checkpoint (text_in bytes at.block)
        resumed_same alike = record { rest = rest; end = ended; is_text = alike ∙ its_text; same = refl }

        -- and its block is another
        pub resumed_ends : (r : Refusal)
            → ComparesSo (text_in bytes at.block) at.block.first_line (ended_text end stop at.block.journal) (Err r)
            → EndsResume file bytes checkpoint (Err r)
        resumed_ends (refusal.Ended (ending.Differs (difference.Lines line report replay))) k = inr (record {
          rest = rest;
          end = ended;
          it = k.0;
          first =
              subst (λ (text : List ℕ). first_difference 0 (lines_of (text_in bytes at.block)) (lines_of text) ≡ Some k.0) its_text k.1;
          is_text = λ i. difference_lines (k.2.0 i) (k.2.1 i) (k.2.2 i);
        })
        resumed_ends (refusal.Ended (ending.Differs (difference.Parts fault))) k = absurd k.2
        resumed_ends refusal.Memory k = tt
        resumed_ends r k = absurd k

-- a result with which a `?` leaves ends as its refusal does
pub refused_ends : (file bytes checkpoint : List ℕ) (end : Result Answer Refusal) (r : Refusal) → IsErrAnd end (λ left. left ≡ r)
    → EndsResume file bytes checkpoint (Err r) → EndsResume file bytes checkpoint end
refused_ends file bytes checkpoint (Ok a) r is ends = absurd is
refused_ends file bytes checkpoint (Err left) r is ends = subst (λ (x : Refusal). EndsResume file bytes checkpoint (Err x)) (sym is) ends

-- for its request
pub resume_accepted : (program report name : List ℕ) (file bytes checkpoint : List ℕ) (end : Result Answer Refusal)
    → EndsResume file bytes checkpoint end
    → EndsAccepted (asking Resume (NameSaid program ∷ NameSaid report ∷ NameSaid name ∷ []) default_options)
    (file ∷ bytes ∷ checkpoint ∷ []) end
resume_accepted program report name file bytes checkpoint (Ok (answer.Text told)) h = h
resume_accepted program report name file bytes checkpoint (Ok (answer.Session d)) h = absurd h
resume_accepted program report name file bytes checkpoint (Err (refusal.Ended (ending.Mismatch line kind))) h = h
resume_accepted program report name file bytes checkpoint (Err (refusal.Ended (ending.Differs it))) h = h
resume_accepted program report name file bytes checkpoint (Err refusal.Memory) h = tt
resume_accepted program report name file bytes checkpoint (Err r) h = absurd h
