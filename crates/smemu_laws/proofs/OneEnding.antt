-- Over files that are told, what is asked for has one ending.
use Rattle.std.proofs.Common.{◌≡◌, ◌≢◌, inl, inr, ℕ, ◌+◌, List, [], ◌∷◌, Option, Some, refl, sym, ◌∙◌, ap, subst}
use Rattle.plain_lemmas.proofs.Options.{none_not_some, one_Ok, one_Some}
use Rattle.sha2.specs.Sha256.{sha256}
use Rattle.sm_types.specs.Options.{version_of}
use Rattle.sm_types.specs.declared.config.Config.{Config}
use Rattle.sm_types.specs.declared.numbers.Numbers.{Numbers}
use Rattle.cmd_words.specs.Words.{Argument, ThreadSaid, WorkloadSaid, CountSaid, Request, command_of}
use Rattle.cmd_words.specs.declared.verb.Verb.{Verb}
use Rattle.cmd_words.specs.declared.verb.Verb.TheVariants.{Run, Sim, Dis, Asm, Replay, Debug, Ckpt, Resume, AbiCheck, Vectors}
use Rattle.cmd_words.specs.declared.verb.Verb.TheVariants.{Gen, Bench, Help, Version}
use Rattle.edge_io.specs.Files.{FilesView}
use Rattle.lone_runner.specs.Parting.{EndsAt, IsParting}
use Rattle.abi_checker.specs.declared.abi.Abi.{Abi}
use Rattle.abi_checker.proofs.Once.{checked_ends}
use Rattle.lone_runner.specs.declared.fault.AloneFault.{AloneFault}
use Rattle.lone_runner.proofs.Partings.{ends_whole, one_fault}
use Rattle.lone_runner.proofs.Runs.{one_state, one_stop}
use Rattle.paged_memory.specs.Image.{Program}
use Rattle.report_reader.specs.Block.{Block}
use Rattle.line_reader.specs.Difference.{first_difference}
use Rattle.line_reader.specs.Lines.{lines_of}
use Rattle.report_reader.specs.Reading.{Fault}
use Rattle.report_reader.specs.Report.{report_in}
use Rattle.report_text.specs.Block.{block_text}
use Rattle.command_lines.specs.ReportLines.{difference_lines, report_line}
use Rattle.command_lines.specs.declared.status.Status.{Status}
use Rattle.command_lines.specs.declared.status.Status.TheVariants.{Done, Absent, ReadFault, OutOfMemory, BadReport, Differs, Unlawful}
use Rattle.command_lines.specs.declared.status.Status.TheVariants.{BadCheckpoint}
use Rattle.smemu.specs.Answers.{IsOutcome, IsToldBy, outcomes_of, outcome}
use Rattle.smemu.specs.Checks.{IsCheckOf}
use Rattle.report_compare.specs.DifferLines.{parting_line}
use Rattle.smemu.specs.Ends.{Change, Stands}
use Rattle.smemu.specs.Rejections.{rejection_line, rejection_status}
use Rattle.smemu.specs.Replay.{mismatch, text_in, text_of, EndsAsSaid, IsBlockIn, IsReplayOf, IsMismatched, IsParted, MismatchesSo}
use Rattle.smemu.specs.Replay.{DiffersSo}
use Rattle.smemu.specs.Requests.{Named, files_named}
use Rattle.smemu.specs.declared.rejection.Rejection.{Rejection}
use Rattle.smemu.specs.declared.rejection.Rejection.TheVariants as rejection
use Rattle.smemu_laws.specs.OneAnswer.{AreOneText}
use Rattle.smemu_laws.proofs.Fates.{Fate, AllAccepted, Missing, Refused, IsDecided, missing_line, accepted_fate, decided}
use Rattle.smemu_laws.proofs.OneAnswer.{no_line, one_assembly, one_block, one_listing, one_replay, one_run_report}
use Rattle.smemu_laws.proofs.OneAnswer.{one_answers, one_bench, one_simulation}
use Rattle.smemu_laws.proofs.OneCheck.{lawful_or_not, one_lawful, one_unlawful}
use Rattle.smemu_laws.proofs.OneCheckpoint.{one_checkpoint, one_late, one_short, short_or_late, stands_or_late, stands_or_short}
use Rattle.smemu_laws.proofs.OneResume.{differs_or_other, one_rest_difference, one_resume, resumed_or_differs, resumed_or_other}
use Rattle.smemu_laws.proofs.OneDebug.{debug_whole, one_debug}
use Rattle.command_lines.specs.Texts.{HasFront}

-- the two ends of one block are one
one_end_text : (program : Program) (config : Config) (thread : ℕ) (block : Block) (a b : EndsAsSaid program config thread block)
    → text_of a ≡ text_of b
one_end_text program config thread block a b =
    let state = one_state program config thread block.journal a.state b.state a.stop b.stop a.run b.run in
    let stop = one_stop program config thread block.journal a.state b.state a.stop b.stop a.run b.run in
    λ i. block_text (version_of config) thread (state i) (Some (stop i)) block.journal

module _ (program p : Program) (config k : Config) (thread : ℕ) (block b : Block) (is : program ≡ p) (same : config ≡ k) (one : block ≡ b)
    (a : EndsAsSaid program config thread block) where
  no_parting : (fault : AloneFault) → IsParting p k thread b.journal b.count fault → ⊥
  no_parting fault h =
      let there = subst (λ (q : Program). IsParting q k thread b.journal b.count fault) (sym is) h in
      let here = subst (λ (q : Config). IsParting program q thread b.journal b.count fault) (sym same) there in
      ends_whole program config thread block.journal block.count fault
      (record { state = a.state; stop = a.stop; run = a.run; counts = a.count })
      (subst (λ (q : Block). IsParting program config thread q.journal q.count fault) (sym one) here)

  same_end : (end : EndsAsSaid p k thread b) → text_of a ≡ text_of end
  same_end =
      subst (λ (q : Block). (end : EndsAsSaid p k thread q) → text_of a ≡ text_of end) one
      (subst (λ (q : Config). (end : EndsAsSaid p q thread block) → text_of a ≡ text_of end) same
      (subst (λ (q : Program). (end : EndsAsSaid q config thread block) → text_of a ≡ text_of end) is
      (one_end_text program config thread block a)))

done_differs : (file report : List ℕ) (thread : ℕ) (text other : List ℕ) → IsReplayOf file report thread text
    → DiffersSo file report thread other → ⊥
done_differs file report thread text other h (inl g) =
    let one = one_block file report thread h.at g.at in
    no_parting h.at.program g.at.program h.at.config g.at.config thread h.at.block g.at.block one.program one.config one.block h.end
    g.fault g.parts
done_differs file report thread text other h (inr g) =
    let one = one_block file report thread h.at g.at in
    let same = same_end h.at.program g.at.program h.at.config g.at.config thread h.at.block g.at.block one.program one.config one.block
    h.end g.end in
    let texts : text_in report g.at.block ≡ text_of g.end = ap (text_in report) (sym one.block) ∙ h.same ∙ h.is_text ∙ same in
    none_not_some (first_difference 0 (lines_of (text_in report g.at.block)) (lines_of (text_of g.end))) g.it
    (ap (λ (t : List ℕ). first_difference 0 (lines_of t) (lines_of (text_of g.end))) texts ∙ no_line 0 (lines_of (text_of g.end))) g.first

-- a thread that ends as its block says does not part
whole_parts : (file report : List ℕ) (thread : ℕ) (text : List ℕ) (at : IsBlockIn file report thread)
    → EndsAt at.program at.config thread at.block.journal at.block.count → IsParted file report thread text → ⊥
whole_parts file report thread text at h g =
    let one = one_block file report thread at g.at in
    no_parting at.program g.at.program at.config g.at.config thread at.block g.at.block one.program one.config one.block
    (record { state = h.state; stop = h.stop; run = h.run; count = h.counts }) g.fault g.parts

-- nor does one that is checked
check_parts : (file report : List ℕ) (thread : ℕ) (text : List ℕ) (abi : Abi) → IsCheckOf file report thread abi
    → IsParted file report thread text → ⊥
check_parts file report thread text abi h g =
    whole_parts file report thread text h.at
    (checked_ends h.at.program h.at.config thread h.at.block.journal h.at.block.count abi h.checked) g

-- a report that is one of the program, with the thread, is not one of another
matched : (file report : List ℕ) (thread : ℕ) (at : IsBlockIn file report thread) (fault : Fault) → IsMismatched file report thread fault
    → ⊥
matched file report thread at fault h =
    none_not_some (mismatch (sha256 file) thread at.said) fault at.matches
    (ap (mismatch (sha256 file) thread) (one_Ok (report_in report) at.said h.said at.reads h.reads) ∙ h.is_fault)

block_of : (file report : List ℕ) (thread : ℕ) (text : List ℕ) → DiffersSo file report thread text → IsBlockIn file report thread
block_of file report thread text (inl parted) = parted.at
block_of file report thread text (inr another) = another.at

-- two lines of a report that is one of another program are one
one_mismatch : (file report : List ℕ) (thread : ℕ) (text other : List ℕ) → MismatchesSo file report thread text
    → MismatchesSo file report thread other → text ≡ other
one_mismatch file report thread text other h g =
    let said = one_Ok (report_in report) h.is_mismatched.said g.is_mismatched.said h.is_mismatched.reads g.is_mismatched.reads in
    let fault =
    one_Some (mismatch (sha256 file) thread g.is_mismatched.said) h.fault g.fault
    (ap (mismatch (sha256 file) thread) (sym said) ∙ h.is_mismatched.is_fault) g.is_mismatched.is_fault in
    h.is_text ∙ ap report_line fault ∙ sym g.is_text

module _ (program p : Program) (config k : Config) (thread : ℕ) (block b : Block) (is : program ≡ p) (same : config ≡ k) (one : block ≡ b)
  where
    parting_there : (fault : AloneFault) → IsParting program config thread block.journal block.count fault
        → IsParting p k thread b.journal b.count fault
    parting_there fault h =
        let here = subst (λ (q : Program). IsParting q config thread block.journal block.count fault) is h in
        let there = subst (λ (q : Config). IsParting p q thread block.journal block.count fault) same here in
        subst (λ (q : Block). IsParting p k thread q.journal q.count fault) one there

-- two texts that say where a thread and its report part are one
one_difference : (file report : List ℕ) (thread : ℕ) (text other : List ℕ) → DiffersSo file report thread text
    → DiffersSo file report thread other → text ≡ other
one_difference file report thread text other (inl h) (inl g) =
    let one = one_block file report thread h.at g.at in
    let there =
    parting_there h.at.program g.at.program h.at.config g.at.config thread h.at.block g.at.block one.program one.config one.block h.fault
    h.parts in
    let fault = one_fault g.at.program g.at.config thread g.at.block.journal g.at.block.count h.fault g.fault there g.parts in
    h.is_text ∙ ap parting_line fault ∙ sym g.is_text
one_difference file report thread text other (inl h) (inr g) =
    let one = one_block file report thread g.at h.at in
    absurd (no_parting g.at.program h.at.program g.at.config h.at.config thread g.at.block h.at.block one.program one.config one.block g.end
    h.fault h.parts)
one_difference file report thread text other (inr h) (inl g) =
    let one = one_block file report thread h.at g.at in
    absurd (no_parting h.at.program g.at.program h.at.config g.at.config thread h.at.block g.at.block one.program one.config one.block h.end
    g.fault g.parts)
one_difference file report thread text other (inr h) (inr g) =
    let one = one_block file report thread h.at g.at in
    let same =
    same_end h.at.program g.at.program h.at.config g.at.config thread h.at.block g.at.block one.program one.config one.block h.end g.end in
    let it =
    one_Some (first_difference 0 (lines_of (text_in report g.at.block)) (lines_of (text_of g.end))) h.it g.it
    ((λ i. first_difference 0 (lines_of (text_in report (sym one.block i))) (lines_of (sym same i))) ∙ h.first) g.first in
    h.is_text ∙ (λ i. difference_lines ((one.block i).first_line + (it i).line) (it i).first (it i).second) ∙ sym g.is_text

-- ---- what becomes of accepted files

-- two endings of accepted files, where memory is not wanting, have one status and one text
pub one_outcome : (verb : Verb) (s t : Status) (operands : List Argument) (options : Numbers) (files : List (List ℕ))
    (text other : List ℕ) → s ≢ OutOfMemory → t ≢ OutOfMemory → IsToldBy (outcomes_of verb s) operands options files text
    → IsToldBy (outcomes_of verb t) operands options files other
    → (s ≡ t) × AreOneText verb options.cores s text other
one_outcome Run Done Done operands options (file ∷ []) text other m n h g =
    (refl, λ one. one_run_report file options text other one h g)
one_outcome Sim Done Done operands options (file ∷ plan ∷ []) text other m n h g =
    (refl, one_simulation file plan options text other h g)
one_outcome Dis Done Done operands options (file ∷ []) text other m n h g = (refl, one_listing file text other h g)
one_outcome Asm Done Done operands options (file ∷ []) text other m n h g = (refl, one_assembly file text other h g)
one_outcome Replay Done Done (program ∷ report ∷ ThreadSaid thread ∷ []) options (file ∷ bytes ∷ []) text other m n h g =
    (refl, one_replay file bytes thread text other h g)
one_outcome Replay BadReport BadReport (program ∷ report ∷ ThreadSaid thread ∷ []) options (file ∷ bytes ∷ []) text other m n h g =
    (refl, one_mismatch file bytes thread text other h g)
one_outcome Replay Differs Differs (program ∷ report ∷ ThreadSaid thread ∷ []) options (file ∷ bytes ∷ []) text other m n h g =
    (refl, one_difference file bytes thread text other h g)
one_outcome Replay Done BadReport (program ∷ report ∷ ThreadSaid thread ∷ []) options (file ∷ bytes ∷ []) text other m n h g =
    absurd (matched file bytes thread h.at g.fault g.is_mismatched)
one_outcome Replay BadReport Done (program ∷ report ∷ ThreadSaid thread ∷ []) options (file ∷ bytes ∷ []) text other m n h g =
    absurd (matched file bytes thread g.at h.fault h.is_mismatched)
one_outcome Replay Done Differs (program ∷ report ∷ ThreadSaid thread ∷ []) options (file ∷ bytes ∷ []) text other m n h g =
    absurd (done_differs file bytes thread text other h g)
one_outcome Replay Differs Done (program ∷ report ∷ ThreadSaid thread ∷ []) options (file ∷ bytes ∷ []) text other m n h g =
    absurd (done_differs file bytes thread other text g h)
one_outcome Replay BadReport Differs (program ∷ report ∷ ThreadSaid thread ∷ []) options (file ∷ bytes ∷ []) text other m n h g =
    absurd (matched file bytes thread (block_of file bytes thread other g) h.fault h.is_mismatched)
one_outcome Replay Differs BadReport (program ∷ report ∷ ThreadSaid thread ∷ []) options (file ∷ bytes ∷ []) text other m n h g =
    absurd (matched file bytes thread (block_of file bytes thread text h) g.fault g.is_mismatched)
one_outcome Debug OutOfMemory t operands options files text other m n h g = absurd (m refl)
one_outcome Debug s OutOfMemory operands options files text other m n h g = absurd (n refl)
one_outcome Debug Done Done (program ∷ report ∷ ThreadSaid thread ∷ script ∷ []) options (file ∷ bytes ∷ lines ∷ [])
    text other m n h g =
    (refl, one_debug file bytes thread lines text other h g)
one_outcome Debug BadReport BadReport (program ∷ report ∷ ThreadSaid thread ∷ script ∷ []) options (file ∷ bytes ∷ lines ∷ [])
    text other m n h g =
    (refl, one_mismatch file bytes thread text other h g)
one_outcome Debug Differs Differs (program ∷ report ∷ ThreadSaid thread ∷ script ∷ []) options (file ∷ bytes ∷ lines ∷ [])
    text other m n h g =
    (refl, one_difference file bytes thread text other (inl h) (inl g))
one_outcome Debug Done BadReport (program ∷ report ∷ ThreadSaid thread ∷ script ∷ []) options (file ∷ bytes ∷ lines ∷ [])
    text other m n h g =
    absurd (matched file bytes thread h.at g.fault g.is_mismatched)
one_outcome Debug BadReport Done (program ∷ report ∷ ThreadSaid thread ∷ script ∷ []) options (file ∷ bytes ∷ lines ∷ [])
    text other m n h g =
    absurd (matched file bytes thread g.at h.fault h.is_mismatched)
one_outcome Debug Done Differs (program ∷ report ∷ ThreadSaid thread ∷ script ∷ []) options (file ∷ bytes ∷ lines ∷ [])
    text other m n h g =
    absurd (whole_parts file bytes thread other h.at h.ends g)
one_outcome Debug Differs Done (program ∷ report ∷ ThreadSaid thread ∷ script ∷ []) options (file ∷ bytes ∷ lines ∷ [])
    text other m n h g =
    absurd (whole_parts file bytes thread text g.at g.ends h)
one_outcome Debug BadReport Differs (program ∷ report ∷ ThreadSaid thread ∷ script ∷ []) options (file ∷ bytes ∷ lines ∷ [])
    text other m n h g =
    absurd (matched file bytes thread g.at h.fault h.is_mismatched)
one_outcome Debug Differs BadReport (program ∷ report ∷ ThreadSaid thread ∷ script ∷ []) options (file ∷ bytes ∷ lines ∷ [])
    text other m n h g =
    absurd (matched file bytes thread h.at g.fault g.is_mismatched)
one_outcome Ckpt Done Done (program ∷ report ∷ ThreadSaid thread ∷ CountSaid count ∷ []) options (file ∷ bytes ∷ []) text other m n h g =
    (refl, one_checkpoint file bytes thread count text other h g)
one_outcome Ckpt BadCheckpoint BadCheckpoint (program ∷ report ∷ ThreadSaid thread ∷ CountSaid count ∷ []) options (file ∷ bytes ∷ []) text
    other m n h g =
    (refl, one_late file bytes thread count text other h g)
one_outcome Ckpt BadReport BadReport (program ∷ report ∷ ThreadSaid thread ∷ CountSaid count ∷ []) options (file ∷ bytes ∷ []) text other m
    n h g =
    (refl, one_mismatch file bytes thread text other h g)
one_outcome Ckpt Differs Differs (program ∷ report ∷ ThreadSaid thread ∷ CountSaid count ∷ []) options (file ∷ bytes ∷ []) text other m n h
    g =
    (refl, one_short file bytes thread count text other h g)
one_outcome Ckpt Done BadCheckpoint (program ∷ report ∷ ThreadSaid thread ∷ CountSaid count ∷ []) options (file ∷ bytes ∷ []) text other m n
    h g =
    absurd (stands_or_late file bytes thread count text other h g)
one_outcome Ckpt BadCheckpoint Done (program ∷ report ∷ ThreadSaid thread ∷ CountSaid count ∷ []) options (file ∷ bytes ∷ []) text other m n
    h g =
    absurd (stands_or_late file bytes thread count other text g h)
one_outcome Ckpt Done BadReport (program ∷ report ∷ ThreadSaid thread ∷ CountSaid count ∷ []) options (file ∷ bytes ∷ []) text other m n h g
    =
    absurd (matched file bytes thread h.at g.fault g.is_mismatched)
one_outcome Ckpt BadReport Done (program ∷ report ∷ ThreadSaid thread ∷ CountSaid count ∷ []) options (file ∷ bytes ∷ []) text other m n h g
    =
    absurd (matched file bytes thread g.at h.fault h.is_mismatched)
one_outcome Ckpt Done Differs (program ∷ report ∷ ThreadSaid thread ∷ CountSaid count ∷ []) options (file ∷ bytes ∷ []) text other m n h g =
    absurd (stands_or_short file bytes thread count text other h g)
one_outcome Ckpt Differs Done (program ∷ report ∷ ThreadSaid thread ∷ CountSaid count ∷ []) options (file ∷ bytes ∷ []) text other m n h g =
    absurd (stands_or_short file bytes thread count other text g h)
one_outcome Ckpt BadCheckpoint BadReport (program ∷ report ∷ ThreadSaid thread ∷ CountSaid count ∷ []) options (file ∷ bytes ∷ []) text
    other m n h g =
    absurd (matched file bytes thread h.at g.fault g.is_mismatched)
one_outcome Ckpt BadReport BadCheckpoint (program ∷ report ∷ ThreadSaid thread ∷ CountSaid count ∷ []) options (file ∷ bytes ∷ []) text
    other m n h g =
    absurd (matched file bytes thread g.at h.fault h.is_mismatched)
one_outcome Ckpt BadCheckpoint Differs (program ∷ report ∷ ThreadSaid thread ∷ CountSaid count ∷ []) options (file ∷ bytes ∷ []) text other
    m n h g =
    absurd (short_or_late file bytes thread count other text g h)
one_outcome Ckpt Differs BadCheckpoint (program ∷ report ∷ ThreadSaid thread ∷ CountSaid count ∷ []) options (file ∷ bytes ∷ []) text other
    m n h g =
    absurd (short_or_late file bytes thread count text other h g)
one_outcome Ckpt BadReport Differs (program ∷ report ∷ ThreadSaid thread ∷ CountSaid count ∷ []) options (file ∷ bytes ∷ []) text other m n
    h g =
    absurd (matched file bytes thread g.at h.fault h.is_mismatched)
one_outcome Ckpt Differs BadReport (program ∷ report ∷ ThreadSaid thread ∷ CountSaid count ∷ []) options (file ∷ bytes ∷ []) text other m n
    h g =
    absurd (matched file bytes thread h.at g.fault g.is_mismatched)
one_outcome Resume Done Done operands options (file ∷ bytes ∷ checkpoint ∷ []) text other m n h g =
    (refl, one_resume file bytes checkpoint text other h g)
one_outcome Resume BadReport BadReport operands options (file ∷ bytes ∷ checkpoint ∷ []) text other m n h g =
    (refl, h.is_text ∙ sym g.is_text)
one_outcome Resume Differs Differs operands options (file ∷ bytes ∷ checkpoint ∷ []) text other m n h g =
    (refl, one_rest_difference file bytes checkpoint text other h g)
one_outcome Resume Done BadReport operands options (file ∷ bytes ∷ checkpoint ∷ []) text other m n h g =
    absurd (resumed_or_other file bytes checkpoint text other h g)
one_outcome Resume BadReport Done operands options (file ∷ bytes ∷ checkpoint ∷ []) text other m n h g =
    absurd (resumed_or_other file bytes checkpoint other text g h)
one_outcome Resume Done Differs operands options (file ∷ bytes ∷ checkpoint ∷ []) text other m n h g =
    absurd (resumed_or_differs file bytes checkpoint text other h g)
one_outcome Resume Differs Done operands options (file ∷ bytes ∷ checkpoint ∷ []) text other m n h g =
    absurd (resumed_or_differs file bytes checkpoint other text g h)
one_outcome Resume BadReport Differs operands options (file ∷ bytes ∷ checkpoint ∷ []) text other m n h g =
    absurd (differs_or_other file bytes checkpoint other text g h)
one_outcome Resume Differs BadReport operands options (file ∷ bytes ∷ checkpoint ∷ []) text other m n h g =
    absurd (differs_or_other file bytes checkpoint text other h g)
one_outcome AbiCheck Done Done (program ∷ report ∷ ThreadSaid thread ∷ []) options (file ∷ bytes ∷ []) text other m n h g =
    (refl, one_lawful file bytes thread text other h g)
one_outcome AbiCheck Unlawful Unlawful (program ∷ report ∷ ThreadSaid thread ∷ []) options (file ∷ bytes ∷ []) text other m n h g =
    (refl, one_unlawful file bytes thread text other h g)
one_outcome AbiCheck BadReport BadReport (program ∷ report ∷ ThreadSaid thread ∷ []) options (file ∷ bytes ∷ []) text other m n h g =
    (refl, one_mismatch file bytes thread text other h g)
one_outcome AbiCheck Differs Differs (program ∷ report ∷ ThreadSaid thread ∷ []) options (file ∷ bytes ∷ []) text other m n h g =
    (refl, one_difference file bytes thread text other (inl h) (inl g))
one_outcome AbiCheck Done Unlawful (program ∷ report ∷ ThreadSaid thread ∷ []) options (file ∷ bytes ∷ []) text other m n h g =
    absurd (lawful_or_not file bytes thread text other h g)
one_outcome AbiCheck Unlawful Done (program ∷ report ∷ ThreadSaid thread ∷ []) options (file ∷ bytes ∷ []) text other m n h g =
    absurd (lawful_or_not file bytes thread other text g h)
one_outcome AbiCheck Done BadReport (program ∷ report ∷ ThreadSaid thread ∷ []) options (file ∷ bytes ∷ []) text other m n h g =
    absurd (matched file bytes thread h.check.at g.fault g.is_mismatched)
one_outcome AbiCheck BadReport Done (program ∷ report ∷ ThreadSaid thread ∷ []) options (file ∷ bytes ∷ []) text other m n h g =
    absurd (matched file bytes thread g.check.at h.fault h.is_mismatched)
one_outcome AbiCheck Done Differs (program ∷ report ∷ ThreadSaid thread ∷ []) options (file ∷ bytes ∷ []) text other m n h g =
    absurd (check_parts file bytes thread other _ h.check g)
one_outcome AbiCheck Differs Done (program ∷ report ∷ ThreadSaid thread ∷ []) options (file ∷ bytes ∷ []) text other m n h g =
    absurd (check_parts file bytes thread text _ g.check h)
one_outcome AbiCheck Unlawful BadReport (program ∷ report ∷ ThreadSaid thread ∷ []) options (file ∷ bytes ∷ []) text other m n h g =
    absurd (matched file bytes thread h.check.at g.fault g.is_mismatched)
one_outcome AbiCheck BadReport Unlawful (program ∷ report ∷ ThreadSaid thread ∷ []) options (file ∷ bytes ∷ []) text other m n h g =
    absurd (matched file bytes thread g.check.at h.fault h.is_mismatched)
one_outcome AbiCheck Unlawful Differs (program ∷ report ∷ ThreadSaid thread ∷ []) options (file ∷ bytes ∷ []) text other m n h g =
    absurd (check_parts file bytes thread other _ h.check g)
one_outcome AbiCheck Differs Unlawful (program ∷ report ∷ ThreadSaid thread ∷ []) options (file ∷ bytes ∷ []) text other m n h g =
    absurd (check_parts file bytes thread text _ g.check h)
one_outcome AbiCheck BadReport Differs (program ∷ report ∷ ThreadSaid thread ∷ []) options (file ∷ bytes ∷ []) text other m n h g =
    absurd (matched file bytes thread g.at h.fault h.is_mismatched)
one_outcome AbiCheck Differs BadReport (program ∷ report ∷ ThreadSaid thread ∷ []) options (file ∷ bytes ∷ []) text other m n h g =
    absurd (matched file bytes thread h.at g.fault g.is_mismatched)
one_outcome Vectors Done Done operands options (file ∷ []) text other m n h g = (refl, one_answers file options text other h g)
one_outcome Gen Done Done (WorkloadSaid number ∷ []) options [] text other m n h g = (refl, h ∙ sym g)
one_outcome Bench Done Done (WorkloadSaid number ∷ []) options [] text other m n h g =
    (refl, λ one. one_bench number options text other one h g)
one_outcome Help Done Done operands options files text other m n h g = (refl, h ∙ sym g)
one_outcome Version Done Done operands options files text other m n h g = (refl, h ∙ sym g)
one_outcome Replay BadReport t operands options files text other m n h g = absurd g
one_outcome Replay Differs t operands options files text other m n h g = absurd g
one_outcome Ckpt BadReport t operands options files text other m n h g = absurd g
one_outcome Ckpt BadCheckpoint t operands options files text other m n h g = absurd g
one_outcome Ckpt Differs t operands options files text other m n h g = absurd g
one_outcome Resume BadReport t operands options files text other m n h g = absurd g
one_outcome Resume Differs t operands options files text other m n h g = absurd g
one_outcome AbiCheck BadReport t operands options files text other m n h g = absurd g
one_outcome AbiCheck Differs t operands options files text other m n h g = absurd g
one_outcome AbiCheck Unlawful t operands options files text other m n h g = absurd g
one_outcome Debug BadReport t operands options files text other m n h g = absurd g
one_outcome Debug Differs t operands options files text other m n h g = absurd g
one_outcome verb Done t operands options files text other m n h g = absurd g
one_outcome verb s t operands options files text other m n h g = absurd h

-- ---- what stands for a request

same_files : (a b : List (List ℕ)) → ◌≡◌ {A = Fate} (AllAccepted a) (AllAccepted b) → a ≡ b
same_files a b e = cc

same_missing : (a b : Named) → ◌≡◌ {A = Fate} (Missing a) (Missing b) → a ≡ b
same_missing a b e = cc

same_refused : (a b : Named) (r q : Rejection) → ◌≡◌ {A = Fate} (Refused a r) (Refused b q) → r ≡ q
same_refused a b r q e = cc

accepted_missing : (a : List (List ℕ)) (b : Named) → ◌≡◌ {A = Fate} (AllAccepted a) (Missing b) → ⊥
accepted_missing a b e = cc

accepted_refused : (a : List (List ℕ)) (b : Named) (r : Rejection) → ◌≡◌ {A = Fate} (AllAccepted a) (Refused b r) → ⊥
accepted_refused a b r e = cc

missing_refused : (a b : Named) (r : Rejection) → ◌≡◌ {A = Fate} (Missing a) (Refused b r) → ⊥
missing_refused a b r e = cc

-- a status other than Done has one text, whatever the command
absent_text : (verb : Verb) (cores : ℕ) (text other : List ℕ) → text ≡ other → AreOneText verb cores Absent text other
absent_text Run cores text other e = e
absent_text Asm cores text other e = e
absent_text Bench cores text other e = e
absent_text verb cores text other e = e

rejected_text : (verb : Verb) (cores : ℕ) (rejection : Rejection) (text other : List ℕ) → text ≡ other
    → AreOneText verb cores (rejection_status rejection) text other
rejected_text Run cores (rejection.Program fault) text other e = e
rejected_text Run cores rejected text other e = e
rejected_text Asm cores (rejection.Program fault) text other e = e
rejected_text Asm cores rejected text other e = e
rejected_text Bench cores (rejection.Program fault) text other e = e
rejected_text Bench cores rejected text other e = e
rejected_text verb cores rejected text other e = e

-- with want of memory comes no text but of `debug`
memory_not : (verb : Verb) (operands : List Argument) (options : Numbers) (files : List (List ℕ)) (text : List ℕ)
    → IsToldBy (outcomes_of verb OutOfMemory) operands options files text → verb ≡ Debug
memory_not Debug operands options files text h = refl
memory_not verb operands options files text h = absurd h

pub no_memory : (request : Request) (change : Change FilesView) (text : List ℕ) → Stands request change OutOfMemory text
    → request.verb ≡ Debug
no_memory request change text h = memory_not request.verb request.operands request.options h.files text h.ends

done_not : ◌≡◌ {A = Status} Done OutOfMemory → ⊥
done_not e = cc

pub one_answer : (files : List ℕ → Option (List ℕ)) (words : List (List ℕ)) (request : Request) (text other : List ℕ)
    → command_of words ≡ Some request → IsOutcome (Some files) request Done text → IsOutcome (Some files) request Done other
    → AreOneText request.verb request.options.cores Done text other
one_answer files words request text other asked h g =
    let same =
    same_files h.files g.files (sym (accepted_fate files request [] (files_named request) h.files h.accepted)
    ∙ accepted_fate files request [] (files_named request) g.files g.accepted) in
    (one_outcome request.verb Done Done request.operands request.options g.files text other done_not done_not
    (subst (λ (fs : List (List ℕ)). outcome request fs Done text) same h.ends) g.ends).1

-- what is written where memory is wanting begins what is written where it is not
whole_of : (verb : Verb) (operands : List Argument) (options : Numbers) (files : List (List ℕ)) (text : List ℕ)
    → IsToldBy (outcomes_of verb OutOfMemory) operands options files text
    → (other : List ℕ) × IsToldBy (outcomes_of verb Done) operands options files other × HasFront other text
whole_of Debug (program ∷ report ∷ ThreadSaid thread ∷ script ∷ []) options (file ∷ bytes ∷ lines ∷ []) text h =
    debug_whole file bytes thread lines text h
whole_of verb operands options files text h = absurd h

pub front_is_written : (files : List ℕ → Option (List ℕ)) (request : Request) (text : List ℕ)
    → IsOutcome (Some files) request OutOfMemory text
    → (other : List ℕ) × IsOutcome (Some files) request Done other × HasFront other text
front_is_written files request text h =
    let whole = whole_of request.verb request.operands request.options h.files text h.ends in
    (whole.0, record { files = h.files; accepted = h.accepted; ends = whole.1 }, whole.2)

refused_same : (verb : Verb) (cores : ℕ) (s : Status) (rejection : Rejection) (text other : List ℕ) → s ≡ rejection_status rejection
    → text ≡ other → AreOneText verb cores s text other
refused_same verb cores s rejection text other e same =
    subst (λ (q : Status). AreOneText verb cores q text other) (sym e) (rejected_text verb cores rejection text other same)

module _ (known : List ℕ → Option (List ℕ)) (request : Request) (s t : Status) (text other : List ℕ) (m : s ≢ OutOfMemory)
    (n : t ≢ OutOfMemory)
  where
    one_decided : IsDecided known request s text → IsDecided known request t other
        → (s ≡ t) × AreOneText request.verb request.options.cores s text other
    one_decided (inl h) (inl g) =
        one_outcome request.verb s t request.operands request.options g.files text other m n
        (subst (λ (fs : List (List ℕ)). outcome request fs s text) (same_files h.files g.files (sym h.fate ∙ g.fate)) h.ends) g.ends
    one_decided (inr (inl h)) (inr (inl g)) =
        let named = same_missing h.named g.named (sym h.fate ∙ g.fate) in (
          h.is_status ∙ sym g.is_status,
          subst (λ (q : Status). AreOneText request.verb request.options.cores q text other) (sym h.is_status)
              (absent_text request.verb request.options.cores text other (h.is_text ∙ ap missing_line named ∙ sym g.is_text)),
        )
    one_decided (inr (inr h)) (inr (inr g)) =
        let rejection = same_refused h.named g.named h.rejection g.rejection (sym h.fate ∙ g.fate) in (
          h.is_status ∙ ap rejection_status rejection ∙ sym g.is_status,
          refused_same request.verb request.options.cores s h.rejection text other h.is_status
              (h.is_text ∙ ap rejection_line rejection ∙ sym g.is_text),
        )
    one_decided (inl h) (inr (inl g)) = absurd (accepted_missing h.files g.named (sym h.fate ∙ g.fate))
    one_decided (inl h) (inr (inr g)) = absurd (accepted_refused h.files g.named g.rejection (sym h.fate ∙ g.fate))
    one_decided (inr (inl h)) (inl g) = absurd (accepted_missing g.files h.named (sym g.fate ∙ h.fate))
    one_decided (inr (inl h)) (inr (inr g)) = absurd (missing_refused h.named g.named g.rejection (sym h.fate ∙ g.fate))
    one_decided (inr (inr h)) (inl g) = absurd (accepted_refused g.files h.named h.rejection (sym g.fate ∙ h.fate))
    one_decided (inr (inr h)) (inr (inl g)) = absurd (missing_refused g.named h.named h.rejection (sym g.fate ∙ h.fate))

pub one_ending : (files : List ℕ → Option (List ℕ)) (request : Request) (change again : Change FilesView) (s t : Status)
    (text other : List ℕ) → change.before.told ≡ Some files
    → again.before.told ≡ Some files → s ≢ ReadFault → t ≢ ReadFault → s ≢ OutOfMemory → t ≢ OutOfMemory
    → Stands request change s text → Stands request again t other → (s ≡ t) × AreOneText request.verb request.options.cores s text other
one_ending files request change again s t text other tells told read readable m n h g =
    one_decided files request s t text other m n (decided files request change tells s text read h)
    (decided files request again told t other readable g)
