-- How the text that is written with a status begins.
use Rattle.std.proofs.Common.{◌≡◌, ◌≢◌, inl, inr, ℕ, ◌+◌, List, [], ◌∷◌, decimal, codes, refl, sym, subst}
use Rattle.std.specs.List.{concat}
use Rattle.sm_types.specs.declared.numbers.Numbers.{Numbers}
use Rattle.cmd_words.specs.Words.{Argument, ThreadSaid, CountSaid, Request}
use Rattle.cmd_words.specs.declared.verb.Verb.{Verb}
use Rattle.cmd_words.specs.declared.verb.Verb.TheVariants.{Replay, Debug, Ckpt, Resume, AbiCheck}
use Rattle.edge_io.specs.Files.{FilesView}
use Rattle.report_reader.specs.Reading.{Fault}
use Rattle.report_reader.specs.declared.fault.ReportKind.TheVariants.{Image}
use Rattle.text_lines.specs.Lines.{hex64}
use Rattle.command_lines.specs.CheckpointLines.{checkpoint_line}
use Rattle.command_lines.specs.declared.checkpoint_line.CheckpointFault.{CheckpointFault}
use Rattle.command_lines.specs.declared.checkpoint_line.CheckpointFault.TheVariants as checkpoints
use Rattle.command_lines.specs.LawLines.{unlawful_line}
use Rattle.command_lines.specs.VectorsLines.{vectors_line}
use Rattle.command_lines.specs.declared.vectors_line.VectorsFault.{VectorsFault}
use Rattle.command_lines.specs.declared.vectors_line.VectorsFault.TheVariants as vectors
use Rattle.command_lines.specs.FaultLines.{fault_line, fault_words}
use Rattle.plan_reader.specs.Plan as plan
use Rattle.command_lines.specs.PlanLines.{plan_line, fault_word}
use Rattle.command_lines.specs.ReportLines.{report_line, part_word, difference_lines, shown}
use Rattle.command_lines.specs.SourceLines.{source_line, source_words, line_number}
use Rattle.command_lines.specs.Texts.{HasFront, kind_word, status_words, usage_line}
use Rattle.command_lines.specs.declared.status.Status.{Status}
use Rattle.command_lines.specs.declared.status.Status.TheVariants.{Done, Usage, Absent, ReadFault, WriteFault, OutOfMemory, BadReport}
use Rattle.command_lines.specs.declared.status.Status.TheVariants.{Differs}
use Rattle.command_lines.specs.declared.status.Status.TheVariants.{BadPlan, BadCheckpoint, Unlawful, BadVectors}
use Rattle.smemu.specs.Answers.{IsToldBy, outcomes_of}
use Rattle.smemu.specs.Checks as checks
use Rattle.smemu.specs.Checks.{IsUnlawfulOf}
use Rattle.report_compare.specs.DifferLines.{parting_line, parting_words}
use Rattle.smemu.specs.Ends.{Change, Defined, Stands}
use Rattle.smemu.specs.Rejections.{rejection_line, rejection_status}
use Rattle.lone_runner.specs.declared.fault.AloneFault.{AloneFault}
use Rattle.smemu.specs.Replay.{DiffersSo}
use Rattle.smemu.specs.Resume.{RestDiffers}
use Rattle.smemu.specs.declared.rejection.Rejection.{Rejection}
use Rattle.smemu.specs.declared.rejection.Rejection.TheVariants as rejection

report_begun : (fault : Fault) (text : List ℕ) → text ≡ report_line fault → HasFront text (status_words BadReport)
unfolding report_line
report_begun fault text e = (concat (decimal fault.line ∷ codes ": " ∷ part_word fault.kind ∷ codes "\n" ∷ []), e)

plan_begun : (fault : plan.Fault) (text : List ℕ) → text ≡ plan_line fault → HasFront text (status_words BadPlan)
unfolding plan_line
plan_begun fault text e = (concat (decimal fault.line ∷ codes ": " ∷ fault_word fault.kind ∷ codes "\n" ∷ []), e)

vectors_begun : (fault : VectorsFault) (text : List ℕ) → text ≡ vectors_line fault → HasFront text (status_words BadVectors)
unfolding vectors_line
vectors_begun vectors.TooLong text e = (codes "toolong\n", e)
vectors_begun (vectors.Line line) text e = (concat (codes "line " ∷ decimal line ∷ codes "\n" ∷ []), e)

checkpoint_begun : (fault : CheckpointFault) (text : List ℕ) → text ≡ checkpoint_line fault
    → HasFront text (status_words BadCheckpoint)
unfolding checkpoint_line
checkpoint_begun checkpoints.TooLong text e = (codes "toolong\n", e)
checkpoint_begun (checkpoints.Field offset) text e = (concat (codes "field " ∷ decimal offset ∷ codes "\n" ∷ []), e)
checkpoint_begun (checkpoints.Count count) text e = (concat (codes "count " ∷ decimal count ∷ codes "\n" ∷ []), e)

parting_begun : (fault : AloneFault) (text : List ℕ) → text ≡ parting_line fault → HasFront text (status_words Differs)
unfolding parting_line
parting_begun fault text e = (concat (parting_words fault ∷ codes "\n" ∷ []), e)

rest_begun : (file report bytes text : List ℕ) → RestDiffers file report bytes text → HasFront text (status_words Differs)
unfolding difference_lines
rest_begun file report bytes text (inl h) = parting_begun h.fault text h.is_text
rest_begun file report bytes text (inr h) = (
  concat (codes "line " ∷ decimal
      (h.rest.at.block.first_line + h.it.line) ∷ codes "\n" ∷ shown h.it.first ∷ shown h.it.second ∷ []),
  h.is_text,
)

unlawful_begun : (file report : List ℕ) (thread : ℕ) (text : List ℕ) → IsUnlawfulOf file report thread text
    → HasFront text (status_words Unlawful)
unfolding unlawful_line
unlawful_begun file report thread text h =
    (concat (decimal h.count ∷ codes " pc " ∷ hex64 h.pc ∷ codes " " ∷ checks.kind_word h.kind ∷ codes "\n" ∷ []), h.is_text)

rejection_begun : (rejection : Rejection) (text : List ℕ) → text ≡ rejection_line rejection
    → HasFront text (status_words (rejection_status rejection))
unfolding fault_line source_line
rejection_begun (rejection.Program fault) text e = (concat (fault_words fault ∷ codes "\n" ∷ []), e)
rejection_begun (rejection.Source fault) text e =
    (concat (decimal (line_number fault) ∷ codes ": " ∷ source_words fault ∷ codes "\n" ∷ []), e)
rejection_begun (rejection.Report line kind) text e = report_begun (record { line = line; kind = kind }) text e
rejection_begun (rejection.Plan line kind) text e = plan_begun (record { line = line; kind = kind }) text e
rejection_begun (rejection.Checkpoint fault) text e = checkpoint_begun fault text e
rejection_begun (rejection.Vectors fault) text e = vectors_begun fault text e

so_begun : (file report : List ℕ) (thread : ℕ) (text : List ℕ) → DiffersSo file report thread text → HasFront text (status_words Differs)
unfolding parting_line difference_lines
so_begun file report thread text (inl h) = (concat (parting_words h.fault ∷ codes "\n" ∷ []), h.is_text)
so_begun file report thread text (inr h) = (
  concat (codes "line " ∷ decimal
      (h.at.block.first_line + h.it.line) ∷ codes "\n" ∷ shown h.it.first ∷ shown h.it.second ∷ []),
  h.is_text,
)

outcome_begun : (verb : Verb) (s : Status) (operands : List Argument) (options : Numbers) (files : List (List ℕ)) (text : List ℕ) → s ≢ Done
    → s ≢ OutOfMemory → IsToldBy (outcomes_of verb s) operands options files text → HasFront text (status_words s)
outcome_begun Replay BadReport (program ∷ report ∷ ThreadSaid thread ∷ []) options (file ∷ bytes ∷ []) text other some h =
    report_begun h.fault text h.is_text
outcome_begun Replay Differs (program ∷ report ∷ ThreadSaid thread ∷ []) options (file ∷ bytes ∷ []) text other some h =
    so_begun file bytes thread text h
outcome_begun Debug BadReport (program ∷ report ∷ ThreadSaid thread ∷ script ∷ []) options (file ∷ bytes ∷ lines ∷ [])
    text other some h =
    report_begun h.fault text h.is_text
outcome_begun Debug Differs (program ∷ report ∷ ThreadSaid thread ∷ script ∷ []) options (file ∷ bytes ∷ lines ∷ [])
    text other some h =
    so_begun file bytes thread text (inl h)
outcome_begun Ckpt BadReport (program ∷ report ∷ ThreadSaid thread ∷ CountSaid count ∷ []) options (file ∷ bytes ∷ [])
    text other some h =
    report_begun h.fault text h.is_text
outcome_begun Ckpt BadCheckpoint (program ∷ report ∷ ThreadSaid thread ∷ CountSaid count ∷ []) options (file ∷ bytes ∷ [])
    text other some h =
    checkpoint_begun (checkpoints.Count h.at.block.count) text h.is_text
outcome_begun Ckpt Differs (program ∷ report ∷ ThreadSaid thread ∷ CountSaid count ∷ []) options (file ∷ bytes ∷ [])
    text other some h =
    parting_begun h.fault text h.is_text
outcome_begun Resume BadReport operands options (file ∷ bytes ∷ checkpoint ∷ []) text other some h =
    report_begun (record { line = 3; kind = Image }) text h.is_text
outcome_begun Resume Differs operands options (file ∷ bytes ∷ checkpoint ∷ []) text other some h =
    rest_begun file bytes checkpoint text h
outcome_begun AbiCheck BadReport (program ∷ report ∷ ThreadSaid thread ∷ []) options (file ∷ bytes ∷ []) text other some h =
    report_begun h.fault text h.is_text
outcome_begun AbiCheck Differs (program ∷ report ∷ ThreadSaid thread ∷ []) options (file ∷ bytes ∷ []) text other some h =
    so_begun file bytes thread text (inl h)
outcome_begun AbiCheck Unlawful (program ∷ report ∷ ThreadSaid thread ∷ []) options (file ∷ bytes ∷ []) text other some h =
    unlawful_begun file bytes thread text h
outcome_begun verb Done operands options files text other some h = absurd (other refl)
outcome_begun verb OutOfMemory operands options files text other some h = absurd (some refl)
outcome_begun verb s operands options files text other some h = absurd h

stands_begun : (request : Request) (files : Change FilesView) (s : Status) (text : List ℕ) → s ≢ Done → s ≢ OutOfMemory
    → Stands request files s text → HasFront text (status_words s)
stands_begun request files Done text other some h = absurd (other refl)
stands_begun request files Usage text other some h = absurd h
stands_begun request files WriteFault text other some h = absurd h
stands_begun request files Absent text other some h = (concat (h.named.name ∷ codes "\n" ∷ []), h.is_text)
stands_begun request files ReadFault text other some h = (concat (h.named.name ∷ codes "\n" ∷ []), h.is_text)
stands_begun request files OutOfMemory text other some h = absurd (some refl)
stands_begun request files s text other some (inl h) =
    subst (λ (q : Status). HasFront text (status_words q)) (sym h.is_status) (rejection_begun h.rejection text h.is_text)
stands_begun request files s text other some (inr h) =
    outcome_begun request.verb s request.operands request.options h.files text other some h.ends

pub has_begun : (words : List (List ℕ)) (files : Change FilesView) (status : Status) (text : List ℕ) → status ≢ Done
    → status ≢ OutOfMemory → Defined words files status text → HasFront text (status_words status)
unfolding usage_line
has_begun words files Usage text other some h =
    (concat (decimal h.fault.place ∷ codes ": " ∷ kind_word h.fault.kind ∷ codes "\n" ∷ []), h.is_text)
has_begun words files s text other some h = stands_begun h.request files s text other some h.stands
