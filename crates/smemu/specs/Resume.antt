-- The rest of the run of a thread of a report, from a checkpoint: what is written of it.
use Rattle.std.specs.Prelude.{◌≡◌, ◌⊎◌, ℕ, ◌+◌, false, List, drop, Some, Ok}
use Rattle.std.specs.Str.{bytes_eq}
use Rattle.sha2.specs.Sha256.{sha256}
use Rattle.sm_types.specs.declared.shared_op.Event.{Event}
use Rattle.sm_types.specs.Options.{version_of}
use Rattle.paged_memory.specs.Image.{Program}
use Rattle.elf_loader.specs.Loading.{Loads}
use Rattle.kernel_contexts.specs.State.{State}
use Rattle.lone_runner.specs.Rest.{EndsFrom, IsPartingFrom}
use Rattle.lone_runner.specs.declared.fault.AloneFault.{AloneFault}
use Rattle.ckpt_file.specs.Checkpoint.{ReadsCheckpoint}
use Rattle.line_reader.specs.Difference.{Difference, first_difference}
use Rattle.line_reader.specs.Lines.{lines_of}
use Rattle.report_reader.specs.Report.{Report, report_in}
use Rattle.report_reader.specs.declared.fault.ReportKind.TheVariants.{Image}
use Rattle.report_text.specs.Block.{block_text}
use Rattle.command_lines.specs.ReportLines.{difference_lines, report_line}
use Rattle.report_compare.specs.DifferLines.{parting_line}
use Rattle.smemu.specs.Replay.{IsBlockIn, text_in}

-- a checkpoint of a thread of a report: the block of the thread, and the state and the events used by then
pub record IsRestIn (file report checkpoint : List ℕ) : Type 0 where
  pub thread : ℕ
  pub at : IsBlockIn file report thread
  pub from : State
  pub used : ℕ
  pub reads : ReadsCheckpoint checkpoint at.said from thread used

-- the events of the journal from there on
abbrev pub rest_of : {file report checkpoint : List ℕ} → IsRestIn file report checkpoint → List Event
rest_of r = drop r.used r.at.block.journal

-- the run from there ends with exactly these events, at the count of the block
abbrev pub RestEnds : {file report checkpoint : List ℕ} → IsRestIn file report checkpoint → Type 0
RestEnds r = EndsFrom r.at.config r.thread r.from r.used (rest_of r) r.at.block.count

-- the text of the block of a thread that ends so
abbrev pub rest_text : {file report checkpoint : List ℕ} (r : IsRestIn file report checkpoint) → RestEnds r
    → List ℕ
rest_text r end =
    block_text (version_of r.at.config) r.thread end.state (Some end.stop) r.at.block.journal

-- the text is the block of a thread that ends so from a checkpoint, and stands in the report
pub record IsResumeOf (file report checkpoint text : List ℕ) : Type 0 where
  pub rest : IsRestIn file report checkpoint
  pub end : RestEnds rest
  pub is_text : text ≡ rest_text rest end
  pub same : text_in report rest.at.block ≡ text

-- the run from there parts from these events and the count, and the text says how
pub record IsRestParted (file report checkpoint text : List ℕ) : Type 0 where
  pub rest : IsRestIn file report checkpoint
  pub fault : AloneFault
  pub parts : IsPartingFrom rest.at.config rest.thread rest.from rest.used (rest_of rest)
      rest.at.block.count fault
  pub is_text : text ≡ parting_line fault

-- the run from there ends as the block says, and the text is the first line in which its block is another
pub record IsRestAnother (file report checkpoint text : List ℕ) : Type 0 where
  pub rest : IsRestIn file report checkpoint
  pub end : RestEnds rest
  pub it : Difference
  pub first : first_difference 0 (lines_of (text_in report rest.at.block)) (lines_of (rest_text rest end))
      ≡ Some it
  pub is_text : text ≡ difference_lines (rest.at.block.first_line + it.line) it.first it.second

-- the text says where the rest of the run and the report part
abbrev pub RestDiffers : List ℕ → List ℕ → List ℕ → List ℕ → Type 0
RestDiffers file report checkpoint text =
    IsRestParted file report checkpoint text ⊎ IsRestAnother file report checkpoint text

-- the report is one of another program, and the text says so
pub record IsOtherProgram (file report checkpoint text : List ℕ) : Type 0 where
  pub program : Program
  pub loads : Loads file program
  pub said : Report
  pub reads : report_in report ≡ Ok said
  pub other : bytes_eq said.image (sha256 file) ≡ false
  pub is_text : text ≡ report_line (record { line = 3; kind = Image })
