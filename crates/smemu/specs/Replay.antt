-- The replay of a guest thread of a report: what is written, and where the thread and its report part.
use Rattle.std.specs.Prelude.{◌≡◌, ◌⊎◌, ℕ, ◌+◌, ◌-◌, List, drop, take, nat_lt, slice_get}
use Rattle.std.specs.Prelude.{Option, Some, None, Ok, if◌then◌else◌}
use Rattle.std.specs.Str.{bytes_eq}
use Rattle.sha2.specs.Sha256.{sha256}
use Rattle.sm_types.specs.declared.config.Config.{Config}
use Rattle.sm_types.specs.declared.stop.Stop.{Stop}
use Rattle.sm_types.specs.Options.{numbers_of, version_of}
use Rattle.paged_memory.specs.Image.{Program}
use Rattle.elf_loader.specs.Loading.{Loads}
use Rattle.kernel_contexts.specs.State.{State}
use Rattle.lone_runner.specs.LoneRun.{IsLoneRun}
use Rattle.lone_runner.specs.Parting.{IsParting}
use Rattle.lone_runner.specs.declared.fault.AloneFault.{AloneFault}
use Rattle.report_reader.specs.Block.{Block}
use Rattle.line_reader.specs.Difference.{Difference, first_difference}
use Rattle.line_reader.specs.Lines.{lines_of}
use Rattle.report_reader.specs.Reading.{Fault}
use Rattle.report_reader.specs.Report.{Report, report_in}
use Rattle.report_reader.specs.declared.fault.ReportKind.TheVariants.{Image, NoThread}
use Rattle.report_text.specs.Block.{block_text}
use Rattle.command_lines.specs.ReportLines.{difference_lines, report_line}
use Rattle.report_compare.specs.DifferLines.{parting_line}

-- the line of a report that says another program's digest, or options with no thread of that number
abbrev pub mismatch : List ℕ → ℕ → Report → Option Fault
mismatch digest thread report =
    if bytes_eq report.image digest
    then (if nat_lt thread report.options.threads then None else Some (record { line = 2; kind = NoThread }))
    else Some (record { line = 3; kind = Image })

-- the block of a thread in a report, with the program and the options of which the report is
pub record IsBlockIn (file report : List ℕ) (thread : ℕ) : Type 0 where
  pub program : Program
  pub loads : Loads file program
  pub said : Report
  pub reads : report_in report ≡ Ok said
  pub matches : mismatch (sha256 file) thread said ≡ None
  pub config : Config
  pub given : numbers_of config ≡ said.options
  pub one_core : config.cores ≡ 1
  pub block : Block
  pub stands : slice_get said.blocks thread ≡ Some block

-- its text in the report
abbrev pub text_in : List ℕ → Block → List ℕ
text_in report block = take (block.end - block.start) (drop block.start report)

-- the end of the thread's run alone, over the block's journal, with the block's count
pub record EndsAsSaid (program : Program) (config : Config) (thread : ℕ) (block : Block) : Type 0 where
  pub state : State
  pub stop : Stop
  pub run : IsLoneRun program config thread block.journal state stop
  pub count : state.count ≡ block.count

-- the text of the block of a thread that ends so
abbrev pub text_of : {program : Program} {config : Config} {thread : ℕ} {block : Block}
    → EndsAsSaid program config thread block → List ℕ
text_of {config = config} {thread = thread} {block = block} end =
    block_text (version_of config) thread end.state (Some end.stop) block.journal

-- the text is the block of a thread whose run alone ends so, and stands in the report
pub record IsReplayOf (file report : List ℕ) (thread : ℕ) (text : List ℕ) : Type 0 where
  pub at : IsBlockIn file report thread
  pub end : EndsAsSaid at.program at.config thread at.block
  pub is_text : text ≡ text_of end
  pub same : text_in report at.block ≡ text

-- the thread's run parts from the block's journal and count, and the text says how
pub record IsParted (file report : List ℕ) (thread : ℕ) (text : List ℕ) : Type 0 where
  pub at : IsBlockIn file report thread
  pub fault : AloneFault
  pub parts : IsParting at.program at.config thread at.block.journal at.block.count fault
  pub is_text : text ≡ parting_line fault

-- the thread's run ends as the block says, and the text is the first line in which its block is another
pub record IsAnother (file report : List ℕ) (thread : ℕ) (text : List ℕ) : Type 0 where
  pub at : IsBlockIn file report thread
  pub end : EndsAsSaid at.program at.config thread at.block
  pub it : Difference
  pub first : first_difference 0 (lines_of (text_in report at.block)) (lines_of (text_of end)) ≡ Some it
  pub is_text : text ≡ difference_lines (at.block.first_line + it.line) it.first it.second

-- the text says where the thread and its report part
abbrev pub DiffersSo : List ℕ → List ℕ → ℕ → List ℕ → Type 0
DiffersSo file report thread text = IsParted file report thread text ⊎ IsAnother file report thread text

-- the report is not one of this program, or has no such thread
pub record IsMismatched (file report : List ℕ) (thread : ℕ) (fault : Fault) : Type 0 where
  pub program : Program
  pub loads : Loads file program
  pub said : Report
  pub reads : report_in report ≡ Ok said
  pub is_fault : mismatch (sha256 file) thread said ≡ Some fault

-- and the text is the line of that
pub record MismatchesSo (file report : List ℕ) (thread : ℕ) (text : List ℕ) : Type 0 where
  pub fault : Fault
  pub is_mismatched : IsMismatched file report thread fault
  pub is_text : text ≡ report_line fault
