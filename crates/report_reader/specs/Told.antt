-- What the code's own types tell.
use Rattle.std.specs.Prelude.{◌≡◌, ◌≤◌, List, ℕ, length, map, Result, Ok, Err}
use Rattle.report_reader.specs.Reading.{Fault}
use Rattle.report_reader.specs.Block.{Block}
use Rattle.report_reader.specs.declared.parts.ReportBlock.{ReportBlock}
use Rattle.report_reader.specs.Report.{Report, SharedWords}
use Rattle.report_reader.specs.declared.fault.ReportFault.{ReportFault}
use Rattle.report_reader.specs.declared.fault.ReportFault.TheVariants as fault
use Rattle.report_reader.specs.declared.parts.Report as report
use Rattle.sm_types.specs.Options.{numbers_of}
use Rattle.sm_types.specs.declared.shared_words.Words.{Words}

-- what a block of the code says
abbrev pub block_said : ReportBlock → Block
block_said block =
    record {
      start = block.start;
      end = block.end;
      first_line = block.first_line;
      count = block.count;
      stop = block.stop;
      journal = block.journal.items;
    }

-- a block stands in a text
pub record StandsIn (text : List ℕ) (block : ReportBlock) : Type 0 where
  pub ordered : block.start ≤ block.end
  pub inside : block.end ≤ length text

-- what the words of the code say
abbrev pub words_said : Words → SharedWords
words_said words = record { shared = words.shared; pending = words.pending }

-- what a report of the code says
abbrev pub report_said : report.Report → Report
report_said it =
    record {
      options = numbers_of it.config;
      image = it.image;
      blocks = map block_said it.blocks.items;
      words = words_said it.words;
    }

-- the code answers what is so: the report, or the fault; want of memory says nothing of it
abbrev pub Answers : Result Report Fault → Result report.Report ReportFault → Type 0
Answers is (Ok it) = is ≡ Ok (report_said it)
Answers is (Err (fault.Line line kind)) = is ≡ Err (record { line = line; kind = kind })
Answers is (Err fault.Memory) = Unit {0}
