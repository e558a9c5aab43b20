-- The fault of a file that is no report: the first line that is not in the format, by all files that begin
-- with the same lines. Source: docs/REPORT.md.
use Rattle.std.specs.Prelude.{◌≡◌, ◌⊎◌, ℕ, ◌-◌, ◌<◌, ◌≤◌, List, length, take, Err}
use Rattle.line_reader.specs.Lines.{lines_of}
use Rattle.report_reader.specs.Grammar.{IsReportOf}
use Rattle.report_reader.specs.Reading.{Fault}
use Rattle.report_reader.specs.Report.{Report, report_in}
use Rattle.report_reader.specs.declared.fault.ReportKind.TheVariants.{TooLong}

-- a file has not too many bytes, and its first lines, so many, are those of another
pub record BeginsAlike (count : ℕ) (bytes other : List ℕ) : Type 0 where
  pub size : length other ≤ 1073741824
  pub lines : take count (lines_of bytes) ≡ take count (lines_of other)

-- the fault of a file with too many bytes, which is at no line
pub record IsTooLong (bytes : List ℕ) (fault : Fault) : Type 0 where
  pub exceeds : 1073741824 < length bytes
  pub number : fault.line ≡ 0
  pub wrong : fault.kind ≡ TooLong

-- the fault of a file that has not too many: no report in the format begins with the lines up to it, and
-- each file that does has this fault, whatever follows; none that begins with the lines before it has a fault
-- at one of these
pub record IsFirstFault (bytes : List ℕ) (fault : Fault) : Type 0 where
  pub size : length bytes ≤ 1073741824
  pub number : 0 < fault.line
  pub whole : (other : List ℕ) → BeginsAlike fault.line bytes other → report_in other ≡ Err fault
  pub none : (other : List ℕ) (report : Report) → BeginsAlike fault.line bytes other
      → IsReportOf other report → ⊥
  pub first : (other : List ℕ) (its : Fault) → BeginsAlike (fault.line - 1) bytes other
      → report_in other ≡ Err its → fault.line ≤ its.line

-- the fault of a file that is no report, or is too long
abbrev pub IsFaultOf : List ℕ → Fault → Type 0
IsFaultOf bytes fault = IsTooLong bytes fault ⊎ IsFirstFault bytes fault
