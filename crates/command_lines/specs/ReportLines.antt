-- The line of the fault for which a report is refused, and the lines that say in which line a report and a
-- replay differ.
use Rattle.std.specs.Prelude.{ℕ, [], ◌∷◌, List, decimal, codes}
use Rattle.std.specs.List.{concat}
use Rattle.report_reader.specs.Reading.{Fault}
use Rattle.report_reader.specs.declared.fault.ReportKind.{ReportKind}
use Rattle.report_reader.specs.declared.fault.ReportKind.TheVariants as part

-- the part of a report to which a line should belong, or what else is wrong with it
abbrev pub part_word : ReportKind → List ℕ
part_word part.TooLong = codes "toolong"
part_word part.NotText = codes "nottext"
part_word part.Header = codes "header"
part_word part.Options = codes "options"
part_word part.Image = codes "image"
part_word part.Block = codes "block"
part_word part.Journal = codes "journal"
part_word part.Shared = codes "shared"
part_word part.End = codes "end"
part_word part.NoThread = codes "nothread"

-- the line that is written for a fault of a report
unfoldable pub report_line : Fault → List ℕ
report_line fault =
    concat (codes "bad report: line " ∷ decimal fault.line ∷ codes ": " ∷ part_word fault.kind ∷ codes "\n" ∷
    [])

-- a line with the line feed that ends it; one that is not there is empty
abbrev pub shown : List ℕ → List ℕ
shown [] = codes "\n"
shown (b ∷ bs) = b ∷ bs

-- the lines that are written where a line of the report is another in the replay: its number in the report,
-- and the two lines
unfoldable pub difference_lines : ℕ → List ℕ → List ℕ → List ℕ
difference_lines line report replay =
    concat (codes "differs: line " ∷ decimal line ∷ codes "\n" ∷ shown report ∷ shown replay ∷ [])
