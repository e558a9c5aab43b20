-- A report as a whole, line by line. Source: docs/REPORT.md.
use Rattle.std.specs.Prelude.{ℕ, ◌||◌, nat_lt, List, [], ◌∷◌, length, replicate, codes, Result, Ok, Err}
use Rattle.std.specs.Prelude.{is_some, slice_set, if◌then◌else◌}
use Rattle.std.specs.Str.{bytes_eq}
use Rattle.line_reader.specs.Lines.{lines_of, begins_with}
use Rattle.sm_types.specs.declared.numbers.Numbers.{Numbers}
use Rattle.report_reader.specs.Header.{version_line, options_line, image_line}
use Rattle.report_reader.specs.Events.{setting_line}
use Rattle.line_reader.specs.Reading as reading
use Rattle.line_reader.specs.Reading.{Left, ◌>>=◌, give, said_if, first_said, past_all, each}
use Rattle.report_reader.specs.Reading.{Fault, Reading, line, line_by}
use Rattle.report_reader.specs.Block.{Block, block}
use Rattle.report_reader.specs.declared.events.Setting.{Setting}
use Rattle.report_reader.specs.declared.fault.ReportKind.{ReportKind}
use Rattle.report_reader.specs.declared.fault.ReportKind.TheVariants as part

-- words with those values at their places, the last where a place is named twice
abbrev pub with_settings : List ℕ → List Setting → List ℕ
with_settings words [] = words
with_settings words (setting ∷ settings) =
    with_settings (slice_set words setting.place setting.value) settings

-- as many lines of words of that name as come next, and the words with their values
unfoldable pub word_lines : List ℕ → List ℕ → Reading (List ℕ)
word_lines name words left =
    let says = setting_line name (length words) in
    Ok (with_settings words (first_said says left.lines), past_all (λ text. is_some (says text)) left)

-- where the report should end, a line of a word belongs to the shared words
unfoldable pub part_at_end : List ℕ → ReportKind
part_at_end text =
    if begins_with (codes "w") text || begins_with (codes "pending") text then part.Shared else part.End

-- 512 shared words, and the pending signals of 32 threads
pub record SharedWords : Type 0 where
  pub shared : List ℕ
  pub pending : List ℕ

-- the words that lines give, all others being zero, and the end of the report
unfoldable pub shared_words : Reading SharedWords
shared_words = do
  _ ← line part.Shared (λ text. said_if (bytes_eq text (codes "shared\n")))
  shared ← word_lines (codes "w") (replicate 512 0)
  pending ← word_lines (codes "pending") (replicate 32 0)
  _ ← line_by part_at_end (λ text. bytes_eq text (codes "end\n"))
  give (record { shared = shared; pending = pending })

-- a report
pub record Report : Type 0 where
  pub options : Numbers
  pub image : List ℕ
  pub blocks : List Block
  pub words : SharedWords

-- no line is left
abbrev pub nothing : Reading (Unit {0})
nothing left = reading.nothing part.NotText part.End left

-- the version, the options, the program's digest, a block for each thread by its number, and the words
unfoldable pub report_lines : Reading Report
report_lines = do
  version ← line part.Header version_line
  options ← line part.Options (options_line version)
  image ← line part.Image image_line
  blocks ← each (block version) options.threads 0
  words ← shared_words
  _ ← nothing
  give (record { options = options; image = image; blocks = blocks; words = words })

-- all lines of a text
abbrev pub all_lines : List ℕ → Left
all_lines text = record { line = 0; place = 0; lines = lines_of text }

-- what was read, without what is left
abbrev pub outcome : {A : Type 0} → Result (A × Left) Fault → Result A Fault
outcome (Ok read) = Ok read.0
outcome (Err fault) = Err fault

-- the report that a file is, or its first line that is not in the format; a file that is too long is
-- refused at line 0
unfoldable pub report_in : List ℕ → Result Report Fault
report_in text =
    if nat_lt 1073741824 (length text) then Err (record { line = 0; kind = part.TooLong })
    else outcome (report_lines (all_lines text))
