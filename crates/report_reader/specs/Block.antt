-- The block of a guest thread in a report, line by line. Source: docs/REPORT.md.
use Rattle.std.specs.Prelude.{ℕ, zero, suc, ◌+◌, ◌-◌, ◌/◌, min, List, [], ◌∷◌, codes, if◌then◌else◌}
use Rattle.std.specs.Str.{bytes_eq}
use Rattle.sm_types.specs.declared.shared_op.Event.{Event}
use Rattle.sm_types.specs.declared.stop.Stop.{Stop}
use Rattle.sm_types.specs.declared.version.Version.{Version}
use Rattle.line_reader.specs.Lines.{begins_with}
use Rattle.report_reader.specs.Forms.{is_line}
use Rattle.report_reader.specs.Stops.{stop_line}
use Rattle.report_reader.specs.Events.{number_line, is_thread, out_line, event_line}
use Rattle.line_reader.specs.Reading.{◌>>=◌, give, here, said_if, any_lines}
use Rattle.report_reader.specs.Reading.{Reading, line, line_by}
use Rattle.line_reader.specs.Reading.{maybe_line, each}
use Rattle.report_reader.specs.declared.fault.ReportKind.{ReportKind}
use Rattle.report_reader.specs.declared.fault.ReportKind.TheVariants as part
use Rattle.text_lines.specs.Forms.{often_of, state_lines}
use Rattle.text_lines.specs.declared.forms.LineKind.{LineKind}
use Rattle.text_lines.specs.declared.forms.Often.{Often}
use Rattle.text_lines.specs.declared.forms.Often.TheVariants.{Once, AtMostOnce, AnyTimes}
use Rattle.report_reader.specs.declared.block.Head.{Head}

-- one line of a block, of that kind
abbrev pub one : LineKind → Reading (Unit {0})
one kind = line part.Block (λ text. said_if (is_line kind text))

-- as many lines of that kind as come next
abbrev pub any : LineKind → Reading (Unit {0})
any kind = any_lines (is_line kind)

-- lines of that kind, so often
abbrev pub together : Often → LineKind → Reading (Unit {0})
together Once kind = one kind
together AtMostOnce kind = maybe_line (is_line kind)
together AnyTimes kind = any kind

-- lines of those kinds, each as often as it stands
unfoldable pub lines_of_kinds : List LineKind → Reading (Unit {0})
lines_of_kinds [] = give tt
lines_of_kinds (kind ∷ kinds) = do
  _ ← together (often_of kind) kind
  lines_of_kinds kinds

-- the thread, its stop, and the instructions that it executed
unfoldable pub head : ℕ → Reading Head
head thread = do
  _ ← line part.Block (λ text. said_if (is_thread thread text))
  stop ← line part.Block stop_line
  count ← line part.Block (number_line (codes "count"))
  give (record { stop = stop; count = count })

-- so many lines of output, with so many bytes: 32 in each, and in the last the rest
unfoldable pub out_lines : ℕ → ℕ → Reading (Unit {0})
out_lines zero size = give tt
out_lines (suc n) size = do
  _ ← line part.Block (out_line (min size 32))
  out_lines n (size - 32)

-- what the thread has written: how many bytes, and they themselves
unfoldable pub output : Reading (Unit {0})
output = do
  size ← line part.Block (number_line (codes "output"))
  out_lines ((size + 31) / 32) size

-- where the block should end, another event belongs to the journal
unfoldable pub part_at_end : List ℕ → ReportKind
part_at_end text = if begins_with (codes "e") text then part.Journal else part.Block

-- so many events
unfoldable pub events : ℕ → Reading (List Event)
events count = each (λ k. line part.Journal event_line) count 0

-- how many events, they themselves, and the end of the block
unfoldable pub journal : Reading (List Event)
journal = do
  count ← line part.Journal (number_line (codes "journal"))
  events ← events count
  _ ← line_by part_at_end (λ text. bytes_eq text (codes "end-thread\n"))
  give events

-- a block: the places of its first byte and of the byte past its last one, the number of its first line,
-- counted from 1, and what it says
pub record Block : Type 0 where
  pub start : ℕ
  pub end : ℕ
  pub first_line : ℕ
  pub count : ℕ
  pub stop : Stop
  pub journal : List Event

-- the block of that thread, in a version of the report
unfoldable pub block : Version → ℕ → Reading Block
block version thread = do
  from ← here
  head ← head thread
  _ ← lines_of_kinds (state_lines version)
  _ ← output
  events ← journal
  to ← here
  give (record {
    start = from.place;
    end = to.place;
    first_line = from.line + 1;
    count = head.count;
    stop = head.stop;
    journal = events;
  })
