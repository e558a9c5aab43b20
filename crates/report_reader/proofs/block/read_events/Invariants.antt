use Rattle.std.proofs.Common.{◌≡◌, ◌-◌, vec_len}
use Rattle.line_reader.specs.Reading.{each}
use Rattle.report_reader.specs.Reading.{line}
use Rattle.report_reader.specs.Events.{event_line}
use Rattle.line_reader.specs.Told.{left_of}
use Rattle.report_reader.specs.declared.fault.ReportKind.TheVariants.{Journal}
use Rattle.report_reader.proofs.Readings.{onto}
use Rattle.report_reader.proofs.block.read_events.Given as goal

abbrev pub invariant-loop-k : goal.invariant-loop-k
invariant-loop-k l = record {
  read : onto l.events.items (each (λ k. line Journal event_line) (l.count - l._k) l._k (left_of l.lines))
      ≡ each (λ k. line Journal event_line) l.count 0 (left_of l.initial.lines);
  few : vec_len l.events ≡ l._k;
}
