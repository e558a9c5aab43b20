-- What the sinks of a replay hold.
use Rattle.std.specs.Prelude.{ℕ, List, Some, take}
use Rattle.edge_io.specs.Sink.{SinkView}
use Rattle.report_compare.specs.declared.compare.Comparison.{Comparison}
use Rattle.report_compare.specs.declared.compare.Kept.{Kept}

-- what came of a text that is compared
abbrev pub came : Comparison → List ℕ
came c = take c.same c.expected.now

-- no piece is promised to be taken
abbrev pub comparison_view : Comparison → SinkView
comparison_view c = record { held = Some (came c); faults = c.faults; room = 0 }

abbrev pub kept_view : Kept → SinkView
kept_view k = record { held = Some k.text.items; faults = k.faults; room = 0 }
