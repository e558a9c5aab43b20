-- A text that grows as it is written. Source: the project's own rule.
use Rattle.std.specs.Prelude.{ℕ, List, Some}
use Rattle.edge_io.specs.Sink.{SinkView}
use Rattle.workload.specs.declared.text_sink.TextSink.{TextSink}

-- the text
abbrev pub text_of : TextSink → List ℕ
text_of sink = sink.text.items

-- it tells the text, and knows of no room, since any piece may find no memory
abbrev pub view_of : TextSink → SinkView
view_of sink = record { held = Some sink.text.items; faults = sink.faults; room = 0 }
