-- A sink that writes to the system. Source: the project's own rule.
use Rattle.std.specs.Prelude.{ℕ, None}
use Rattle.edge_io.specs.Sink.{SinkView}
use Rattle.edge_io.specs.declared.writer_sink.WriterSink.{WriterSink}

-- the writer that it writes to
abbrev pub writer_of : {W : Type 0} → WriterSink W → W
writer_of sink = sink.writer

-- how many calls of `put` failed
abbrev pub faults_of : {W : Type 0} → WriterSink W → ℕ
faults_of sink = sink.faults

-- it tells no content, and any write may fail
abbrev pub view_of : {W : Type 0} → WriterSink W → SinkView
view_of sink = record { held = None; faults = sink.faults; room = 0 }
