-- A sink in memory. Source: the project's own rule.
use Rattle.std.specs.Prelude.{ℕ, ◌-◌, List, length, Some, if◌then◌else◌}
use Rattle.edge_io.specs.Failing.{allowance, is_nil, next_call}
use Rattle.edge_io.specs.Sink.{SinkView}
use Rattle.edge_io.specs.declared.mem_sink.MemSink.{MemSink}

-- which calls of `put` fail, counted from 1, each with the most bytes that it appends; how many were made;
-- how many failed
pub record PutLog : Type 0 where
  pub failing : List (ℕ × ℕ)
  pub made : ℕ
  pub faults : ℕ

-- the bytes that it holds
abbrev pub text_of : MemSink → List ℕ
text_of sink = sink.held.items

-- how many bytes it has room for, those that it holds among them
abbrev pub room_of : MemSink → ℕ
room_of sink = sink.room

-- what it knows of its calls
abbrev pub log_of : MemSink → PutLog
log_of sink = record { failing = sink.failing.items; made = sink.made; faults = sink.faults }

-- the most bytes that the next call appends
abbrev pub taken_of : MemSink → ℕ
taken_of sink = allowance sink.failing.items (next_call sink.made) (sink.room - length sink.held.items)

-- the bytes for which there is room left, where no call is listed
abbrev pub room_left : MemSink → ℕ
room_left sink = (if is_nil sink.failing.items then sink.room - length sink.held.items else 0)

-- it tells the bytes that it holds, and no piece fails for which there is room, where no call is listed
abbrev pub view_of : MemSink → SinkView
view_of sink = record { held = Some sink.held.items; faults = sink.faults; room = room_left sink }
