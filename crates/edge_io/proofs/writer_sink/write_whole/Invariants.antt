use Rattle.std.proofs.Common.{◌≤◌, take, length}
use Rattle.std.specs.Io.KnownBytes.{Appends}
use Rattle.edge_io.proofs.writer_sink.write_whole.Given as goal

-- the part that is written was appended
abbrev pub invariant-loop : goal.invariant-loop
invariant-loop g l =
    record {
      within : l.written ≤ length l.bytes;
      appended : Appends (g.W.Write.contents l.initial.writer) (g.W.Write.contents l.writer) (take l.written l.bytes);
    }
