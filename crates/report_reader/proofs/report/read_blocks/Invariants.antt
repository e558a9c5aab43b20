use Rattle.std.proofs.Common.{◌≡◌, ◌-◌, map, vec_len}
use Rattle.line_reader.specs.Reading.{each}
use Rattle.report_reader.specs.Block.{block}
use Rattle.line_reader.specs.Told.{left_of}
use Rattle.report_reader.specs.Told.{block_said}
use Rattle.report_reader.proofs.Readings.{onto}
use Rattle.report_reader.proofs.report.read_blocks.Given as goal

abbrev pub invariant-loop-thread : goal.invariant-loop-thread
invariant-loop-thread l = record {
  read : onto (map block_said l.blocks.items) (each (block l.version) (l.threads - l.thread) l.thread (left_of l.lines))
      ≡ each (block l.version) l.threads 0 (left_of l.initial.lines);
  count : vec_len l.blocks ≡ l.thread;
}
