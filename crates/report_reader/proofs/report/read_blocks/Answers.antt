use Rattle.std.proofs.Common.{◌+◌, ◌-◌, map, rules, sym, ap, ◌∙◌, arith, subst}
use Rattle.std.proofs.lemmas.List.{map_push}
use Rattle.line_reader.specs.Reading.{each}
use Rattle.report_reader.specs.Reading.{IsFault}
use Rattle.report_reader.specs.Block.{block}
use Rattle.line_reader.specs.Told.{left_of}
use Rattle.report_reader.specs.Told.{block_said}
use Rattle.report_reader.proofs.Readings.{onto, each-more, each-end, fault_of_each}
use Rattle.report_reader.proofs.report.read_blocks.Goals as goal

pub returns-in_err-block-clause-read : goal.returns-in_err-block-clause-read
returns-in_err-block-clause-read c =
    let it = c.in_err-block.field-0.0 in
    let bad : IsFault (each (block c.args.version) c.args.threads 0 (left_of c.args.lines.now)) it =
    subst (λ r. IsFault r it) c.loop-thread.invariant.read
    (fault_of_each (block c.args.version) c.args.threads c.loop-thread.thread (left_of c.loop-thread.lines) (map block_said c.loop-thread.blocks.items) it
    c.loop-thread-test.true c.in_err-block.ensures) in
    search rules

pub loop-thread-preserved : goal.loop-thread-preserved
loop-thread-preserved c =
    let k = c.loop-thread.thread + 1 in
    record {
      read =
          ap (λ blocks. onto blocks (each (block c.args.version) (c.args.threads - k) k (left_of c.read_block.new.lines)))
          (ap (map block_said) c.in_ok-push.ensures.items ∙ map_push block_said c.loop-thread.blocks.items c.in_ok-block.block)
          ∙ sym (each-more (block c.args.version) c.args.threads c.loop-thread.thread (left_of c.loop-thread.lines) (left_of c.read_block.new.lines)
          (map block_said c.loop-thread.blocks.items) (block_said c.in_ok-block.block) c.loop-thread-test.true c.in_ok-block.ensures)
          ∙ c.loop-thread.invariant.read;
      count = omega (arith, c.in_ok-push.ensures.len, c.loop-thread.invariant.count);
    }

pub returns-clause-read : goal.returns-clause-read
returns-clause-read c =
    sym c.loop-thread.invariant.read
    ∙ each-end (block c.args.version) c.args.threads c.loop-thread.thread (left_of c.loop-thread.lines) (map block_said c.loop-thread.blocks.items)
    c.loop-thread-test.false
