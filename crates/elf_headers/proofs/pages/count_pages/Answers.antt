use Rattle.std.proofs.Common.{arith}
use Rattle.elf_headers.proofs.Counting.{no_span, counted_none, counted_more, counted_all}
use Rattle.elf_headers.proofs.pages.count_pages.Goals as goal

pub loop-span-init : goal.loop-span-init
loop-span-init c = counted_none c.args.spans.now

pub loop-span-preserved : goal.loop-span-preserved
loop-span-preserved c =
    rw (c.saturating_sub-count.ensures, c.max.ensures, c.max-next.ensures, c.from.ensures, c.from-in-loop-span.ensures)
    (counted_more c.args.spans.now c.loop-span.span-index c.loop-span.next c.loop-span.count c.requires.sorted c.loop-span-test.true
    (c.requires.low c.loop-span.span-index no_span c.loop-span-test.true) c.loop-span.invariant)

pub returns-clause-count : goal.returns-clause-count
returns-clause-count c =
    counted_all c.args.spans.now c.loop-span.span-index c.loop-span.next c.loop-span.count (omega arith) c.loop-span.invariant
