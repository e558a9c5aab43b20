use Rattle.std.proofs.Common.{length, arith}
use Rattle.sve_access.specs.Contiguous.{memory_size, element_size}
use Rattle.sve_access.proofs.Kept.{below_count}
use Rattle.sve_access.proofs.Spans.{in_memory}
use Rattle.sve_access.proofs.loads.load_known.Goals as goal

pub change_marked_or_zero-requires-clause-can : goal.change_marked_or_zero-requires-clause-can
change_marked_or_zero-requires-clause-can c = λ i room.
    let kind = c.args.kind in
    let n = length c.args.z.now in
    let below = rw c.element_size.ensures at (below_count c.element_size.result i n room) in
    let there = in_memory (element_size kind) (memory_size kind) i n below in
    let all = c.requires.bytes in
    omega (arith, there, all)
