use Rattle.std.proofs.Common.{arith, rules, ◌<◌, ◌≡◌, Some}
use Rattle.elf_headers.specs.Below.{first_below}
use Rattle.elf_headers.specs.Header.{program_header_count}
use Rattle.elf_headers.specs.Segments.{segment_fault, segments_fault}
use Rattle.elf_headers.proofs.Below.{first_below-zero, first_below-none, first_below-found}
use Rattle.elf_headers.proofs.segments.check_segments.Goals as goal

pub loop-i-init : goal.loop-i-init
loop-i-init c = first_below-zero _

pub returns-in_err-check_segment : goal.returns-in_err-check_segment
unfolding segments_fault
returns-in_err-check_segment c =
    let below : c.loop-i.i < program_header_count c.args.file.now = omega arith in
    let found : first_below (segment_fault c.args.file.now) (program_header_count c.args.file.now) ≡ Some c.in_err-check_segment.field-0.0 =
    first_below-found _ _ _ _ c.loop-i.invariant c.in_err-check_segment.ensures below in
    search rules

pub loop-i-preserved : goal.loop-i-preserved
loop-i-preserved c = first_below-none _ _ c.loop-i.invariant c.in_ok-check_segment.ensures
