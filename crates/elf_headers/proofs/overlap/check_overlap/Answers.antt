use Rattle.std.proofs.Common.{◌≡◌, ◌<◌, Some, arith, rules}
use Rattle.elf_headers.specs.Below.{first_below}
use Rattle.elf_headers.specs.Header.{program_header_count}
use Rattle.elf_headers.specs.Loads.{overlap_at, overlap_fault}
use Rattle.elf_headers.proofs.Below.{first_below-none, first_below-found}
use Rattle.elf_headers.proofs.Apart.{rows_clear}
use Rattle.elf_headers.proofs.overlap.check_overlap.Goals as goal

pub loop-i-init : goal.loop-i-init
loop-i-init c = rows_clear c.args.file.now c.args.spans.now _ c.requires.all c.least_overlapping-i.ensures.clear (omega arith)

pub returns-in_err-check_pairs_of : goal.returns-in_err-check_pairs_of
unfolding overlap_fault
returns-in_err-check_pairs_of c =
    let below : c.loop-i.i < program_header_count c.args.file.now = omega arith in
    let found : first_below (λ i. first_below (overlap_at c.args.file.now i) (program_header_count c.args.file.now))
    (program_header_count c.args.file.now) ≡ Some c.in_err-check_pairs_of.field-0.0 =
    first_below-found _ _ _ _ c.loop-i.invariant c.in_err-check_pairs_of.ensures below in
    search rules

pub loop-i-preserved : goal.loop-i-preserved
loop-i-preserved c = first_below-none _ _ c.loop-i.invariant c.in_ok-check_pairs_of.ensures
