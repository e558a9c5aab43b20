use Rattle.std.proofs.Common.{◌≡◌, ◌<◌, Some, arith, rules}
use Rattle.elf_headers.specs.Below.{first_below}
use Rattle.elf_headers.specs.Header.{program_header_count}
use Rattle.elf_headers.specs.Loads.{overlap_at}
use Rattle.elf_headers.proofs.Below.{first_below-none, first_below-found}
use Rattle.elf_headers.proofs.Apart.{row_begins}
use Rattle.elf_headers.proofs.overlap.check_pairs_of.Goals as goal

pub loop-j-init : goal.loop-j-init
loop-j-init c = row_begins _ _

pub returns-in_err-check_pair : goal.returns-in_err-check_pair
returns-in_err-check_pair c =
    let below : c.loop-j.j < program_header_count c.args.file.now = omega arith in
    let found : first_below (overlap_at c.args.file.now c.args.i) (program_header_count c.args.file.now)
    ≡ Some c.in_err-check_pair.field-0.0 =
    first_below-found _ _ _ _ c.loop-j.invariant c.in_err-check_pair.ensures below in
    search rules

pub loop-j-preserved : goal.loop-j-preserved
loop-j-preserved c = first_below-none _ _ c.loop-j.invariant c.in_ok-check_pair.ensures
