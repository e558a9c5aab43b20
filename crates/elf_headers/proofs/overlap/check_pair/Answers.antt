use Rattle.std.proofs.Common.{◌<◌, arith, sym}
use Rattle.elf_headers.specs.Header.{program_header_count}
use Rattle.elf_headers.proofs.Sound.{end_low}
use Rattle.elf_headers.proofs.overlap.check_pair.Goals as goal

pub shares-requires-clause-own : goal.shares-requires-clause-own
shares-requires-clause-own c =
    let below : c.args.i < program_header_count c.args.file.now = omega arith in
    omega (arith, end_low _ _ _ c.requires.accepted below c.read_program_header-one.ensures (sym c.if-is_load.ensures))

pub shares-requires-clause-others : goal.shares-requires-clause-others
shares-requires-clause-others c =
    omega (arith, end_low _ _ _ c.requires.accepted c.requires.below c.read_program_header-other.ensures (sym c.if-is_load-2.ensures))
