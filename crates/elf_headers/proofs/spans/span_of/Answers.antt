use Rattle.std.proofs.Common.{arith, sym}
use Rattle.elf_headers.proofs.Sound.{end_low}
use Rattle.elf_headers.proofs.spans.span_of.Goals as goal

pub overflow_add-result : goal.overflow_add-result
overflow_add-result c =
    omega (arith, end_low _ _ _ c.requires.accepted c.requires.below c.read_program_header-s.ensures (sym c.if-is_load.ensures))
