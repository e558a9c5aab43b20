use Rattle.std.proofs.Common.{arith, sym, ◌∙◌}
use Rattle.elf_sections.proofs.Names.{ends_inside-none, ends_inside-last}
use Rattle.elf_sections.proofs.symbols.names_end.Goals as goal

pub returns-else-u8_at-ne0 : goal.returns-else-u8_at-ne0
returns-else-u8_at-ne0 c =
    λ name. ends_inside-last c.args.file.now c.args.strings.now c.loop-end.end name (omega arith) (omega arith)
    (sym c.u8_at.ensures ∙ c.if-u8_at-ne0.false) c.loop-end.invariant.none

pub returns-after-loop-end : goal.returns-after-loop-end
returns-after-loop-end c =
    λ name. ends_inside-none c.args.file.now c.args.strings.now c.loop-end.end name (omega arith) c.loop-end.invariant.none
