use Rattle.std.proofs.Common.{sym, ◌∙◌}
use Rattle.elf_sections.proofs.Tables.{section_fault-repeats}
use Rattle.elf_sections.proofs.checks.check_section.Goals as goal

pub returns-then-repeats_before : goal.returns-then-repeats_before
returns-then-repeats_before c =
    section_fault-repeats c.args.file.now c.args.i (sym c.repeats_before.ensures ∙ c.if-repeats_before.true) c.requires.before
