use Rattle.std.proofs.Common.{arith, rules, ◌<◌, ◌≡◌, Some}
use Rattle.elf_headers.specs.Below.{first_below}
use Rattle.elf_sections.specs.Sections.{section_fault, section_count}
use Rattle.elf_headers.proofs.Below.{first_below-zero, first_below-none, first_below-found}
use Rattle.elf_sections.proofs.checks.check_sections.Goals as goal

pub loop-i-init : goal.loop-i-init
loop-i-init c = first_below-zero _

pub returns-in_err-check_section : goal.returns-in_err-check_section
returns-in_err-check_section c =
    let count : c.loop-i.i < section_count c.args.file.now = omega (arith, c.count_sections-i-end.ensures) in
    let found : first_below (section_fault c.args.file.now) (section_count c.args.file.now) ≡ Some c.in_err-check_section.field-0.0 =
    first_below-found _ _ _ _ c.loop-i.invariant c.in_err-check_section.ensures count in
    search rules

pub loop-i-preserved : goal.loop-i-preserved
loop-i-preserved c = first_below-none _ _ c.loop-i.invariant c.in_ok-check_section.ensures
