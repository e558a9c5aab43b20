use Rattle.std.proofs.Common.{◌≡◌, None}
use Rattle.elf_headers.specs.Below.{first_below}
use Rattle.elf_sections.specs.Sections.{section_fault}
use Rattle.elf_sections.proofs.checks.check_sections.Given as goal

abbrev pub invariant-loop-i : goal.invariant-loop-i
invariant-loop-i l = first_below (section_fault l.file) l.i ≡ None
