use Rattle.std.proofs.Common.{true, ◌≡◌, ◌∙◌, sym, Some, None, rules}
use Rattle.elf_sections.specs.Sections.{has_sections, sections_fault}
use Rattle.elf_sections.proofs.Faults.{no_sections, no_code, table_refused, section_refused, all_code}
use Rattle.elf_sections.proofs.Loaded.{sound_loads}
use Rattle.elf_sections.proofs.code.read_code.Goals as goal

pub returns-then-not-has_section_table-clause-accepted : goal.returns-then-not-has_section_table-clause-accepted
returns-then-not-has_section_table-clause-accepted c =
    no_sections c.args.file.now (sym c.has_section_table.ensures ∙ c.if-not-has_section_table.true)

pub returns-then-not-has_section_table-clause-code : goal.returns-then-not-has_section_table-clause-code
returns-then-not-has_section_table-clause-code c =
    c.new.ensures.items ∙ no_code c.args.file.now (sym c.has_section_table.ensures ∙ c.if-not-has_section_table.true)

pub returns-in_err-check_section_table-clause-refused : goal.returns-in_err-check_section_table-clause-refused
returns-in_err-check_section_table-clause-refused c =
    let there : has_sections c.args.file.now ≡ true = sym c.has_section_table.ensures ∙ c.if-not-has_section_table.false in
    let refused : sections_fault c.args.file.now ≡ Some c.in_err-check_section_table.field-0.0 =
    table_refused c.args.file.now c.in_err-check_section_table.field-0.0 there c.in_err-check_section_table.ensures.tells in
    search rules

pub new-requires-2 : goal.new-requires-2
new-requires-2 c = sound_loads c.args.file.now c.args.loads.now c.requires.sound

pub returns-in_err-check_sections-clause-refused : goal.returns-in_err-check_sections-clause-refused
returns-in_err-check_sections-clause-refused c =
    let there : has_sections c.args.file.now ≡ true = sym c.has_section_table.ensures ∙ c.if-not-has_section_table.false in
    let refused : sections_fault c.args.file.now ≡ Some c.in_err-check_sections.field-0.0 =
    section_refused c.args.file.now (Some c.in_err-check_sections.field-0.0) there c.in_ok-check_section_table.ensures.tells
    c.in_err-check_sections.ensures in
    search rules

pub returns-clause-accepted : goal.returns-clause-accepted
returns-clause-accepted c =
    section_refused c.args.file.now None (sym c.has_section_table.ensures ∙ c.if-not-has_section_table.false)
    c.in_ok-check_section_table.ensures.tells c.in_ok-check_sections.ensures

pub returns-clause-code : goal.returns-clause-code
returns-clause-code c =
    c.in_ok-code.ensures ∙ all_code c.args.file.now (sym c.has_section_table.ensures ∙ c.if-not-has_section_table.false)
