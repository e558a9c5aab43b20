use Rattle.std.proofs.Common.{◌≡◌, ◌+◌, ◌++◌, ap, sym, ◌∙◌}
use Rattle.std.proofs.lemmas.Result.{on_ok_weaker}
use Rattle.elf_sections.specs.Sections.{section_of}
use Rattle.elf_sections.specs.MappingSymbols.{mapping_symbols_below, table_mapping_symbols}
use Rattle.elf_sections.specs.SymbolOrder.{last_symbol}
use Rattle.elf_sections.proofs.Tables.{good_table}
use Rattle.elf_sections.proofs.Saying.{mapping_symbols_below-next, mapping_symbols_below-other, mapping_symbols_below-repeats, same-append}
use Rattle.elf_sections.proofs.mapping_symbols.add_section.Goals as goal
use Rattle.elf_sections.proofs.mapping_symbols.add_section.Goals.{then-not-is_symbol_table-via-then-not-is_symbol_table}
use Rattle.elf_sections.proofs.mapping_symbols.add_section.Goals.{then-not-is_symbol_table-via-else-not-is_symbol_table+then-repeats_before}

pub returns-then-not-is_symbol_table : goal.returns-then-not-is_symbol_table
returns-then-not-is_symbol_table c = elim c.then-not-is_symbol_table.branch [
  | then-not-is_symbol_table-via-then-not-is_symbol_table w ↦ λ s v. c.requires.before s v
      ∙ ap (last_symbol s v) (sym (mapping_symbols_below-other c.args.file.now c.args.i
      (rw c.read_section-s.ensures at (sym c.is_symbol_table.ensures ∙ w.if-not-is_symbol_table.true))))
  | then-not-is_symbol_table-via-else-not-is_symbol_table+then-repeats_before w ↦ λ s v. c.requires.before s v
      ∙ sym (mapping_symbols_below-repeats c.args.file.now c.args.i (sym w.repeats_before.ensures ∙ w.if-repeats_before.true) s v)
]

pub add_mapping_symbols-requires-clause-good : goal.add_mapping_symbols-requires-clause-good
add_mapping_symbols-requires-clause-good c =
    rw c.read_section-s.ensures (good_table c.args.file.now c.args.i c.requires.checked
    (rw c.read_section-s.ensures at (sym c.is_symbol_table.ensures ∙ c.if-not-is_symbol_table.false)))

pub returns : goal.returns
returns c =
    let next : mapping_symbols_below c.args.file.now (c.args.i + 1) ≡ mapping_symbols_below c.args.file.now c.args.i
    ++ table_mapping_symbols c.args.file.now (section_of c.args.file.now c.args.i) =
    mapping_symbols_below-next c.args.file.now c.args.i
    (rw c.read_section-s.ensures at (sym c.is_symbol_table.ensures ∙ c.if-not-is_symbol_table.false)) in
    on_ok_weaker c.add_mapping_symbols.result (λ e s v. ap (last_symbol s v)
    (e ∙ ap (λ t. c.args.symbols.now.items ++ table_mapping_symbols c.args.file.now t) c.read_section-s.ensures)
    ∙ same-append c.args.symbols.now.items (mapping_symbols_below c.args.file.now c.args.i)
    (table_mapping_symbols c.args.file.now (section_of c.args.file.now c.args.i)) c.requires.before s v ∙ ap (last_symbol s v) (sym next))
    c.add_mapping_symbols.ensures
