use Rattle.std.proofs.Common.{ap, ◌∙◌, arith}
use Rattle.elf_sections.specs.Sections.{strings_of, symbol_offset}
use Rattle.elf_sections.specs.MappingSymbols.{mapping_symbol_at}
use Rattle.elf_sections.proofs.AnswersBelow.{answered_none, answered_more}
use Rattle.elf_sections.proofs.Tables.{table_parts, name_inside, symbol_inside}
use Rattle.elf_sections.proofs.mapping_symbols.add_mapping_symbols.Goals as goal

pub read_section-strings-requires-clause-number : goal.read_section-strings-requires-clause-number
read_section-strings-requires-clause-number c = (table_parts c.args.file.now c.args.s.now c.requires.good).linked

pub loop-k-init : goal.loop-k-init
loop-k-init c =
    answered_none (λ k. mapping_symbol_at c.args.file.now (strings_of c.args.file.now c.args.s.now) (symbol_offset c.args.s.now k))
    c.args.symbols.now.items

pub overflow_add-s : goal.overflow_add-s
overflow_add-s c =
    omega (
      arith,
      symbol_inside c.args.file.now c.args.s.now c.loop-k.k (table_parts c.args.file.now c.args.s.now c.requires.good).symbols
          c.loop-k-test.true,
    )

pub read_mapping_symbol-requires-clause-inside : goal.read_mapping_symbol-requires-clause-inside
read_mapping_symbol-requires-clause-inside c =
    symbol_inside c.args.file.now c.args.s.now c.loop-k.k (table_parts c.args.file.now c.args.s.now c.requires.good).symbols
    c.loop-k-test.true

pub read_mapping_symbol-requires-clause-strings : goal.read_mapping_symbol-requires-clause-strings
read_mapping_symbol-requires-clause-strings c =
    rw c.read_section-strings.ensures (table_parts c.args.file.now c.args.s.now c.requires.good).strings

pub read_mapping_symbol-requires-clause-ends : goal.read_mapping_symbol-requires-clause-ends
read_mapping_symbol-requires-clause-ends c =
    rw c.read_section-strings.ensures (name_inside c.args.file.now c.args.s.now c.loop-k.k
    (table_parts c.args.file.now c.args.s.now c.requires.good).names c.loop-k-test.true)

pub loop-k-preserved : goal.loop-k-preserved
loop-k-preserved c =
    answered_more (λ k. mapping_symbol_at c.args.file.now (strings_of c.args.file.now c.args.s.now) (symbol_offset c.args.s.now k))
    c.args.symbols.now.items
    c.loop-k.symbols.items c.push_symbol.new.symbols.items c.loop-k.k c.read_mapping_symbol.result
    c.loop-k.invariant c.in_ok-push_symbol.ensures
    (c.read_mapping_symbol.ensures ∙ ap (λ t. mapping_symbol_at c.args.file.now t (symbol_offset c.args.s.now c.loop-k.k))
    c.read_section-strings.ensures)
