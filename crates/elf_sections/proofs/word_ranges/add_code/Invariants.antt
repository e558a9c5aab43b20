use Rattle.std.proofs.Common.{◌≡◌, ℕ, ◌*◌, ◌≤◌, ◌<◌, None, get_or}
use Rattle.std.specs.Prelude.{◌&&◌, ◌||◌, nat_lt}
use Rattle.elf_sections.specs.declared.mapping_symbols.MappingSymbol.{MappingSymbol}
use Rattle.elf_sections.specs.MappingSymbols.{is_code_at}
use Rattle.elf_sections.specs.WordRanges.{has_number, is_in_ranges, AreWordRanges}
use Rattle.elf_sections.proofs.WordRanges.{code_from}
use Rattle.elf_sections.proofs.word_ranges.add_code.Given as goal

abbrev pub invariant-loop-symbol : goal.invariant-loop-symbol
invariant-loop-symbol l = record {
  words : (n : ℕ) → is_in_ranges l.ranges.items n
      ≡ (is_in_ranges l.initial.ranges.items n || (has_number l.words n && (nat_lt n l.start && is_code_at l.own l.number (4 * n))));
  low : AreWordRanges l.ranges.items;
  from : l.words.start ≤ l.start;
  passed : (j : ℕ) (d : MappingSymbol) → j < l.symbol-index → (get_or l.own j d).value ≤ 4 * l.start;
  code : l.code ≡ code_from None l.own l.symbol-index;
}
