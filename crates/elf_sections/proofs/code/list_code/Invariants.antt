use Rattle.std.proofs.Common.{◌≡◌, ◌≤◌, ◌<◌, ◌^◌, ℕ, get_or}
use Rattle.elf_headers.specs.Below.{answers_below}
use Rattle.elf_sections.specs.declared.word_ranges.WordRange.{WordRange}
use Rattle.elf_sections.specs.Code.{code_word}
use Rattle.elf_sections.proofs.code.list_code.Given as goal

abbrev pub invariant-loop-range : goal.invariant-loop-range
invariant-loop-range l = record {
  code : l.code.items ≡ answers_below (code_word l.file) l.next;
  low : l.next ≤ 2 ^ 45;
  passed : (j : ℕ) (d : WordRange) → j < l.range-index → (get_or l.ranges j d).end ≤ l.next;
}
