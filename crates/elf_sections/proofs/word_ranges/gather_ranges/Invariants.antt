use Rattle.std.proofs.Common.{◌≡◌, ℕ, ◌*◌}
use Rattle.elf_headers.specs.Below.{any_below}
use Rattle.elf_sections.specs.Code.{is_code_in}
use Rattle.elf_sections.specs.WordRanges.{is_in_ranges, AreWordRanges}
use Rattle.elf_sections.proofs.word_ranges.gather_ranges.Given as goal

abbrev pub invariant-loop-i : goal.invariant-loop-i
invariant-loop-i l = record {
  words : (n : ℕ) → is_in_ranges l.ranges.items n ≡ any_below (is_code_in l.file (4 * n)) l.i;
  low : AreWordRanges l.ranges.items;
}
