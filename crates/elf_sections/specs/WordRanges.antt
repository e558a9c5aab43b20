-- Words that stand in a row, by their numbers: word number n stands at address 4 * n.
use Rattle.std.specs.Prelude.{ℕ, ◌^◌, ◌≤◌, ◌<◌, Bool, List, ◌&&◌, nat_le, nat_lt, All}
use Rattle.std.specs.List.{list_any}
use Rattle.elf_sections.specs.declared.word_ranges.WordRange.{WordRange}

-- the range has the word
abbrev pub has_number : WordRange → ℕ → Bool
has_number s n = nat_le s.start n && nat_lt n s.end

-- one of the ranges has the word
unfoldable pub is_in_ranges : List WordRange → ℕ → Bool
is_in_ranges ranges n = list_any (λ s. has_number s n) ranges

-- each range has a word, and its words stand below 2 ^ 47
abbrev pub AreWordRanges : List WordRange → Type 0
AreWordRanges ranges = All (λ s. (s.start < s.end) × (s.end ≤ 2 ^ 45)) ranges
