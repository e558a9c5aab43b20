use Rattle.std.proofs.Common.{◌≡◌, ◌≤◌, ◌<◌, ℕ, length, get_or}
use Rattle.elf_headers.specs.declared.program_header.ProgramHeader.{ProgramHeader}
use Rattle.elf_sections.specs.LoadMap.{IsEnd}
use Rattle.elf_sections.proofs.load_map.ends_of.Given as goal

abbrev pub invariant-loop-left : goal.invariant-loop-left
invariant-loop-left l = record {
  count : length l.ends.items ≡ length l.loads;
  within : l.left ≤ length l.loads;
  ends : (k : ℕ) (d : ProgramHeader) → l.left ≤ k → k < length l.loads → IsEnd l.loads (get_or l.loads k d) (get_or l.ends.items k 0);
}

abbrev pub decreases-loop-left : goal.decreases-loop-left
decreases-loop-left l = l.left
