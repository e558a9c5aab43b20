use Rattle.elf_headers.proofs.Counting.{IsCounted}
use Rattle.elf_headers.proofs.pages.count_pages.Given as goal

abbrev pub invariant-loop-span : goal.invariant-loop-span
invariant-loop-span l = IsCounted l.spans l.span-index l.next l.count
