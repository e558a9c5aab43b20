use Rattle.std.proofs.Common.{◌≡◌, None}
use Rattle.elf_headers.specs.Below.{first_below}
use Rattle.elf_headers.specs.Header.{program_header_count}
use Rattle.elf_headers.specs.Loads.{overlap_at}
use Rattle.elf_headers.proofs.overlap.check_overlap.Given as goal

abbrev pub invariant-loop-i : goal.invariant-loop-i
invariant-loop-i l = first_below (λ i. first_below (overlap_at l.file i) (program_header_count l.file)) l.i ≡ None
