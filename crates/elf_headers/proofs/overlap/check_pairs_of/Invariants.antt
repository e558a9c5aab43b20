use Rattle.std.proofs.Common.{◌≡◌, None}
use Rattle.elf_headers.specs.Below.{first_below}
use Rattle.elf_headers.specs.Loads.{overlap_at}
use Rattle.elf_headers.proofs.overlap.check_pairs_of.Given as goal

abbrev pub invariant-loop-j : goal.invariant-loop-j
invariant-loop-j l = first_below (overlap_at l.file l.i) l.j ≡ None
