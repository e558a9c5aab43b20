use Rattle.std.proofs.Common.{◌≡◌, None}
use Rattle.elf_headers.specs.Below.{first_below}
use Rattle.elf_headers.specs.Segments.{segment_fault}
use Rattle.elf_headers.proofs.segments.check_segments.Given as goal

abbrev pub invariant-loop-i : goal.invariant-loop-i
invariant-loop-i l = first_below (segment_fault l.file) l.i ≡ None
