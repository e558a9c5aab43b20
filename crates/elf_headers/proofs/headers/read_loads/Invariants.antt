use Rattle.std.proofs.Common.{◌≡◌}
use Rattle.elf_headers.specs.Below.{answers_below}
use Rattle.elf_headers.specs.Loads.{load_of}
use Rattle.elf_headers.proofs.headers.read_loads.Given as goal

abbrev pub invariant-loop-i : goal.invariant-loop-i
invariant-loop-i l = l.loads.items ≡ answers_below (load_of l.file) l.i
