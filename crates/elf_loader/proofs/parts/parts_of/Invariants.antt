use Rattle.std.proofs.Common.{◌≡◌, take, map}
use Rattle.paged_memory.specs.Image.{extent_of}
use Rattle.elf_headers.specs.Loads.{extent_of_load}
use Rattle.elf_loader.proofs.parts.parts_of.Given as goal

abbrev pub invariant-loop-load : goal.invariant-loop-load
invariant-loop-load l = map extent_of l.parts.items ≡ map (extent_of_load l.file) (take l.load-index l.loads)
