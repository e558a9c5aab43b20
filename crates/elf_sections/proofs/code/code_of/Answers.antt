use Rattle.elf_headers.specs.Loads.{loads_of}
use Rattle.elf_sections.proofs.Loaded.{sound_loads}
use Rattle.elf_sections.proofs.code.code_of.Goals as goal

pub sort_ranges-requires-clause-loads : goal.sort_ranges-requires-clause-loads
sort_ranges-requires-clause-loads c = sound_loads c.args.file.now (loads_of c.args.file.now) c.requires.loads.sound
