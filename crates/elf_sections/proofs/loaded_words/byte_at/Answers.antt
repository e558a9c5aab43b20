use Rattle.std.proofs.Common.{sym, ◌∙◌}
use Rattle.elf_sections.proofs.LoadMaps.{no_load}
use Rattle.elf_sections.proofs.Reading.{sound_at, byte_in, byte_out}
use Rattle.elf_sections.proofs.loaded_words.byte_at.Goals as goal

pub byte_of-requires : goal.byte_of-requires
byte_of-requires c = (sound_at c.args.file.now c.args.loads.now c.in-Some.i no_load c.requires c.in-Some.ensures.within).inside

pub returns-in-Some : goal.returns-in-Some
returns-in-Some c =
    c.byte_of.ensures ∙ sym (byte_in c.args.file.now c.args.loads.now c.in-Some.i c.args.a no_load c.requires c.in-Some.ensures.within
    (c.in-Some.ensures.found no_load))

pub returns-in-None : goal.returns-in-None
returns-in-None c = sym (byte_out c.args.file.now c.args.loads.now c.args.a c.requires c.in-None.ensures.none)
