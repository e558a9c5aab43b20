use Rattle.std.proofs.Common.{refl, sym, ◌∙◌, arith}
use Rattle.elf_sections.proofs.LoadMaps.{no_load}
use Rattle.elf_sections.proofs.Reading.{sound_at, word_in_file, word_place}
use Rattle.elf_sections.proofs.loaded_words.word_at.Goals as goal

pub has_file_word-requires-clause-low : goal.has_file_word-requires-clause-low
has_file_word-requires-clause-low c =
    let sound =
    sound_at c.args.file.now c.args.loads.now c.args.near no_load c.requires.loads c.if-near-loads.true in
    omega (arith, sound.low, sound.bytes)

pub overflow_add-loads : goal.overflow_add-loads
overflow_add-loads c =
    omega (
      arith,
      word_place c.args.file.now c.args.loads.now c.args.near c.args.a no_load c.requires.loads c.if-near-loads.true
          (c.if-has_file_word.ensures.from refl) (c.if-has_file_word.ensures.to refl),
    )

pub u32_at-requires : goal.u32_at-requires
u32_at-requires c =
    word_place c.args.file.now c.args.loads.now c.args.near c.args.a no_load c.requires.loads c.if-near-loads.true
    (c.if-has_file_word.ensures.from refl) (c.if-has_file_word.ensures.to refl)

pub returns-then-has_file_word : goal.returns-then-has_file_word
returns-then-has_file_word c =
    c.u32_at.ensures ∙ sym (word_in_file c.args.file.now c.args.loads.now c.args.near c.args.a no_load c.requires.loads c.if-near-loads.true
    (c.if-has_file_word.ensures.from refl) (c.if-has_file_word.ensures.to refl))
