-- The file of an object is loaded as the object's image.
use Rattle.std.proofs.Common.{◌≡◌, ℕ, List, [], ◌∷◌, Bool, true, Option, Some, None, refl, ap, subst, ◌∙◌}
use Rattle.std.specs.Prelude.{is_some}
use Rattle.std.specs.List.{list_all}
use Rattle.std.proofs.lemmas.Bool.{and_parts}
use Rattle.sm_types.specs.declared.insn.Insn.{Insn}
use Rattle.sm_types.specs.declared.object.Object.{Object}
use Rattle.sm_types.specs.Objects.{object_code}
use Rattle.a64_encode.specs.Either.{instruction_of}
use Rattle.a64_encode.specs.Writable.{is_listed, IsWritable}
use Rattle.paged_memory.specs.Image.{Extent, Program, IsMemoryOf}
use Rattle.elf_headers.specs.Loads.{extents_of}
use Rattle.elf_writer.specs.File.{file_of}
use Rattle.elf_writer.proofs.Law.{IsSmallObject, headers-written, sections-written, entry-written, extents-written, code-written}
use Rattle.elf_loader.specs.Loading.{unless_listed, unlisted, words_fault, load_fault, Loads}
use Rattle.elf_loader.specs.Objects.{text_extent, data_extent, object_extents, IsObjectImage, IsFileOf}
use Rattle.elf_loader.proofs.Checks.{all_accepted}
use Rattle.elf_loader.proofs.Images.{some_program}

small : (o : Object) → IsWritable o → IsSmallObject o
small o w = record { startable = w.startable; text_size = w.text_size; data_size = w.data_size }

extents-are : (o : Object) → IsWritable o → extents_of (file_of o) ≡ object_extents o
unfolding object_extents text_extent data_extent
extents-are o w = extents-written o (small o w)

listed_word : (address word : ℕ) (it : Option Insn) → is_some it ≡ true → unless_listed address word it ≡ None
listed_word address word None e = cc
listed_word address word (Some it) e = refl

-- code words that all mean instructions have no fault
listed_words : (entries : List (ℕ × ℕ)) → list_all is_listed entries ≡ true → words_fault entries ≡ None
unfolding words_fault unlisted
listed_words [] e = refl
listed_words (entry ∷ rest) e =
    let parts = and_parts (is_listed entry) (list_all is_listed rest) e in
    rw (listed_word entry.0 entry.1 (instruction_of entry.1) parts.0) (listed_words rest parts.1)

accepted-written : (o : Object) → IsWritable o → load_fault (file_of o) ≡ None
accepted-written o w =
    all_accepted (file_of o) (headers-written o (small o w)) (sections-written o (small o w))
    (ap words_fault (code-written o (small o w)) ∙ listed_words (object_code o) w.listed)

image-written : (o : Object) (program : Program) → IsWritable o → Loads (file_of o) program → IsObjectImage o program
image-written o program w l = record {
  memory = subst (λ (es : List Extent). IsMemoryOf es program.memory) (extents-are o w) l.memory;
  entry_is = l.entry_is ∙ entry-written o (small o w);
  code_is = l.code_is ∙ code-written o (small o w);
}

pub file-written : (o : Object) → IsWritable o → IsFileOf o (file_of o)
file-written o w =
    let some = some_program (file_of o) (accepted-written o w) in
    record { program = some.0; loads = some.1; image = image-written o some.0 w some.1 }
