-- The loads of a file that was written are the object's parts.
use Rattle.std.proofs.Common.{◌≡◌, ℕ, ◌<◌, ◌⊎◌, inl, Bool, true, false, List, [], ◌∷◌, length, map, Option, Some, None, refl, ap, sym, ◌∙◌}
use Rattle.std.proofs.Common.{arith}
use Rattle.std.specs.Prelude.{◌==◌, cond}
use Rattle.std.proofs.lemmas.Bool.Decides.{nat_tests}
use Rattle.plain_lemmas.proofs.Tests.{eqb-zero_of_pos}
use Rattle.sm_types.specs.Objects.{text_address, data_address}
use Rattle.paged_memory.specs.Image.{Extent}
use Rattle.elf_headers.specs.declared.program_header.ProgramHeader.{ProgramHeader}
use Rattle.elf_headers.specs.Below.{answers_below}
use Rattle.elf_headers.specs.Segments.{segment_of, is_load}
use Rattle.elf_headers.specs.Loads.{load_of, loads_of, extent_of_load, extents_of}
use Rattle.elf_writer.specs.declared.layout.Layout.{Layout}
use Rattle.elf_writer.specs.declared.mapping_symbols.TextMapping.{TextMapping}
use Rattle.elf_writer.specs.Layout.{text_segment, full_data_segment, IsSmall}
use Rattle.elf_writer.proofs.Reading.{IsFile, Reads, reads, text-bytes, data-bytes}
use Rattle.elf_writer.proofs.Headers.{program_header_count-is, segment_of-text, segment_of-data}

-- ---- the parts in memory

abbrev pub text_image : List ℕ → Extent
text_image text = record { address = text_address; size = length text; flags = 5; bytes = text }

abbrev pub data_image : List ℕ → List ℕ → Extent
data_image text bytes = record { address = data_address (length text); size = length bytes; flags = 6; bytes = bytes }

abbrev pub images : List ℕ → List ℕ → List Extent
images text bytes = text_image text ∷ cond (length bytes == 0) [] (data_image text bytes ∷ [])

-- ---- the program headers are loads

pub not_zero : (x : ℕ) → (x == 0) ≡ false → 0 < x
not_zero x h = grind (arith, nat_tests)

pub text-is_load : (l : Layout) → 0 < l.text_size → is_load (text_segment l) ≡ true
unfolding text_segment
text-is_load l h = rw (eqb-zero_of_pos l.text_size h) refl

pub data-is_load : (l : Layout) → (l.data_size == 0) ≡ false → is_load (full_data_segment l) ≡ true
data-is_load l h = rw h refl

-- a program header is the text's, or the data's
pub one_of_two : (b : Bool) (i : ℕ) → i < cond b 1 2 → (i ≡ 0) ⊎ ((i ≡ 1) × (b ≡ false))
one_of_two true i h = inl (omega arith)
one_of_two false i h = grind arith

load_when : (s : ProgramHeader) → is_load s ≡ true → cond (is_load s) (Some s) None ≡ Some s
load_when s h = rw h refl

load_at : (file : List ℕ) (i : ℕ) (s : ProgramHeader) → segment_of file i ≡ s → is_load s ≡ true → load_of file i ≡ Some s
load_at file i s e h = ap (λ (x : ProgramHeader). cond (is_load x) (Some x) None) e ∙ load_when s h

listed_one : {A : Type 0} (f : ℕ → Option A) (x : A) → f 0 ≡ Some x → answers_below f 1 ≡ x ∷ []
unfolding answers_below
listed_one f x h = rw h refl

listed_two : {A : Type 0} (f : ℕ → Option A) (x y : A) → f 0 ≡ Some x → f 1 ≡ Some y → answers_below f 2 ≡ x ∷ y ∷ []
unfolding answers_below
listed_two f x y h k = rw (h, k) refl

loads_by : (file : List ℕ) (l : Layout) (b : Bool) → (l.data_size == 0) ≡ b → IsSmall l → Reads file l → 0 < l.text_size
    → answers_below (load_of file) (cond b 1 2) ≡ text_segment l ∷ cond b [] (full_data_segment l ∷ [])
loads_by file l true e s r h =
    listed_one (load_of file) (text_segment l) (load_at file 0 (text_segment l) (segment_of-text file l s r) (text-is_load l h))
loads_by file l false e s r h =
    listed_two (load_of file) (text_segment l) (full_data_segment l)
    (load_at file 0 (text_segment l) (segment_of-text file l s r) (text-is_load l h))
    (load_at file 1 (full_data_segment l) (segment_of-data file l s r e) (data-is_load l e))

pub loads_of-is : (file : List ℕ) (l : Layout) → IsSmall l → Reads file l → 0 < l.text_size → loads_of file ≡ text_segment l
    ∷ cond (l.data_size == 0) [] (full_data_segment l ∷ [])
unfolding loads_of
loads_of-is file l s r h =
    ap (answers_below (load_of file)) (program_header_count-is file l r) ∙ loads_by file l (l.data_size == 0) refl s r h

-- ---- and what they take into memory

extent-text : (file : List ℕ) (l : Layout) (text bytes : List ℕ) (mappings : List TextMapping) → IsFile file l text bytes mappings
    → extent_of_load file (text_segment l) ≡ text_image text
unfolding extent_of_load text_segment
extent-text file l text bytes mappings is =
    λ i. record { address = text_address; size = sym is.text_size i; flags = 5; bytes = text-bytes file l text bytes mappings is i }

extent-data : (file : List ℕ) (l : Layout) (text bytes : List ℕ) (mappings : List TextMapping) → IsFile file l text bytes mappings
    → extent_of_load file (full_data_segment l) ≡ data_image text bytes
unfolding extent_of_load
extent-data file l text bytes mappings is =
    λ i. record {
      address = data_address (sym is.text_size i);
      size = sym is.data_size i;
      flags = 6;
      bytes = data-bytes file l text bytes mappings is i;
    }

map_cond : (f : ProgramHeader → Extent) (b : Bool) (s : ProgramHeader) → map f (cond b [] (s ∷ [])) ≡ cond b [] (f s ∷ [])
map_cond f true s = refl
map_cond f false s = refl

pub extents_of-is : (file : List ℕ) (l : Layout) (text bytes : List ℕ) (mappings : List TextMapping) → IsFile file l text bytes mappings
    → 0 < l.text_size → extents_of file ≡ images text bytes
extents_of-is file l text bytes mappings is h =
    ap (map (extent_of_load file)) (loads_of-is file l is.small (reads file l text bytes mappings is) h)
    ∙ ap (λ es. extent_of_load file (text_segment l) ∷ es) (map_cond (extent_of_load file) (l.data_size == 0) (full_data_segment l))
    ∙ (λ i. extent-text file l text bytes mappings is i ∷ cond (sym is.data_size i == 0) []
    (extent-data file l text bytes mappings is i ∷ []))
