-- The bytes and words that loads have.
use Rattle.std.proofs.Common.{◌≡◌, ℕ, zero, suc, ◌+◌, ◌-◌, ◌<◌, ◌≤◌, true, false, List, [], ◌∷◌, length, get_or, take, drop, slice_get}
use Rattle.std.proofs.Common.{Option, Some, None, refl, ap, sym, ◌∙◌, arith}
use Rattle.std.specs.Prelude.{Contains, is_some}
use Rattle.std.proofs.lemmas.List.{get_or-take, get_or-drop}
use Rattle.std.proofs.lemmas.List.Elements.{Contains-get_or}
use Rattle.std.proofs.lemmas.List.Sorted.{All-permutation, Contains-permutation, IsPermutation-sym}
use Rattle.sm_types.specs.Bytes.{little_number}
use Rattle.paged_memory.specs.Image.{parts_byte, part_byte, or_zero}
use Rattle.elf_headers.specs.declared.program_header.ProgramHeader.{ProgramHeader}
use Rattle.elf_headers.specs.Header.{number_at}
use Rattle.elf_headers.specs.Loads.{loads_of, extent_of_load, extents_of, has_address, IsSound}
use Rattle.elf_sections.specs.Code.{loaded_byte, loaded_word}
use Rattle.elf_sections.specs.LoadMap.{has_load, AreLoadsOf}
use Rattle.elf_sections.proofs.LoadMaps.{has_address-from}
use Rattle.elf_sections.proofs.Loaded.{has_load-byte, has_load-permutation, parts_byte-at}

pub sound_at : (file : List ℕ) (loads : List ProgramHeader) (i : ℕ) (d : ProgramHeader) → AreLoadsOf file loads → i < length loads
    → IsSound (length file) (get_or loads i d)
sound_at file loads i d are l = All-permutation (IsSound (length file)) (loads_of file) loads are.same are.sound.each i d l

byte_inside : (file : List ℕ) (s : ProgramHeader) (a : ℕ) → has_address s a ≡ true
    → or_zero (part_byte (extent_of_load file s) a) ≡ or_zero (slice_get (take s.file_size (drop s.offset file)) (a - s.address))
unfolding extent_of_load
byte_inside file s a h = rw h refl

-- the byte of the load that has the address
pub byte_in : (file : List ℕ) (loads : List ProgramHeader) (i a : ℕ) (d : ProgramHeader) → AreLoadsOf file loads → i < length loads
    → has_address (get_or loads i d) a ≡ true
    → loaded_byte file a ≡ or_zero (slice_get (take (get_or loads i d).file_size (drop (get_or loads i d).offset file))
    (a - (get_or loads i d).address))
byte_in file loads i a d are l h =
    let s : ProgramHeader = get_or loads i d in
    let among : Contains (loads_of file) s =
    Contains-permutation loads (loads_of file) s (IsPermutation-sym (loads_of file) loads are.same) (Contains-get_or loads i d l) in
    ap or_zero (parts_byte-at file (loads_of file) s a among.0 are.sound.apart among.1 among.2 h) ∙ byte_inside file s a h

zero_of_none : (o : Option ℕ) → is_some o ≡ false → or_zero o ≡ 0
zero_of_none None h = refl
zero_of_none (Some b) h = cc

-- where no load has the address
pub byte_out : (file : List ℕ) (loads : List ProgramHeader) (a : ℕ) → AreLoadsOf file loads → has_load loads a ≡ false
    → loaded_byte file a ≡ 0
byte_out file loads a are h =
    zero_of_none (parts_byte (extents_of file) a)
    (has_load-byte file (loads_of file) a ∙ has_load-permutation (loads_of file) loads a are.same ∙ h)

-- ---- four bytes of the file

or_zero_get : (xs : List ℕ) (k : ℕ) → or_zero (slice_get xs k) ≡ get_or xs k 0
or_zero_get [] k = refl
or_zero_get (x ∷ xs) zero = refl
or_zero_get (x ∷ xs) (suc k) = or_zero_get xs k

file_byte : (file : List ℕ) (loads : List ProgramHeader) (i a k : ℕ) (d : ProgramHeader) → AreLoadsOf file loads → i < length loads
    → (get_or loads i d).address ≤ a → a + k < (get_or loads i d).address + (get_or loads i d).file_size
    → loaded_byte file (a + k) ≡ get_or (drop ((get_or loads i d).offset + (a - (get_or loads i d).address)) file) k 0
file_byte file loads i a k d are l from to =
    let s : ProgramHeader = get_or loads i d in
    let sound : IsSound (length file) s = sound_at file loads i d are l in
    let has : has_address s (a + k) ≡ true = has_address-from s (a + k) (omega arith) (omega (arith, sound.bytes)) in
    let place : s.offset + (a + k - s.address) ≡ s.offset + (a - s.address) + k = omega arith in
    byte_in file loads i (a + k) d are l has ∙ or_zero_get (take s.file_size (drop s.offset file)) (a + k - s.address)
    ∙ get_or-take s.file_size (drop s.offset file) (a + k - s.address) 0 (omega arith)
    ∙ get_or-drop s.offset file (a + k - s.address) 0 ∙ ap (λ p. get_or file p 0) place
    ∙ sym (get_or-drop (s.offset + (a - s.address)) file k 0)

four : (a b c d w x y z : ℕ) → a ≡ w → b ≡ x → c ≡ y → d ≡ z → little_number (a ∷ b ∷ c ∷ d ∷ []) ≡ little_number (w ∷ x ∷ y ∷ z ∷ [])
four a b c d w x y z e f g h = rw (e, f, g, h) refl

pub word_in_file : (file : List ℕ) (loads : List ProgramHeader) (i a : ℕ) (d : ProgramHeader) → AreLoadsOf file loads → i < length loads
    → (get_or loads i d).address ≤ a → a + 4 ≤ (get_or loads i d).address + (get_or loads i d).file_size
    → loaded_word file a ≡ number_at file ((get_or loads i d).offset + (a - (get_or loads i d).address)) 4
unfolding loaded_word number_at
word_in_file file loads i a d are l from to =
    let e : a + 0 ≡ a = omega arith in
    let first = file_byte file loads i a 0 d are l from (omega arith) in
    four (loaded_byte file a) (loaded_byte file (a + 1)) (loaded_byte file (a + 2)) (loaded_byte file (a + 3)) _ _ _ _
    (rw e at first)
    (file_byte file loads i a 1 d are l from (omega arith)) (file_byte file loads i a 2 d are l from (omega arith))
    (file_byte file loads i a 3 d are l from (omega arith))

pub word_place : (file : List ℕ) (loads : List ProgramHeader) (i a : ℕ) (d : ProgramHeader) → AreLoadsOf file loads → i < length loads
    → (get_or loads i d).address ≤ a → a + 4 ≤ (get_or loads i d).address + (get_or loads i d).file_size
    → (get_or loads i d).offset + (a - (get_or loads i d).address) + 4 ≤ length file
word_place file loads i a d are l from to =
    let inside : (get_or loads i d).offset + (get_or loads i d).file_size ≤ length file =
    (sound_at file loads i d are l).inside (omega arith) in omega arith
