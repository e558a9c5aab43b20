-- The loads of a file, and the byte that they have at an address.
use Rattle.std.proofs.Common.{◌≡◌, ℕ, zero, suc, ◌+◌, ◌-◌, ◌^◌, ◌<◌, ◌≤◌, Bool, true, false, cond, List, [], ◌∷◌, length, get_or, map, take}
use Rattle.std.proofs.Common.{drop, slice_get, Option, Some, None, refl, ap, sym, ◌∙◌, arith}
use Rattle.std.specs.Prelude.{◌||◌, is_some}
use Rattle.std.specs.List.Sorted.{IsPermutation}
use Rattle.std.proofs.lemmas.List.Sorted.{list_any-IsPermutation}
use Rattle.std.specs.Option.{option_or}
use Rattle.paged_memory.specs.Image.{parts_byte, part_byte, or_zero}
use Rattle.paged_memory.specs.Parts.{AreApart}
use Rattle.elf_headers.specs.declared.program_header.ProgramHeader.{ProgramHeader}
use Rattle.elf_headers.specs.Below.{all_below}
use Rattle.elf_headers.specs.Loads.{loads_of, extent_of_load, has_address, AreSound}
use Rattle.elf_sections.specs.declared.section.SectionHeader.{SectionHeader}
use Rattle.elf_sections.specs.Sections.{is_loaded, is_all_loaded}
use Rattle.elf_sections.specs.LoadMap.{has_load, AreLoads}
use Rattle.elf_headers.proofs.Below.{all_below-same, all_below-each}
use Rattle.elf_sections.proofs.LoadMaps.{has_load-contains, has_load-some, has_address-high, HasOne}

there_or : (t : Bool) (b : ℕ) (o : Option ℕ) → is_some (option_or (cond t (Some b) None) o) ≡ (t || is_some o)
there_or true b o = refl
there_or false b o = refl

byte_of_load : (file : List ℕ) (s : ProgramHeader) (a : ℕ) (o : Option ℕ)
    → is_some (option_or (part_byte (extent_of_load file s) a) o) ≡ (has_address s a || is_some o)
unfolding extent_of_load
byte_of_load file s a o = there_or (has_address s a) (or_zero (slice_get (take s.file_size (drop s.offset file)) (a - s.address))) o

-- the loads have a byte exactly at the addresses of one of them
pub has_load-byte : (file : List ℕ) (loads : List ProgramHeader) (a : ℕ)
    → is_some (parts_byte (map (extent_of_load file) loads) a) ≡ has_load loads a
unfolding has_load parts_byte
has_load-byte file [] a = refl
has_load-byte file (s ∷ loads) a =
    byte_of_load file s a (parts_byte (map (extent_of_load file) loads) a) ∙ ap (λ t. has_address s a || t) (has_load-byte file loads a)

pub has_load-permutation : (xs ys : List ProgramHeader) (a : ℕ) → IsPermutation xs ys → has_load xs a ≡ has_load ys a
unfolding has_load
has_load-permutation xs ys a p = list_any-IsPermutation (λ s. has_address s a) xs ys p

-- each address of the section is in a load, told by the loads in another order
pub is_all_loaded-by : (file : List ℕ) (loads : List ProgramHeader) (s : SectionHeader) → IsPermutation (loads_of file) loads
    → all_below (λ k. has_load loads (s.address + k)) s.size ≡ is_all_loaded file s
unfolding is_all_loaded
is_all_loaded-by file loads s p =
    all_below-same _ _ s.size (λ k l. sym (has_load-byte file (loads_of file) (s.address + k)
    ∙ has_load-permutation (loads_of file) loads (s.address + k) p))

-- ---- loads that share no address

part_there : (t : Bool) (b : ℕ) → is_some (cond t (Some b) None) ≡ t
part_there true b = refl
part_there false b = refl

part_has : (file : List ℕ) (s : ProgramHeader) (a : ℕ) → is_some (part_byte (extent_of_load file s) a) ≡ has_address s a
unfolding extent_of_load
part_has file s a = part_there (has_address s a) (or_zero (slice_get (take s.file_size (drop s.offset file)) (a - s.address)))

or_there : (o b : Option ℕ) → is_some o ≡ true → option_or o b ≡ o
or_there None b h = cc
or_there (Some x) b h = refl

or_later : (o b : Option ℕ) → (is_some o ≡ true → ⊥) → option_or o b ≡ b
or_later None b h = refl
or_later (Some x) b h = absurd (h refl)

none_there : (o : Option ℕ) → is_some o ≡ true → o ≡ None → ⊥
none_there None h e = cc
none_there (Some b) h e = cc

abbrev pub AreApartLoads : List ℕ → List ProgramHeader → Type 0
AreApartLoads file loads = AreApart (map (extent_of_load file) loads)

-- the first load has no address of a later one
apart_later : (file : List ℕ) (p : ProgramHeader) (loads : List ProgramHeader) (s : ProgramHeader) (a k : ℕ)
    → AreApartLoads file (p ∷ loads) → k < length loads → get_or loads k s ≡ s → has_address p a ≡ true → has_address s a ≡ true → ⊥
apart_later file p loads s a k apart l e hp hs =
    let none : parts_byte (map (extent_of_load file) loads) a ≡ None = apart.0 a (part_has file p a ∙ hp) in
    let there : is_some (parts_byte (map (extent_of_load file) loads) a) ≡ true =
    has_load-byte file loads a ∙ has_load-contains loads s a k l e hs in
    none_there _ there none

same_load : (file : List ℕ) (loads : List ProgramHeader) (s t : ProgramHeader) (a j k : ℕ) → AreApartLoads file loads → j < length loads
    → get_or loads j s ≡ s → k < length loads → get_or loads k t ≡ t → has_address s a ≡ true → has_address t a ≡ true → s ≡ t
same_load file [] s t a j k apart l e m f hs ht = absurd (omega arith)
same_load file (p ∷ loads) s t a zero zero apart l e m f hs ht = sym e ∙ f
same_load file (p ∷ loads) s t a zero (suc k) apart l e m f hs ht =
    absurd (apart_later file p loads t a k apart (omega arith) f (rw e hs) ht)
same_load file (p ∷ loads) s t a (suc j) zero apart l e m f hs ht =
    absurd (apart_later file p loads s a j apart (omega arith) e (rw f ht) hs)
same_load file (p ∷ loads) s t a (suc j) (suc k) apart l e m f hs ht =
    same_load file loads s t a j k apart.1 (omega arith) e (omega arith) f hs ht

-- what the checks on the headers give
pub sound_loads : (file : List ℕ) (loads : List ProgramHeader) → AreSound file loads → AreLoads loads
sound_loads file loads sound = record {
  some = λ k d l. (sound.each k d l).some;
  low = λ k d l. (sound.each k d l).low;
  apart = λ s t a c d hs ht. same_load file loads s t a c.0 d.0 sound.apart c.1 c.2 d.1 d.2 hs ht;
}

-- the byte at an address is that of the load that has it
pub parts_byte-at : (file : List ℕ) (loads : List ProgramHeader) (s : ProgramHeader) (a k : ℕ) → AreApartLoads file loads → k < length loads
    → get_or loads k s ≡ s → has_address s a ≡ true → parts_byte (map (extent_of_load file) loads) a ≡ part_byte (extent_of_load file s) a
unfolding parts_byte
parts_byte-at file [] s a k apart l e h = absurd (omega arith)
parts_byte-at file (p ∷ loads) s a zero apart l e h =
    rw e (or_there (part_byte (extent_of_load file s) a) (parts_byte (map (extent_of_load file) loads) a) (part_has file s a ∙ h))
parts_byte-at file (p ∷ loads) s a (suc k) apart l e h =
    let rest : parts_byte (map (extent_of_load file) loads) a ≡ part_byte (extent_of_load file s) a =
    parts_byte-at file loads s a k apart.1 (omega arith) e h in
    or_later (part_byte (extent_of_load file p) a) (parts_byte (map (extent_of_load file) loads) a)
    (λ t. apart_later file p loads s a k apart (omega arith) e (sym (part_has file p a) ∙ t) h) ∙ rest

-- ---- a section whose addresses are in loads

-- an address of a load lies below 2 ^ 47
pub loaded_low : (file : List ℕ) (a : ℕ) → AreLoads (loads_of file) → is_loaded file a ≡ true → a < 2 ^ 47
loaded_low file a are h =
    let w : HasOne (loads_of file) a = has_load-some (loads_of file) a (sym (has_load-byte file (loads_of file) a) ∙ h) in
    let high : a < w.0.address + w.0.memory_size = has_address-high w.0 a w.2 in
    let low : w.0.address + w.0.memory_size ≤ 2 ^ 47 = rw w.1.2 at (are.low w.1.0 w.0 w.1.1) in
    omega arith

pub section_low : (file : List ℕ) (s : SectionHeader) → AreLoads (loads_of file) → is_all_loaded file s ≡ true → 0 < s.size
    → s.address + s.size ≤ 2 ^ 47
unfolding is_all_loaded
section_low file s are h some =
    let last : is_loaded file (s.address + (s.size - 1)) ≡ true =
    all_below-each (λ k. is_loaded file (s.address + k)) s.size h (s.size - 1) (omega arith) in
    let low : s.address + (s.size - 1) < 2 ^ 47 = loaded_low file (s.address + (s.size - 1)) are last in
    omega arith
