-- What the loads of an accepted file take into memory.
use Rattle.std.proofs.Common.{◌≡◌, ℕ, zero, suc, ◌+◌, ◌^◌, ◌<◌, ◌≤◌, Bool, true, false, cond, List, [], ◌∷◌, ◌++◌, map, Option, Some, None}
use Rattle.std.proofs.Common.{IfSome, refl, ap, ◌∙◌, arith, All, length, take, drop}
use Rattle.std.specs.Prelude.{◌&&◌, nat_lt, nat_le, IsSome}
use Rattle.std.proofs.lemmas.Bool.Decides.{nat_tests}
use Rattle.std.proofs.lemmas.Grind.{common_steps}
use Rattle.std.proofs.lemmas.List.{append-nil, map-append}
use Rattle.std.proofs.lemmas.List.Elements.{All-head, All-tail, All-map, All-weaker}
use Rattle.std.specs.Option.{option_or}
use Rattle.plain_lemmas.proofs.Options.{option_or-assoc}
use Rattle.paged_memory.specs.Image.{Extent, part_byte, parts_byte}
use Rattle.paged_memory.specs.Parts.{touched_below, AreApart, IsPlaced, ArePlaced}
use Rattle.paged_memory.proofs.Count.{placed_by_ends}
use Rattle.elf_headers.specs.declared.fault.LoadFault.TheVariants.{Overlap, TooManyPages}
use Rattle.elf_headers.specs.declared.program_header.ProgramHeader.{ProgramHeader}
use Rattle.elf_headers.specs.Below.{first_below, answers, answers_below}
use Rattle.sm_types.specs.Checks.{fault_when}
use Rattle.elf_headers.specs.Header.{program_header_count}
use Rattle.elf_headers.specs.Segments.{segment_of, is_load, segments_fault}
use Rattle.elf_headers.specs.Loads.{load_of, loads_of, extent_of_load, extents_of, share, overlap_at, overlap_fault, pages_fault, IsSound}
use Rattle.elf_headers.specs.Loads.{AreSound}
use Rattle.elf_headers.proofs.Below.{first_below-each_none, All-answers_below}
use Rattle.elf_headers.proofs.Sound.{loads_sound}
use Rattle.elf_headers.proofs.Checks.{passed_last}

-- ---- a part more at the end

-- two parts have no address in common
IsApartFrom : Extent → Extent → Type 0
IsApartFrom q p = (a : ℕ) → IsSome (part_byte p a) → part_byte q a ≡ None

pub parts_byte-append : (ps qs : List Extent) (a : ℕ) → parts_byte (ps ++ qs) a ≡ option_or (parts_byte ps a) (parts_byte qs a)
unfolding parts_byte
parts_byte-append [] qs a = refl
parts_byte-append (p ∷ ps) qs a =
    ap (option_or (part_byte p a)) (parts_byte-append ps qs a) ∙ option_or-assoc (part_byte p a) (parts_byte ps a) (parts_byte qs a)

byte_alone : (q : Extent) (a : ℕ) → part_byte q a ≡ None → parts_byte (q ∷ []) a ≡ None
unfolding parts_byte
byte_alone q a h = rw h refl

AreApart-push : (ps : List Extent) (q : Extent) → AreApart ps → All (IsApartFrom q) ps → AreApart (ps ++ q ∷ [])
unfolding parts_byte IsApartFrom
AreApart-push [] q apart each = (λ a h. refl, tt)
AreApart-push (p ∷ ps) q apart each = (
  λ a h. parts_byte-append ps (q ∷ []) a ∙ rw (apart.0 a h) (byte_alone q a (All-head (IsApartFrom q) p ps each a h)),
  AreApart-push ps q
      apart.1 (All-tail (IsApartFrom q) p ps each),
)

-- ---- the loads

no_overlap : (file : List ℕ) (i j : ℕ) → overlap_fault file ≡ None → i < program_header_count file → j < program_header_count file
    → overlap_at file i j ≡ None
unfolding overlap_fault
no_overlap file i j h l m =
    let row = first_below-each_none (λ k. first_below (overlap_at file k) (program_header_count file)) (program_header_count file) h i l in
    first_below-each_none (overlap_at file i) (program_header_count file) row j m

not_shared : (file : List ℕ) (i j : ℕ) → overlap_at file i j ≡ None → i < j → is_load (segment_of file i) ≡ true
    → is_load (segment_of file j) ≡ true → share (segment_of file i) (segment_of file j) ≡ false
unfolding overlap_at
not_shared file i j h order one other =
    let low : nat_lt i j ≡ true = grind (arith, nat_tests) in
    let test =
    passed_last (nat_lt i j && is_load (segment_of file i) && is_load (segment_of file j)
    && share (segment_of file i) (segment_of file j)) (Overlap i j) h in
    rw (low, one, other) at test

byte_inside : (s : ProgramHeader) (a : ℕ) (byte : Option ℕ)
    → IsSome (cond (nat_le s.address a && nat_lt a (s.address + s.memory_size)) byte None)
    → (nat_le s.address a && nat_lt a (s.address + s.memory_size)) ≡ true
byte_inside s a byte h =
    elim (nat_le s.address a && nat_lt a (s.address + s.memory_size)) as (λ t. IsSome (cond t byte None) → t ≡ true)
    [ true ↦ λ k. refl | false ↦ λ k. cc ] h

not_inside : (s t : ProgramHeader) (a : ℕ) → share s t ≡ false → (nat_le s.address a && nat_lt a (s.address + s.memory_size)) ≡ true
    → (nat_le t.address a && nat_lt a (t.address + t.memory_size)) ≡ false
not_inside s t a apart inside = grind (arith, nat_tests)

loads_apart : (file : List ℕ) (s t : ProgramHeader) → share s t ≡ false → IsApartFrom (extent_of_load file t) (extent_of_load file s)
unfolding IsApartFrom extent_of_load
loads_apart file s t apart a h = let out = not_inside s t a apart (byte_inside s a _ h) in rw out refl

apart_if : (file : List ℕ) (t s : ProgramHeader) (load : Bool) → (load ≡ true → share s t ≡ false)
    → IfSome (cond load (Some s) None) (λ p. IsApartFrom (extent_of_load file t) (extent_of_load file p))
apart_if file t s true h = loads_apart file s t (h refl)
apart_if file t s false h = tt

-- the loads below a number, and that number's
one_more : (file : List ℕ) (s : ProgramHeader) (load : Bool) (ps : List Extent) → AreApart ps
    → (load ≡ true → All (IsApartFrom (extent_of_load file s)) ps)
    → AreApart (ps ++ map (extent_of_load file) (answers (cond load (Some s) None)))
one_more file s true ps apart h = AreApart-push ps (extent_of_load file s) apart (h refl)
one_more file s false ps apart h = rw (append-nil ps) apart

apart_below : (file : List ℕ) (n : ℕ) → overlap_fault file ≡ None → n ≤ program_header_count file
    → AreApart (map (extent_of_load file) (answers_below (load_of file) n))
unfolding answers_below
apart_below file zero h l = tt
apart_below file (suc n) h l =
    rw (map-append (extent_of_load file) (answers_below (load_of file) n) (answers (load_of file n)))
    (one_more file (segment_of file n) (is_load (segment_of file n)) (map (extent_of_load file) (answers_below (load_of file) n))
    (apart_below file n h (omega arith)) (λ load.
    All-map (IsApartFrom (extent_of_load file (segment_of file n))) (extent_of_load file) (answers_below (load_of file) n)
    (All-answers_below (λ p. IsApartFrom (extent_of_load file (segment_of file n)) (extent_of_load file p)) (load_of file) n (λ i below.
    apart_if file (segment_of file n) (segment_of file i) (is_load (segment_of file i))
    (λ one. not_shared file i n (no_overlap file i n h (omega arith) l) below one load)))))

few_pages : (n : ℕ) → fault_when (nat_lt 4096 (n + 64)) (TooManyPages (n + 64)) ≡ None → n ≤ 4032
few_pages n h = let test = passed_last (nat_lt 4096 (n + 64)) (TooManyPages (n + 64)) h in grind (arith, nat_tests)

pub loads_are_sound : (file : List ℕ) (loads : List ProgramHeader) → loads ≡ loads_of file → segments_fault file ≡ None
    → overlap_fault file ≡ None → pages_fault file ≡ None → AreSound file loads
unfolding pages_fault loads_of
loads_are_sound file loads is each apart few = record {
  each = rw is (loads_sound file each);
  apart = rw is (apart_below file (program_header_count file) apart (omega arith));
  few = rw is (few_pages (touched_below (extents_of file) (2 ^ 35)) few);
}

-- ---- the loads make an image

extent_placed : (file : List ℕ) (s : ProgramHeader) → IsSound (length file) s → IsPlaced (extent_of_load file s)
unfolding extent_of_load
extent_placed file s sound =
    let short : length (take s.file_size (drop s.offset file)) ≤ s.file_size = grind (arith, common_steps) in
    placed_by_ends _ (omega (arith, sound.bytes)) (omega arith) sound.low sound.private

pub loads_placed : (file : List ℕ) (loads : List ProgramHeader) → AreSound file loads → ArePlaced (map (extent_of_load file) loads)
loads_placed file loads sound = record {
  placed =
      All-map IsPlaced (extent_of_load file) loads
      (All-weaker (IsSound (length file)) (λ s. IsPlaced (extent_of_load file s)) (extent_placed file) loads sound.each);
  apart = sound.apart;
  few = sound.few;
}
