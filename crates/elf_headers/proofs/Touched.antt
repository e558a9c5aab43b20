-- The pages and the executable addresses of the loads, by their program headers and by lists of them.
use Rattle.std.proofs.Common.{◌≡◌, ℕ, zero, suc, ◌+◌, ◌-◌, ◌/◌, ◌%◌, ◌^◌, ◌<◌, Bool, true, false, cond, List, [], ◌∷◌, map, Option, Some}
use Rattle.std.proofs.Common.{None, refl, ap, sym, ◌∙◌, arith}
use Rattle.std.specs.Prelude.{◌==◌, ◌&&◌, ◌||◌, not, nat_lt, nat_le, is_some}
use Rattle.std.specs.List.{list_any}
use Rattle.std.specs.List.Sorted.{IsPermutation}
use Rattle.std.proofs.lemmas.List.Sorted.{list_any-IsPermutation}
use Rattle.std.proofs.lemmas.Bool.Decides.{nat_tests}
use Rattle.paged_memory.specs.Image.{Extent, union, part_flags, image_flags}
use Rattle.paged_memory.specs.Parts.{touched_below}
use Rattle.elf_headers.specs.declared.fault.LoadFault.TheVariants.{TooManyPages, EntryOutside}
use Rattle.elf_headers.specs.declared.program_header.ProgramHeader.{ProgramHeader}
use Rattle.elf_headers.specs.declared.spans.Span.{Span}
use Rattle.elf_headers.specs.Below.{any_below, count_below}
use Rattle.sm_types.specs.Checks.{fault_when}
use Rattle.elf_headers.specs.Header.{header_entry, program_header_count}
use Rattle.elf_headers.specs.Segments.{segment_of, is_load, segments_fault}
use Rattle.elf_headers.specs.Loads.{load_of, loads_of, extent_of_load, extents_of, pages_fault, has_executable, is_executable_at}
use Rattle.elf_headers.specs.Loads.{entry_fault}
use Rattle.elf_headers.specs.Spans.{span_at, spans_of, touches_page, pages_below}
use Rattle.elf_headers.proofs.Below.{passes, list_any-answers_below, any_below-same, count_below-same}
use Rattle.elf_headers.proofs.Sound.{sound_at}

-- ---- the pages that parts touch

abbrev touches : ℕ → Extent → Bool
touches n e = is_some (part_flags e n)

some_union : (a b : Option ℕ) → is_some (union a b) ≡ (is_some a || is_some b)
some_union None b = refl
some_union (Some f) None = refl
some_union (Some f) (Some g) = refl

some_flags : (parts : List Extent) (n : ℕ) → is_some (image_flags parts n) ≡ list_any (touches n) parts
unfolding image_flags
some_flags [] n = refl
some_flags (p ∷ parts) n = some_union (part_flags p n) (image_flags parts n) ∙ ap (λ t. is_some (part_flags p n) || t) (some_flags parts n)

touched_below-count : (parts : List Extent) (n : ℕ) → touched_below parts n ≡ count_below (λ k. list_any (touches k) parts) n
unfolding touched_below count_below
touched_below-count parts zero = refl
touched_below-count parts (suc n) = rw (touched_below-count parts n, some_flags parts n) refl

list_any-map : {A B : Type 0} (test : B → Bool) (f : A → B) (xs : List A) → list_any test (map f xs) ≡ list_any (λ x. test (f x)) xs
list_any-map test f [] = refl
list_any-map test f (x ∷ xs) = ap (λ t. test (f x) || t) (list_any-map test f xs)

-- ---- the pages that loads touch

some_cond : (t : Bool) (f : ℕ) → is_some {T = ℕ} (cond t (Some f) None) ≡ t
some_cond true f = refl
some_cond false f = refl

-- a load touches the pages of its span
load_touches : (file : List ℕ) (s : ProgramHeader) (i n : ℕ) → 0 < s.memory_size
    → touches_page (record { address = s.address; end = s.address + s.memory_size; header = i }) n ≡ touches n (extent_of_load file s)
unfolding extent_of_load
load_touches file s i n some =
    let size : nat_lt 0 s.memory_size ≡ true = grind (arith, nat_tests) in
    sym (some_cond (nat_lt 0 s.memory_size && nat_le (s.address / 4096) n && nat_le n ((s.address + s.memory_size - 1) / 4096))
    (s.flags % 8) ∙ rw size refl)

header_touches : (file : List ℕ) (i n : ℕ) (load : Bool) → (load ≡ true → 0 < (segment_of file i).memory_size)
    → passes (λ s. touches_page s n) (cond load
    (Some (record {
      address = (segment_of file i).address;
      end = (segment_of file i).address + (segment_of file i).memory_size;
      header = i;
    })) None)
    ≡ passes (λ s. touches n (extent_of_load file s)) (cond load (Some (segment_of file i)) None)
header_touches file i n true h = load_touches file (segment_of file i) i n (h refl)
header_touches file i n false h = refl

spans_touch : (file : List ℕ) (n : ℕ) → segments_fault file ≡ None
    → list_any (λ s. touches_page s n) (spans_of file) ≡ list_any (touches n) (extents_of file)
unfolding spans_of span_at loads_of
spans_touch file n h =
    list_any-answers_below (λ s. touches_page s n) (span_at file) (program_header_count file)
    ∙ any_below-same _ _ (program_header_count file)
    (λ i l. header_touches file i n (is_load (segment_of file i)) (λ load. (sound_at file i h l load).some))
    ∙ sym (list_any-answers_below (λ s. touches n (extent_of_load file s)) (load_of file) (program_header_count file))
    ∙ sym (list_any-map (touches n) (extent_of_load file) (loads_of file))

pub pages_same : (file : List ℕ) (spans : List Span) (limit : ℕ) → segments_fault file ≡ None → IsPermutation (spans_of file) spans
    → pages_below spans limit ≡ touched_below (extents_of file) limit
pages_same file spans limit h perm =
    count_below-same _ _ limit (λ n l. sym (list_any-IsPermutation (λ s. touches_page s n) (spans_of file) spans perm)
    ∙ spans_touch file n h) ∙ sym (touched_below-count (extents_of file) limit)

pub pages_fault-is : (file : List ℕ) (spans : List Span) → segments_fault file ≡ None → IsPermutation (spans_of file) spans
    → pages_fault file ≡ fault_when (nat_lt 4096 (pages_below spans (2 ^ 35) + 64)) (TooManyPages (pages_below spans (2 ^ 35) + 64))
unfolding pages_fault
pages_fault-is file spans h perm =
    ap (λ n. fault_when (nat_lt 4096 (n + 64)) (TooManyPages (n + 64))) (sym (pages_same file spans (2 ^ 35) h perm))

-- ---- the loads that can be executed at an address

load_executable : (s : ProgramHeader) (a : ℕ) (load : Bool)
    → passes (λ s. has_executable s a) (cond load (Some s) None) ≡ (load && has_executable s a)
load_executable s a true = refl
load_executable s a false = refl

executable : (file : List ℕ) (a : ℕ) → list_any (λ s. has_executable s a) (loads_of file)
    ≡ any_below (is_executable_at file a) (program_header_count file)
unfolding loads_of
executable file a =
    list_any-answers_below (λ s. has_executable s a) (load_of file) (program_header_count file)
    ∙ any_below-same _ _ (program_header_count file) (λ i l. load_executable (segment_of file i) a (is_load (segment_of file i)))

pub entry_fault-is : (file : List ℕ) (entry : ℕ) (loads : List ProgramHeader) → entry ≡ header_entry file → loads ≡ loads_of file
    → entry_fault file ≡ fault_when (not ((entry % 4 == 0) && list_any (λ s. has_executable s entry) loads)) (EntryOutside entry)
unfolding entry_fault
entry_fault-is file entry loads e l = rw (e, l, executable file (header_entry file)) refl
