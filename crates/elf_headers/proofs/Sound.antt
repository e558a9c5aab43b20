-- What the checks on each program header give of the loads.
use Rattle.std.proofs.Common.{◌⊎◌, ◌≡◌, ℕ, ◌+◌, ◌-◌, ◌^◌, ◌<◌, ◌≤◌, Bool, true, false, cond, List, length, Some, None, IfSome, refl, arith}
use Rattle.std.proofs.Common.{All}
use Rattle.std.specs.Prelude.{◌&&◌, ◌||◌, nat_lt}
use Rattle.std.proofs.lemmas.Bool.Decides.{nat_tests}
use Rattle.std.proofs.lemmas.Bool.{or_parts}
use Rattle.elf_headers.specs.declared.fault.LoadFault.TheVariants.{Truncated, NotStatic, BadTable, InShared}
use Rattle.elf_headers.specs.declared.program_header.ProgramHeader.{ProgramHeader}
use Rattle.elf_headers.specs.Header.{program_header_count}
use Rattle.elf_headers.specs.Segments.{program_header_offset, segment_of, is_load, is_dynamic, is_in_shared, load_fault_of, segment_fault}
use Rattle.elf_headers.specs.Segments.{segments_fault}
use Rattle.elf_headers.specs.declared.spans.Span.{Span}
use Rattle.elf_headers.specs.Loads.{load_of, loads_of, IsSound}
use Rattle.elf_headers.specs.Spans.{span_at, spans_of, IsLow}
use Rattle.elf_headers.proofs.Checks.{passed, passed_only}
use Rattle.elf_headers.proofs.Below.{first_below-each_none, All-answers_below}

-- ---- one load

load_some : (s : ProgramHeader) → is_load s ≡ true → nat_lt s.memory_size s.file_size ≡ false → 0 < s.memory_size
load_some s load order = grind (arith, nat_tests)

load_inside : (s : ProgramHeader) (size : ℕ) → (nat_lt 0 s.file_size && nat_lt size (s.offset + s.file_size)) ≡ false → 0 < s.file_size
    → s.offset + s.file_size ≤ size
load_inside s size test some = grind (arith, nat_tests)

load_private : (s : ProgramHeader) → is_in_shared s ≡ false → (s.address + s.memory_size ≤ 0x7DFFFFFC0000) ⊎ (0x7F0000001000 ≤ s.address)
load_private s test = grind (arith, nat_tests)

sound_load : (size offset i : ℕ) (s : ProgramHeader) → is_load s ≡ true → load_fault_of size offset i s ≡ None → IsSound size s
unfolding load_fault_of
sound_load size offset i s load h =
    let order = passed (nat_lt s.memory_size s.file_size) (BadTable offset) _ h in
    let ends =
    passed (nat_lt (2 ^ 47) (s.address + s.memory_size) || nat_lt (2 ^ 64 - 1) (s.offset + s.file_size)) (BadTable offset) _ order.1 in
    let file = passed (nat_lt 0 s.file_size && nat_lt size (s.offset + s.file_size)) (Truncated size) _ ends.1 in
    let place = passed (is_in_shared s) (InShared i) _ file.1 in
    let end = or_parts (nat_lt (2 ^ 47) (s.address + s.memory_size)) _ ends.0 in
    record {
      some = load_some s load order.0;
      bytes = grind (arith, nat_tests, order.0);
      inside = load_inside s size file.0;
      low = grind (arith, nat_tests, end.0);
      private = load_private s place.0;
    }

-- ---- the loads of a file

pub sound_at : (file : List ℕ) (i : ℕ) → segments_fault file ≡ None → i < program_header_count file → is_load (segment_of file i) ≡ true
    → IsSound (length file) (segment_of file i)
unfolding segments_fault segment_fault
sound_at file i h l load =
    let each = first_below-each_none (segment_fault file) (program_header_count file) h i l in
    let only = passed (is_dynamic (segment_of file i)) (NotStatic (segment_of file i).kind) _ each in
    sound_load (length file) (program_header_offset file i) i (segment_of file i) load
    (passed_only (is_load (segment_of file i)) _ load only.1)

load_sound : (size : ℕ) (s : ProgramHeader) (load : Bool) → (load ≡ true → IsSound size s) → IfSome (cond load (Some s) None) (IsSound size)
load_sound size s true h = h refl
load_sound size s false h = tt

pub loads_sound : (file : List ℕ) → segments_fault file ≡ None → All (IsSound (length file)) (loads_of file)
unfolding loads_of
loads_sound file h =
    All-answers_below (IsSound (length file)) (load_of file) (program_header_count file)
    (λ i l. load_sound (length file) (segment_of file i) (is_load (segment_of file i)) (sound_at file i h l))

-- a load ends where the address space does at the latest
pub end_low : (file : List ℕ) (i : ℕ) (s : ProgramHeader) → segments_fault file ≡ None → i < program_header_count file
    → s ≡ segment_of file i
    → is_load s ≡ true → s.address + s.memory_size ≤ 2 ^ 47
end_low file i s h l e load = let same : is_load (segment_of file i) ≡ true = rw e at load in rw e ((sound_at file i h l same).low)

span_low : (file : List ℕ) (i : ℕ) (load : Bool) (s : Span) → (load ≡ true → IsLow s) → IfSome (cond load (Some s) None) IsLow
span_low file i true s h = h refl
span_low file i false s h = tt

pub spans_low : (file : List ℕ) → segments_fault file ≡ None → All IsLow (spans_of file)
unfolding spans_of span_at
spans_low file h =
    All-answers_below IsLow (span_at file) (program_header_count file) (λ i l. span_low file i (is_load (segment_of file i)) _ (λ load.
    let sound = sound_at file i h l load in
    record { some = omega (arith, sound.some); low = sound.low }))
