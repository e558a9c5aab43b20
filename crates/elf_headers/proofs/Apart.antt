-- Loads that have no address in common.
use Rattle.std.proofs.Common.{◌≡◌, ◌≢◌, ℕ, ◌+◌, ◌<◌, ◌≤◌, true, false, List, [], get_or, Some, None, refl, ap}
use Rattle.std.proofs.Common.{sym, ◌∙◌, arith}
use Rattle.std.specs.Prelude.{◌&&◌, nat_lt, Contains}
use Rattle.std.specs.List.Sorted.{IsPermutation}
use Rattle.std.proofs.lemmas.List.Sorted.{Contains-permutation}
use Rattle.std.proofs.lemmas.Bool.Decides.{nat_tests}
use Rattle.std.proofs.lemmas.Bool.{and_parts}
use Rattle.std.proofs.lemmas.List.{get_or_default}
use Rattle.elf_headers.specs.declared.fault.LoadFault.TheVariants.{Overlap}
use Rattle.elf_headers.specs.declared.spans.Span.{Span}
use Rattle.elf_headers.specs.Below.{first_below}
use Rattle.sm_types.specs.Checks.{fault_when}
use Rattle.elf_headers.specs.Header.{program_header_count}
use Rattle.elf_headers.specs.Segments.{segment_of, is_load}
use Rattle.elf_headers.specs.Loads.{share, overlap_at}
use Rattle.elf_headers.specs.Spans.{span_at, spans_of, IsClearBelow}
use Rattle.elf_headers.proofs.Below.{first_below-all_none, Contains-answers_below}

-- ---- no pair below the least number that has one

-- the addresses of a program header
abbrev span : List ℕ → ℕ → Span
span file i =
    record { address = (segment_of file i).address; end = (segment_of file i).address + (segment_of file i).memory_size; header = i }

span_is : (file : List ℕ) (i : ℕ) → is_load (segment_of file i) ≡ true → span_at file i ≡ Some (span file i)
unfolding span_at
span_is file i load = rw load refl

span_there : (file : List ℕ) (spans : List Span) (i : ℕ) → IsPermutation (spans_of file) spans → i < program_header_count file
    → is_load (segment_of file i) ≡ true → Contains spans (span file i)
unfolding spans_of
span_there file spans i perm below load =
    Contains-permutation (spans_of file) spans (span file i) perm
    (Contains-answers_below (span_at file) i (program_header_count file) (span file i) (span_is file i load) below)

pair_apart : (file : List ℕ) (spans : List Span) (least i j : ℕ) → IsPermutation (spans_of file) spans → IsClearBelow spans least
    → i < least → i < program_header_count file → j < program_header_count file
    → i < j → is_load (segment_of file i) ≡ true → is_load (segment_of file j) ≡ true → share (segment_of file i) (segment_of file j) ≡ true
    → ⊥
pair_apart file spans least i j perm clear low li lj order one other shared =
    let near = and_parts (nat_lt (segment_of file i).address ((segment_of file j).address + (segment_of file j).memory_size)) _ shared in
    let a = span_there file spans i perm li one in
    let b = span_there file spans j perm lj other in
    let at_i : get_or spans a.0 (span file i) ≡ span file i = a.2 in
    let at_j : get_or spans b.0 (span file i) ≡ span file j = get_or_default spans b.0 (span file i) (span file j) b.1 ∙ b.2 in
    let apart : a.0 ≢ b.0 =
    λ e. let same : i ≡ j =
    sym (ap (λ s. s.header) at_i) ∙ ap (λ k. (get_or spans k (span file i)).header) e ∙ ap (λ s. s.header) at_j in omega arith in
    let first : (segment_of file i).address < (segment_of file j).address + (segment_of file j).memory_size =
    grind (arith, nat_tests, near.0) in
    let second : (segment_of file j).address < (segment_of file i).address + (segment_of file i).memory_size =
    grind (arith, nat_tests, near.1) in
    let place : least ≤ (get_or spans a.0 (span file i)).header =
    clear a.0 b.0 (span file i) a.1 b.1 apart (rw (at_i, at_j) second) (rw (at_i, at_j) first) in
    let here : (get_or spans a.0 (span file i)).header ≡ i = ap (λ s. s.header) at_i in
    omega arith

pair_clear : (file : List ℕ) (spans : List Span) (least i j : ℕ) → IsPermutation (spans_of file) spans → IsClearBelow spans least
    → i < least → i < program_header_count file → j < program_header_count file → overlap_at file i j ≡ None
unfolding overlap_at
pair_clear file spans least i j perm clear low li lj =
    elim (nat_lt i j && is_load (segment_of file i) && is_load (segment_of file j) && share (segment_of file i) (segment_of file j))
    as (λ t. (nat_lt i j && is_load (segment_of file i) && is_load (segment_of file j) && share (segment_of file i) (segment_of file j)) ≡ t
    → fault_when t (Overlap i j) ≡ None) [
      | false ↦ λ t. refl
      | true ↦ λ t.
          let shared = and_parts (nat_lt i j && is_load (segment_of file i) && is_load (segment_of file j)) _ t in
          let other = and_parts (nat_lt i j && is_load (segment_of file i)) _ shared.0 in
          let one = and_parts (nat_lt i j) _ other.0 in
          let order : i < j = grind (arith, nat_tests, one.0) in
          absurd (pair_apart file spans least i j perm clear low li lj order one.1 other.1 shared.1)
    ] refl

pub rows_clear : (file : List ℕ) (spans : List Span) (least : ℕ) → IsPermutation (spans_of file) spans → IsClearBelow spans least
    → least ≤ program_header_count file → first_below (λ i. first_below (overlap_at file i) (program_header_count file)) least ≡ None
rows_clear file spans least perm clear within =
    first_below-all_none _ least (λ i h. first_below-all_none (overlap_at file i) (program_header_count file)
    (λ j k. pair_clear file spans least i j perm clear h (omega arith) k))

-- a program header has no pair with one of a number that is no higher
order_clear : (file : List ℕ) (i j : ℕ) → j ≤ i → overlap_at file i j ≡ None
unfolding overlap_at
order_clear file i j h = let low : nat_lt i j ≡ false = grind (arith, nat_tests) in rw low refl

pub row_begins : (file : List ℕ) (i : ℕ) → first_below (overlap_at file i) (i + 1) ≡ None
row_begins file i = first_below-all_none (overlap_at file i) (i + 1) (λ j h. order_clear file i j (omega arith))
