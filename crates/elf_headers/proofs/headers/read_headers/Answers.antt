use Rattle.std.proofs.Common.{◌≡◌, ◌∙◌, rules, Some, None}
use Rattle.std.specs.List.Sorted.{IsPermutation}
use Rattle.elf_headers.specs.Loads.{pages_fault, entry_fault, headers_fault}
use Rattle.elf_headers.specs.Spans.{spans_of}
use Rattle.elf_headers.proofs.Touched.{pages_fault-is, entry_fault-is}
use Rattle.elf_headers.proofs.Extents.{loads_are_sound}
use Rattle.elf_headers.proofs.headers.read_headers.Goals as goal

pub returns-in_err-check_pages-clause-refused : goal.returns-in_err-check_pages-clause-refused
unfolding headers_fault
returns-in_err-check_pages-clause-refused c =
    let all : IsPermutation (spans_of c.args.file.now) c.as_slice-2.result.now = rw c.as_slice-2.ensures.value c.in_ok-spans.ensures.all in
    let fault : pages_fault c.args.file.now ≡ Some c.in_err-check_pages.field-0.0 =
    pages_fault-is c.args.file.now c.as_slice-2.result.now c.in_ok-check_segments.ensures all ∙ c.in_err-check_pages.ensures in
    search rules

pub returns-in_err-check_entry-clause-refused : goal.returns-in_err-check_entry-clause-refused
unfolding headers_fault
returns-in_err-check_entry-clause-refused c =
    let all : IsPermutation (spans_of c.args.file.now) c.as_slice-2.result.now = rw c.as_slice-2.ensures.value c.in_ok-spans.ensures.all in
    let pages : pages_fault c.args.file.now ≡ None =
    pages_fault-is c.args.file.now c.as_slice-2.result.now c.in_ok-check_segments.ensures all ∙ c.in_ok-check_pages.ensures in
    let fault : entry_fault c.args.file.now ≡ Some c.in_err-check_entry.field-0.0 =
    entry_fault-is c.args.file.now c.u64_at.result c.as_slice-3.result.now c.u64_at.ensures
    (c.as_slice-3.ensures.value ∙ c.in_ok-loads.ensures) ∙ c.in_err-check_entry.ensures in
    search rules

pub returns-clause-accepted : goal.returns-clause-accepted
unfolding headers_fault
returns-clause-accepted c =
    let all : IsPermutation (spans_of c.args.file.now) c.as_slice-2.result.now = rw c.as_slice-2.ensures.value c.in_ok-spans.ensures.all in
    let pages : pages_fault c.args.file.now ≡ None =
    pages_fault-is c.args.file.now c.as_slice-2.result.now c.in_ok-check_segments.ensures all ∙ c.in_ok-check_pages.ensures in
    let entry : entry_fault c.args.file.now ≡ None =
    entry_fault-is c.args.file.now c.u64_at.result c.as_slice-3.result.now c.u64_at.ensures
    (c.as_slice-3.ensures.value ∙ c.in_ok-loads.ensures) ∙ c.in_ok-check_entry.ensures in
    search rules

pub returns-clause-sound : goal.returns-clause-sound
returns-clause-sound c =
    let all : IsPermutation (spans_of c.args.file.now) c.as_slice-2.result.now = rw c.as_slice-2.ensures.value c.in_ok-spans.ensures.all in
    let pages : pages_fault c.args.file.now ≡ None =
    pages_fault-is c.args.file.now c.as_slice-2.result.now c.in_ok-check_segments.ensures all ∙ c.in_ok-check_pages.ensures in
    loads_are_sound c.args.file.now c.in_ok-loads.loads.items c.in_ok-loads.ensures c.in_ok-check_segments.ensures
    c.in_ok-check_overlap.ensures pages
