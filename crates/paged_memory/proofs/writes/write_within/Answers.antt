use Rattle.std.proofs.Common.{◌≡◌, ◌<◌, ◌/◌, ◌∙◌, [], length, arith, refl, sym, ap, None, true≢false}
use Rattle.std.specs.Prelude.{IsSome}
use Rattle.std.specs.FinMap.{get}
use Rattle.std.specs.FinSet.{contains}
use Rattle.std.proofs.lemmas.Bool.Decides.{nat_tests}
use Rattle.std.proofs.lemmas.List.{nil_from_length}
use Rattle.paged_memory.specs.Memory.{first_without}
use Rattle.paged_memory.specs.Pages.{perm_of, own_numbers, memory_of, table_of}
use Rattle.paged_memory.proofs.Runs.{run_permitted, run_denied, run_gone}
use Rattle.paged_memory.proofs.Owned.{owns_page, owned_first}
use Rattle.paged_memory.proofs.Held.{found_some, itself_member}
use Rattle.paged_memory.proofs.Written.{writes_none, writes_made, writes_wanting}
use Rattle.paged_memory.proofs.writes.write_within.Goals as goal

pub returns-then-is_empty-clause-writes : goal.returns-then-is_empty-clause-writes
returns-then-is_empty-clause-writes c =
    let none : c.args.bytes.now ≡ [] = nil_from_length c.args.bytes.now (grind (arith, nat_tests)) in
    writes_none c.args.address c.args.bytes.now (table_of c.args.pages.now.items) none

pub returns-then-index-ne2-clause-writes : goal.returns-then-index-ne2-clause-writes
returns-then-index-ne2-clause-writes c =
    let some : 0 < length c.args.bytes.now = grind (arith, nat_tests) in (
      refl,
      run_denied c.args.pages.now.items 2 c.args.address (length c.args.bytes.now) c.in-Some.i c.index.result.now c.requires.fine
          (rw c.as_slice.ensures.value at c.in-Some.ensures.1) (rw c.as_slice.ensures.value at c.in-Some.ensures.0) c.index.ensures
          c.if-index-ne2.true (omega arith) some,
      refl,
    )

pub returns-in_err-own_at-in-Some-clause-writes : goal.returns-in_err-own_at-in-Some-clause-writes
returns-in_err-own_at-in-Some-clause-writes c =
    let some : 0 < length c.args.bytes.now = grind (arith, nat_tests) in
    let there : IsSome (get (perm_of c.args.pages.now.items) (c.args.address / 4096)) =
    found_some c.args.pages.now.items (c.args.address / 4096) c.in-Some.i (rw c.as_slice.ensures.value at c.in-Some.ensures.0)
    (rw c.as_slice.ensures.value at c.in-Some.ensures.1) in
    let none : first_without 2 (memory_of c.args.pages.now.items) c.args.address (length c.args.bytes.now) ≡ None =
    run_permitted c.args.pages.now.items 2 c.args.address (length c.args.bytes.now) c.in-Some.i c.index.result.now c.requires.fine
    (rw c.as_slice.ensures.value at c.in-Some.ensures.1) (rw c.as_slice.ensures.value at c.in-Some.ensures.0) c.index.ensures
    c.if-index-ne2.false (omega arith) c.requires.fits in
    writes_wanting c.args.address c.args.bytes.now (table_of c.args.pages.now.items) (table_of c.own_at.new.pages.items)
    c.from_residual.result c.from_residual.ensures.1 c.own_at.ensures.memory none
    (λ n owned. ap (λ s. contains s n) c.in_err-own_at-in-Some.ensures.err ∙ owned)
    (λ owned. true≢false (sym (owned_first (table_of c.args.pages.now.items) c.args.address (length c.args.bytes.now) owned (omega arith)
    some there) ∙ c.in_err-own_at-in-Some.ensures.room))

pub set_at-requires-clause-owned : goal.set_at-requires-clause-owned
set_at-requires-clause-owned c =
    ap (λ s. contains s (c.args.address / 4096)) c.in_ok-own_at-in-Some.ensures.ok
    ∙ itself_member (own_numbers c.args.pages.now.items) (c.args.address / 4096)

pub returns-in_ok-own_at-in-Some-clause-writes : goal.returns-in_ok-own_at-in-Some-clause-writes
returns-in_ok-own_at-in-Some-clause-writes c =
    let some : 0 < length c.args.bytes.now = grind (arith, nat_tests) in
    let there : IsSome (get (perm_of c.args.pages.now.items) (c.args.address / 4096)) =
    found_some c.args.pages.now.items (c.args.address / 4096) c.in-Some.i (rw c.as_slice.ensures.value at c.in-Some.ensures.0)
    (rw c.as_slice.ensures.value at c.in-Some.ensures.1) in
    let none : first_without 2 (memory_of c.args.pages.now.items) c.args.address (length c.args.bytes.now) ≡ None =
    run_permitted c.args.pages.now.items 2 c.args.address (length c.args.bytes.now) c.in-Some.i c.index.result.now c.requires.fine
    (rw c.as_slice.ensures.value at c.in-Some.ensures.1) (rw c.as_slice.ensures.value at c.in-Some.ensures.0) c.index.ensures
    c.if-index-ne2.false (omega arith) c.requires.fits in
    writes_made c.args.address c.args.bytes.now c.args.pages.now.items c.own_at.new.pages.items c.set_at.new.pages.items
    c.own_at.ensures.memory none
    (owns_page (table_of c.args.pages.now.items) (table_of c.own_at.new.pages.items) c.args.address (length c.args.bytes.now)
    (omega arith) some c.requires.fits there c.in_ok-own_at-in-Some.ensures.ok)
    c.set_at.ensures.bytes c.set_at.ensures.flags c.set_at.ensures.owned

pub returns-in-None-clause-writes : goal.returns-in-None-clause-writes
returns-in-None-clause-writes c =
    let some : 0 < length c.args.bytes.now = grind (arith, nat_tests) in (
      refl,
      run_gone c.args.pages.now.items 2 c.args.address (length c.args.bytes.now) c.requires.fine
          (rw c.as_slice.ensures.value at c.in-None.ensures) (omega arith) some,
      refl,
    )
