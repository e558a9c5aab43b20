use Rattle.std.proofs.Common.{◌/◌, arith}
use Rattle.std.proofs.lemmas.Result.{on_ok_weaker}
use Rattle.std.specs.Prelude.{IsSome}
use Rattle.std.specs.FinMap.{get}
use Rattle.std.specs.FinSet.{contains}
use Rattle.paged_memory.specs.Pages.{perm_of, own_numbers, table_of}
use Rattle.paged_memory.proofs.Set.{none_found}
use Rattle.paged_memory.proofs.Owned.{owns_page, owns_no_page, owned_first}
use Rattle.paged_memory.proofs.Held.{answer_is_ok, still_members, found_some}
use Rattle.paged_memory.proofs.writes.own_within.Goals as goal

pub returns-in-Some-clause-ok : goal.returns-in-Some-clause-ok
returns-in-Some-clause-ok c =
    let there : IsSome (get (perm_of c.args.pages.now.items) (c.args.address / 4096)) =
    found_some c.args.pages.now.items (c.args.address / 4096) c.in-Some.i (rw c.as_slice.ensures.value at c.in-Some.ensures.0)
    (rw c.as_slice.ensures.value at c.in-Some.ensures.1) in
    on_ok_weaker c.own_at.result (λ is. owns_page (table_of c.args.pages.now.items) (table_of c.own_at.new.pages.items) c.args.address
    c.args.count (omega arith) c.requires.some c.requires.fits there is) c.own_at.ensures.ok

pub returns-in-Some-clause-room : goal.returns-in-Some-clause-room
returns-in-Some-clause-room c owned =
    let there : IsSome (get (perm_of c.args.pages.now.items) (c.args.address / 4096)) =
    found_some c.args.pages.now.items (c.args.address / 4096) c.in-Some.i (rw c.as_slice.ensures.value at c.in-Some.ensures.0)
    (rw c.as_slice.ensures.value at c.in-Some.ensures.1) in
    answer_is_ok c.own_at.result (contains (own_numbers c.args.pages.now.items) (c.args.address / 4096)) c.own_at.ensures.room
    (owned_first (table_of c.args.pages.now.items) c.args.address c.args.count owned (omega arith) c.requires.some there)

pub returns-in-Some-clause-kept : goal.returns-in-Some-clause-kept
returns-in-Some-clause-kept c n =
    still_members c.own_at.result (own_numbers c.args.pages.now.items) (own_numbers c.own_at.new.pages.items) (c.args.address / 4096) n
    c.own_at.ensures.ok c.own_at.ensures.err

pub returns-in-None-clause-ok : goal.returns-in-None-clause-ok
returns-in-None-clause-ok c =
    owns_no_page (table_of c.args.pages.now.items) c.args.address c.args.count (omega arith) c.requires.some c.requires.fits
    (none_found c.args.pages.now.items (c.args.address / 4096) (rw c.as_slice.ensures.value at c.in-None.ensures))
