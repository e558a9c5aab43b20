-- What is known of a write by its answer.
use Rattle.std.proofs.Common.{◌≡◌, ◌≢◌, ℕ, ◌+◌, List, [], length, refl, ap, sym, ◌∙◌, subst, None}
use Rattle.std.specs.Prelude.{Result, Ok, Err, OnOk, OnErr, IfErr}
use Rattle.std.specs.Result.{IsErrAnd}
use Rattle.std.specs.FinSet.{len, contains}
use Rattle.paged_memory.specs.declared.page.Page.{Page}
use Rattle.paged_memory.specs.declared.pages.WriteStop.{WriteStop}
use Rattle.paged_memory.specs.declared.pages.WriteStop.TheVariants as stop
use Rattle.paged_memory.specs.Memory.{first_without, run_of, set_bytes}
use Rattle.paged_memory.specs.PageTable.{PageTable, AreOwned, Owns, OwnsAlso, KeepsOwned, shared_pages, owned_count}
use Rattle.paged_memory.specs.Accesses.{stopped_at, IsOfWrite}
use Rattle.paged_memory.specs.Writes.{Writes}
use Rattle.paged_memory.specs.Pages.{mem_of, perm_of, own_numbers, memory_of, table_of}
use Rattle.paged_memory.proofs.Over.{set_bytes-none}
use Rattle.paged_memory.proofs.Counted.{owned_count-also}

-- ---- that a write is made, or not

writes_no_bytes : (a : ℕ) (t : PageTable) → Writes {Value = Unit {0}} a [] t t (Ok tt)
unfolding run_of first_without
writes_no_bytes a t = (λ j. record { mem = set_bytes-none t.memory.mem a j; perm = t.memory.perm }, refl, λ number. refl)

pub writes_none : (a : ℕ) (bytes : List ℕ) (t : PageTable) → bytes ≡ [] → Writes {Value = Unit {0}} a bytes t t (Ok tt)
writes_none a bytes t e =
    let P : List ℕ → Type 0 = λ bs. Writes {Value = Unit {0}} a bs t t (Ok tt) in subst P (sym e) (writes_no_bytes a t)

-- the pages are owned first, and then the bytes are set
pub writes_made : (a : ℕ) (bytes : List ℕ) (ps qs rs : List Page) → memory_of qs ≡ memory_of ps
    → first_without 2 (memory_of ps) a (length bytes) ≡ None → OwnsAlso (table_of ps) (table_of qs) (run_of a (length bytes))
    → mem_of rs ≡ set_bytes (mem_of qs) a bytes → perm_of rs ≡ perm_of qs → own_numbers rs ≡ own_numbers qs
    → Writes {Value = Unit {0}} a bytes (table_of ps) (table_of rs) (Ok tt)
writes_made a bytes ps qs rs same none owns mem perm numbers =
    let mem_is : mem_of rs ≡ set_bytes (mem_of ps) a bytes = mem ∙ ap (λ m. set_bytes m.mem a bytes) same in
    let perm_is : perm_of rs ≡ perm_of ps = perm ∙ ap (λ m. m.perm) same in
    (λ j. record { mem = mem_is j; perm = perm_is j }, none, λ n. ap (λ s. contains s n) numbers ∙ owns n)

pub writes_wanting : (a : ℕ) (bytes : List ℕ) (old new : PageTable) (r : Result (Unit {0}) WriteStop)
    → IsErrAnd r (λ s. s ≡ stop.Memory) → new.memory ≡ old.memory → first_without 2 old.memory a (length bytes) ≡ None
    → KeepsOwned old new → (AreOwned old a (length bytes) → ⊥) → Writes a bytes old new r
writes_wanting a bytes old new (Ok v) e same none kept wants = absurd e
writes_wanting a bytes old new (Err s) e same none kept wants =
    let P : WriteStop → Type 0 = λ s. Writes {Value = Unit {0}} a bytes old new (Err s) in subst P (sym e) (same, none, kept, wants)

-- ---- what its answer tells

-- of pages that are seen as a table
pub written : {V : Type 0} (address : ℕ) (bytes : List ℕ) (ps qs : List Page) (old : PageTable) (r : Result V WriteStop)
    → table_of ps ≡ old → Writes address bytes (table_of ps) (table_of qs) r → Writes address bytes old (table_of qs) r
written address bytes ps qs old r is w = subst (λ t. Writes address bytes t (table_of qs) r) is w

module _ {V : Type 0} (address : ℕ) (bytes : List ℕ) (old new : PageTable) where
  pub written_ok : (r : Result V WriteStop) → Writes address bytes old new r
      → OnOk r (new.memory ≡ record old.memory { mem = set_bytes old.memory.mem address bytes })
  written_ok (Ok v) w = w.0
  written_ok (Err (stop.Abort a)) w = tt
  written_ok (Err stop.Memory) w = tt

  pub written_allowed : (r : Result V WriteStop) → Writes address bytes old new r
      → OnOk r (first_without 2 old.memory address (length bytes) ≡ None)
  written_allowed (Ok v) w = w.1
  written_allowed (Err (stop.Abort a)) w = tt
  written_allowed (Err stop.Memory) w = tt

  pub written_abort : (r : Result V WriteStop) → Writes address bytes old new r
      → IfErr r (λ e. first_without 2 old.memory address (length bytes) ≡ stopped_at e)
  written_abort (Ok v) w = tt
  written_abort (Err (stop.Abort a)) w = w.1
  written_abort (Err stop.Memory) w = w.1

  pub written_access : (r : Result V WriteStop) → Writes address bytes old new r → IfErr r IsOfWrite
  written_access (Ok v) w = tt
  written_access (Err (stop.Abort a)) w = w.2
  written_access (Err stop.Memory) w = tt

  pub written_err : (r : Result V WriteStop) → Writes address bytes old new r → OnErr r (new.memory ≡ old.memory)
  written_err (Ok v) w = tt
  written_err (Err (stop.Abort a)) w = ap (λ t. t.memory) w.0
  written_err (Err stop.Memory) w = w.0

  pub written_room : (r : Result V WriteStop) → Writes address bytes old new r → AreOwned old address (length bytes)
      → r ≢ Err stop.Memory
  written_room (Ok v) w owned = λ e. cc
  written_room (Err (stop.Abort a)) w owned = λ e. cc
  written_room (Err stop.Memory) w owned = λ e. w.3 owned

  pub written_owned : (r : Result V WriteStop) → Writes address bytes old new r
      → Owns stopped_at (run_of address (length bytes)) old new r
  written_owned (Ok v) w = w.2
  written_owned (Err (stop.Abort a)) w = w.0
  written_owned (Err stop.Memory) w = w.2

  pub written_count : (r : Result V WriteStop) → Writes address bytes old new r
      → OnOk r (owned_count new ≡ owned_count old + len (shared_pages old (run_of address (length bytes))))
  written_count (Ok v) w = owned_count-also old new (run_of address (length bytes)) w.2
  written_count (Err (stop.Abort a)) w = tt
  written_count (Err stop.Memory) w = tt

  -- no permission is changed
  pub written_perm : (r : Result V WriteStop) → Writes address bytes old new r → new.memory.perm ≡ old.memory.perm
  written_perm (Ok v) w = ap (λ m. m.perm) w.0
  written_perm (Err (stop.Abort a)) w = ap (λ t. t.memory.perm) w.0
  written_perm (Err stop.Memory) w = ap (λ m. m.perm) w.0
