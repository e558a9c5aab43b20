-- What is known where no check of an access fails.
use Rattle.std.proofs.Common.{◌≡◌, ℕ, true, false, sym, ◌∙◌, List, Option, None, Result, Ok, Err, ap}
use Rattle.std.specs.Prelude.{OnOk, IfErr, OnErr}
use Rattle.mem_access.specs.declared.stop.AccessStop.{AccessStop}
use Rattle.mem_access.specs.Transfer.{Transfers, raised_by}
use Rattle.std.specs.List.{find}
use Rattle.std.specs.Option.{option_or}
use Rattle.plain_lemmas.proofs.Options.{option_or-none, option_map-none, second_none, first_none}
use Rattle.sm_types.specs.declared.scalars.Scalars.{Scalars}
use Rattle.sm_types.specs.declared.stop.Exception.{Exception}
use Rattle.sm_types.specs.declared.stop.Exception.TheVariants.{Data}
use Rattle.sm_types.specs.declared.stop.Access.TheVariants.{Read, Write}
use Rattle.paged_memory.specs.Memory.{AddressSpace, first_without, run_of}
use Rattle.mem_access.specs.DataAccess.{DataAccess}
use Rattle.mem_access.specs.Checks.{lacks, access_fault, sp_fault, align_fault, shared_fault, read_fault, write_fault}
use Rattle.mem_access.proofs.Lists.{denied_run}
use Rattle.sve_access.specs.After.{at_base}

past_three : (a b c rest : Option Exception) → option_or a (option_or b (option_or c rest)) ≡ None → rest ≡ None
past_three a b c rest e = second_none c rest (second_none b (option_or c rest) (second_none a (option_or b (option_or c rest)) e))

-- a load can read its bytes
pub can_read : (rn : ℕ) (bytes : List ℕ) (s : Scalars) (m : AddressSpace) → access_fault None (at_base rn false bytes) s m ≡ None
    → find (lacks 4 m) bytes ≡ None
unfolding access_fault
can_read rn bytes s m none =
    let access : DataAccess = at_base rn false bytes in
    option_map-none (λ a. Data a Read) (find (lacks 4 m) bytes)
    (first_none (read_fault access m) (option_or (write_fault access m) None)
    (past_three (sp_fault access s) (align_fault access) (shared_fault access)
    (option_or (read_fault access m) (option_or (write_fault access m) None)) none))

-- a store can write its bytes
pub can_write : (rn : ℕ) (bytes : List ℕ) (s : Scalars) (m : AddressSpace) → access_fault None (at_base rn true bytes) s m ≡ None
    → find (lacks 2 m) bytes ≡ None
unfolding access_fault
can_write rn bytes s m none =
    let access : DataAccess = at_base rn true bytes in
    option_map-none (λ a. Data a Write) (find (lacks 2 m) bytes)
    (first_none (write_fault access m) None
    (second_none (read_fault access m) (option_or (write_fault access m) None)
    (past_three (sp_fault access s) (align_fault access) (shared_fault access)
    (option_or (read_fault access m) (option_or (write_fault access m) None)) none)))

pub can_read_run : (rn a n : ℕ) (s : Scalars) (m : AddressSpace) → access_fault None (at_base rn false (run_of a n)) s m ≡ None
    → first_without 4 m a n ≡ None
can_read_run rn a n s m none = sym (denied_run 4 m a n) ∙ can_read rn (run_of a n) s m none

-- bytes that are written, where no other check fails: a write that is not made is denied, or wants memory
pub stored_run : (fault denied : Option Exception) (made left old new : AddressSpace) (r : Result (Unit {0}) AccessStop)
    → fault ≡ denied → made ≡ left → OnOk r (denied ≡ None) → OnOk r (new ≡ left) → IfErr r (λ e. denied ≡ raised_by e)
    → OnErr r (new ≡ old) → Transfers fault made old new r
stored_run fault denied made left old new (Ok done) so is free ok stop same = (so ∙ free, ok ∙ sym is)
stored_run fault denied made left old new (Err e) so is free ok stop same = (so ∙ stop, same)

-- the checks that the code makes
pub load_is : (rn : ℕ) (bytes : List ℕ) (s : Scalars) (m : AddressSpace)
    → option_or (sp_fault (at_base rn false bytes) s)
    (option_or (shared_fault (at_base rn false bytes)) (read_fault (at_base rn false bytes) m))
    ≡ access_fault None (at_base rn false bytes) s m
unfolding access_fault
load_is rn bytes s m =
    ap (λ o. option_or (sp_fault (at_base rn false bytes) s) (option_or (shared_fault (at_base rn false bytes)) o))
    (sym (option_or-none (read_fault (at_base rn false bytes) m)))

pub store_is : (rn : ℕ) (bytes : List ℕ) (s : Scalars) (m : AddressSpace)
    → option_or (sp_fault (at_base rn true bytes) s)
    (option_or (shared_fault (at_base rn true bytes)) (write_fault (at_base rn true bytes) m))
    ≡ access_fault None (at_base rn true bytes) s m
unfolding access_fault
store_is rn bytes s m =
    ap (λ o. option_or (sp_fault (at_base rn true bytes) s) (option_or (shared_fault (at_base rn true bytes)) o))
    (sym (option_or-none (write_fault (at_base rn true bytes) m)))
