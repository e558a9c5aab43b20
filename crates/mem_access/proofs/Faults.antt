-- The first check that fails, of those that look at no page and those that do.
use Rattle.std.proofs.Common.{◌≡◌, ℕ, Bool, true, false, refl, ap, sym, ◌∙◌, Option, Some, None, Result, Ok, Err}
use Rattle.sm_types.specs.declared.scalars.Scalars.{Scalars}
use Rattle.sm_types.specs.declared.stop.Exception.{Exception}
use Rattle.std.specs.Option.{option_or}
use Rattle.plain_lemmas.proofs.Options.{option_or-none}
use Rattle.sm_types.specs.Checks.{fault_only}
use Rattle.paged_memory.specs.Memory.{AddressSpace}
use Rattle.mem_access.specs.declared.access.MemoryAccess.{MemoryAccess}
use Rattle.mem_access.specs.DataAccess.{of_run}
use Rattle.mem_access.specs.declared.stop.AccessStop.{AccessStop}
use Rattle.mem_access.specs.Checks.{sp_fault, align_fault}
use Rattle.mem_access.specs.Transfer.{AfterAccess, Transfers}
use Rattle.mem_access.specs.Runs.{place_fault, run_shared_fault, run_read_fault, run_write_fault, denied_read, denied_write, denied_update}
use Rattle.mem_access.specs.Runs.{run_fault}

first_three : (a b c rest : Option Exception)
    → option_or a (option_or b (option_or c rest)) ≡ option_or (option_or a (option_or b (option_or c None))) rest
first_three None None None rest = refl
first_three None None (Some e) rest = refl
first_three None (Some e) c rest = refl
first_three (Some e) b c rest = refl

place_first : (access : MemoryAccess) (s : Scalars) (m : AddressSpace)
    → run_fault access s m ≡ option_or (place_fault access s)
    (option_or (run_read_fault access m) (option_or (run_write_fault access m) None))
unfolding run_fault
place_first access s m =
    first_three (sp_fault (of_run access) s) (align_fault (of_run access)) (run_shared_fault access)
    (option_or (run_read_fault access m) (option_or (run_write_fault access m) None))

-- a check that looks at no page fails
pub fault_raised : (access : MemoryAccess) (s : Scalars) (m : AddressSpace) (e : Exception) → place_fault access s ≡ Some e
    → run_fault access s m ≡ Some e
fault_raised access s m e raised =
    place_first access s m ∙ ap (λ o. option_or o (option_or (run_read_fault access m) (option_or (run_write_fault access m) None))) raised

fault_on : (access : MemoryAccess) (s : Scalars) (m : AddressSpace) (reads writes : Bool) → place_fault access s ≡ None
    → access.reads ≡ reads → access.writes ≡ writes
    → run_fault access s m ≡ option_or (fault_only reads (denied_read m access.address access.size))
    (fault_only writes (denied_write m access.address access.size))
fault_on access s m reads writes none r w =
    place_first access s m ∙ ap (λ o. option_or o (option_or (run_read_fault access m) (option_or (run_write_fault access m) None))) none
    ∙ ap (λ o. option_or (run_read_fault access m) o) (option_or-none (run_write_fault access m))
    ∙ ap (λ b. option_or (fault_only b (denied_read m access.address access.size)) (run_write_fault access m)) r
    ∙ ap (λ b. option_or (fault_only reads (denied_read m access.address access.size))
    (fault_only b (denied_write m access.address access.size))) w

-- none of them does, and the access reads, writes, or does both
pub fault_of_read : (access : MemoryAccess) (s : Scalars) (m : AddressSpace) → place_fault access s ≡ None → access.reads ≡ true
    → access.writes ≡ false → run_fault access s m ≡ denied_read m access.address access.size
fault_of_read access s m none r w = fault_on access s m true false none r w ∙ option_or-none (denied_read m access.address access.size)

pub fault_of_write : (access : MemoryAccess) (s : Scalars) (m : AddressSpace) → place_fault access s ≡ None → access.reads ≡ false
    → access.writes ≡ true → run_fault access s m ≡ denied_write m access.address access.size
fault_of_write access s m none r w = fault_on access s m false true none r w

pub fault_of_update : (access : MemoryAccess) (s : Scalars) (m : AddressSpace) → place_fault access s ≡ None → access.reads ≡ true
    → access.writes ≡ true → run_fault access s m ≡ denied_update m access.address access.size
fault_of_update access s m none r w = fault_on access s m true true none r w

-- the same transfer, said otherwise
pub transfers_as : (fault fault' : Option Exception) (made made' old new : AfterAccess) (r : Result (Unit {0}) AccessStop) → fault' ≡ fault
    → made' ≡ made → Transfers fault made old new r → Transfers fault' made' old new r
transfers_as fault fault' made made' old new (Ok done) f a h = (f ∙ h.0, h.1 ∙ sym a)
transfers_as fault fault' made made' old new (Err stop) f a h = (f ∙ h.0, h.1)

-- ---- the access that the code has, and that of the instruction

pub raised : (of access : MemoryAccess) (s : Scalars) (m : AddressSpace) (e : Exception) → access ≡ of → Some e ≡ place_fault access s
    → run_fault of s m ≡ Some e
raised of access s m e is at = fault_raised of s m e (ap (λ a. place_fault a s) (sym is) ∙ sym at)

no_place : (of access : MemoryAccess) (s : Scalars) → access ≡ of → None ≡ place_fault access s → place_fault of s ≡ None
no_place of access s is none = ap (λ a. place_fault a s) (sym is) ∙ sym none

pub made_reading : (of access : MemoryAccess) (s : Scalars) (m : AddressSpace) (n : ℕ) (after : ℕ → AfterAccess) (old new : AfterAccess)
    (r : Result (Unit {0}) AccessStop) → access ≡ of → None ≡ place_fault access s → of.reads ≡ true → of.writes ≡ false → of.size ≡ n
    → Transfers (denied_read m access.address n) (after access.address) old new r
    → Transfers (run_fault of s m) (after of.address) old new r
made_reading of access s m n after old new r is none reads writes size h =
    transfers_as _ _ _ _ old new r (fault_of_read of s m (no_place of access s is none) reads writes ∙ ap (denied_read m of.address) size
    ∙ ap (λ a. denied_read m a.address n) (sym is)) (ap (λ a. after a.address) (sym is)) h

pub made_writing : (of access : MemoryAccess) (s : Scalars) (m : AddressSpace) (n : ℕ) (after : ℕ → AfterAccess) (old new : AfterAccess)
    (r : Result (Unit {0}) AccessStop) → access ≡ of → None ≡ place_fault access s → of.reads ≡ false → of.writes ≡ true → of.size ≡ n
    → Transfers (denied_write m access.address n) (after access.address) old new r
    → Transfers (run_fault of s m) (after of.address) old new r
made_writing of access s m n after old new r is none reads writes size h =
    transfers_as _ _ _ _ old new r (fault_of_write of s m (no_place of access s is none) reads writes ∙ ap (denied_write m of.address) size
    ∙ ap (λ a. denied_write m a.address n) (sym is)) (ap (λ a. after a.address) (sym is)) h

pub made_updating : (of access : MemoryAccess) (s : Scalars) (m : AddressSpace) (n : ℕ) (after : ℕ → AfterAccess) (old new : AfterAccess)
    (r : Result (Unit {0}) AccessStop) → access ≡ of → None ≡ place_fault access s → of.reads ≡ true → of.writes ≡ true → of.size ≡ n
    → Transfers (denied_update m access.address n) (after access.address) old new r
    → Transfers (run_fault of s m) (after of.address) old new r
made_updating of access s m n after old new r is none reads writes size h =
    transfers_as _ _ _ _ old new r (fault_of_update of s m (no_place of access s is none) reads writes
    ∙ ap (denied_update m of.address) size ∙ ap (λ a. denied_update m a.address n) (sym is)) (ap (λ a. after a.address) (sym is)) h

-- the same, made otherwise
pub made_as : (fault : Option Exception) (made made' old new : AfterAccess) (r : Result (Unit {0}) AccessStop) → made' ≡ made
    → Transfers fault made old new r → Transfers fault made' old new r
made_as fault made made' old new r a h = transfers_as fault fault made made' old new r refl a h
