-- Ordered and atomic accesses, by their kind.
use Rattle.std.proofs.Common.{◌≡◌, ℕ, Bool, true, false, ap, ◌∙◌, None, Result}
use Rattle.sm_types.specs.declared.scalars.Scalars.{Scalars}
use Rattle.sm_types.specs.declared.insn.Atomic.{Atomic}
use Rattle.paged_memory.specs.Memory.{AddressSpace}
use Rattle.mem_access.specs.declared.access.MemoryAccess.{MemoryAccess}
use Rattle.mem_access.specs.declared.stop.AccessStop.{AccessStop}
use Rattle.mem_access.specs.Access.{atomic_access}
use Rattle.mem_access.specs.Transfer.{AfterAccess, Transfers}
use Rattle.mem_access.specs.Runs.{place_fault, denied_read, denied_write, denied_update, run_fault, after_atomic}
use Rattle.mem_access.proofs.Faults.{made_reading, made_writing, made_updating, made_as}

-- an instruction of a kind, and the code's access
pub record IsOfKind (x y : Atomic) (at : MemoryAccess) (s : Scalars) (n : ℕ) (read write : Bool) : Type 0 where
  pub kind : x ≡ y
  pub access : at ≡ atomic_access x s
  pub placed : None ≡ place_fault at s
  pub reads : (atomic_access y s).reads ≡ read
  pub writes : (atomic_access y s).writes ≡ write
  pub size : (atomic_access y s).size ≡ n

-- by its fields in turn
pub of_kind : {x y : Atomic} {at : MemoryAccess} {s : Scalars} {n : ℕ} {read write : Bool} → x ≡ y → at ≡ atomic_access x s
    → None ≡ place_fault at s → (atomic_access y s).reads ≡ read → (atomic_access y s).writes ≡ write
    → (atomic_access y s).size ≡ n → IsOfKind x y at s n read write
of_kind kind access placed reads writes size = record {
  kind = kind;
  access = access;
  placed = placed;
  reads = reads;
  writes = writes;
  size = size;
}

after_kind : (x y : Atomic) (s : Scalars) (m : AddressSpace) (made : ℕ → AfterAccess) → x ≡ y → ((a : ℕ) → after_atomic y a s m ≡ made a)
    → (a : ℕ) → after_atomic x a s m ≡ made a
after_kind x y s m made is h a = ap (λ k. after_atomic k a s m) is ∙ h a

pub atomic_read : (x y : Atomic) (access : MemoryAccess) (s : Scalars) (m : AddressSpace) (n : ℕ) (made : ℕ → AfterAccess)
    (old new : AfterAccess) (r : Result (Unit {0}) AccessStop) → IsOfKind x y access s n true false
    → ((a : ℕ) → after_atomic y a s m ≡ made a)
    → Transfers (denied_read m access.address n) (made access.address) old new r
    → Transfers (run_fault (atomic_access x s) s m) (after_atomic x (atomic_access x s).address s m) old new r
atomic_read x y access s m n made old new r is after h =
    made_as _ _ _ old new r (after_kind x y s m made is.kind after (atomic_access x s).address)
    (made_reading (atomic_access x s) access s m n made old new r is.access is.placed
    (ap (λ k. (atomic_access k s).reads) is.kind ∙ is.reads) (ap (λ k. (atomic_access k s).writes) is.kind ∙ is.writes)
    (ap (λ k. (atomic_access k s).size) is.kind ∙ is.size) h)

pub atomic_written : (x y : Atomic) (access : MemoryAccess) (s : Scalars) (m : AddressSpace) (n : ℕ) (made : ℕ → AfterAccess)
    (old new : AfterAccess) (r : Result (Unit {0}) AccessStop) → IsOfKind x y access s n false true
    → ((a : ℕ) → after_atomic y a s m ≡ made a)
    → Transfers (denied_write m access.address n) (made access.address) old new r
    → Transfers (run_fault (atomic_access x s) s m) (after_atomic x (atomic_access x s).address s m) old new r
atomic_written x y access s m n made old new r is after h =
    made_as _ _ _ old new r (after_kind x y s m made is.kind after (atomic_access x s).address)
    (made_writing (atomic_access x s) access s m n made old new r is.access is.placed
    (ap (λ k. (atomic_access k s).reads) is.kind ∙ is.reads) (ap (λ k. (atomic_access k s).writes) is.kind ∙ is.writes)
    (ap (λ k. (atomic_access k s).size) is.kind ∙ is.size) h)

pub atomic_updated : (x y : Atomic) (access : MemoryAccess) (s : Scalars) (m : AddressSpace) (n : ℕ) (made : ℕ → AfterAccess)
    (old new : AfterAccess) (r : Result (Unit {0}) AccessStop) → IsOfKind x y access s n true true
    → ((a : ℕ) → after_atomic y a s m ≡ made a)
    → Transfers (denied_update m access.address n) (made access.address) old new r
    → Transfers (run_fault (atomic_access x s) s m) (after_atomic x (atomic_access x s).address s m) old new r
atomic_updated x y access s m n made old new r is after h =
    made_as _ _ _ old new r (after_kind x y s m made is.kind after (atomic_access x s).address)
    (made_updating (atomic_access x s) access s m n made old new r is.access is.placed
    (ap (λ k. (atomic_access k s).reads) is.kind ∙ is.reads) (ap (λ k. (atomic_access k s).writes) is.kind ∙ is.writes)
    (ap (λ k. (atomic_access k s).size) is.kind ∙ is.size) h)
