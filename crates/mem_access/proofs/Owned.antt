-- Which bytes an instruction writes, as the code writes them.
use Rattle.std.proofs.Common.{◌≡◌, ℕ, ◌*◌, ◌==◌, Bool, true, false, cond, List, [], refl, ap, sym, ◌∙◌, subst, Some, None, Result}
use Rattle.sm_types.specs.declared.scalars.Scalars.{Scalars}
use Rattle.sm_types.specs.declared.insn.Insn.{Insn}
use Rattle.sm_types.specs.declared.insn.Insn.TheVariants as insn
use Rattle.sm_types.specs.declared.insn.LoadStoreOp.{LoadStoreOp}
use Rattle.sm_types.specs.declared.insn.LoadStoreOp.TheVariants.{Store, Load, LoadSignedTo64, LoadSignedTo32}
use Rattle.sm_types.specs.declared.insn.LoadStore.{LoadStore}
use Rattle.sm_types.specs.declared.insn.PairOp.TheVariants.{Stp, Ldp}
use Rattle.sm_types.specs.declared.insn.LoadStorePair.{LoadStorePair}
use Rattle.sm_types.specs.declared.insn.Atomic.{Atomic}
use Rattle.sm_types.specs.declared.insn.Atomic.TheVariants as atomic
use Rattle.scalar_exec.specs.Registers.{x_of}
use Rattle.paged_memory.specs.Memory.{AddressSpace, run_of}
use Rattle.paged_memory.specs.PageTable.{PageTable, Owns}
use Rattle.mem_access.specs.declared.access.MemoryAccess.{MemoryAccess}
use Rattle.mem_access.specs.declared.stop.AccessStop.{AccessStop}
use Rattle.mem_access.specs.Access.{bytes_in, register_size, load_store_access, pair_access, atomic_access}
use Rattle.mem_access.specs.Values.{low_bytes, number_at}
use Rattle.mem_access.specs.Transfer.{is_access, raised_by, writes_of, written_addresses, load_store_stored, pair_stored, atomic_stored}
use Rattle.mem_access.specs.Runs.{number_in}
use Rattle.mem_access.proofs.Lists.{number_run}

-- the same bytes, said otherwise
pub owns_as : {Value : Type 0} (xs ys : List ℕ) (old new : PageTable) (r : Result Value AccessStop) → xs ≡ ys
    → Owns raised_by ys old new r → Owns raised_by xs old new r
owns_as xs ys old new r same owns = subst (λ bytes. Owns raised_by bytes old new r) (sym same) owns

-- a store writes all bytes of its access
pub store_writes : (x : LoadStore) (access : MemoryAccess) (s : Scalars) (m : AddressSpace) → access ≡ load_store_access x s → x.op ≡ Store
    → writes_of (insn.LoadStore x) s m ≡ run_of access.address (bytes_in x.size)
unfolding load_store_stored load_store_access
store_writes x access s m is store =
    ap (λ op. written_addresses (run_of (load_store_access x s).address (bytes_in x.size)) (load_store_stored op x s)) store
    ∙ ap (λ a. run_of a.address (bytes_in x.size)) (sym is)

-- a load writes none
pub load_writes : (x : LoadStore) (s : Scalars) (m : AddressSpace) → (x.op ≡ Store → ⊥) → writes_of (insn.LoadStore x) s m ≡ []
unfolding load_store_stored
load_writes x s m load = none x.op load
  where
    none : (op : LoadStoreOp) → (op ≡ Store → ⊥)
        → written_addresses (run_of (load_store_access x s).address (load_store_access x s).size) (load_store_stored op x s) ≡ []
    none Store load = absurd (load refl)
    none Load load = refl
    none LoadSignedTo64 load = refl
    none LoadSignedTo32 load = refl

pub store_pair_writes : (x : LoadStorePair) (access : MemoryAccess) (s : Scalars) (m : AddressSpace) → access ≡ pair_access x s → x.op ≡ Stp
    → writes_of (insn.LoadStorePair x) s m ≡ run_of access.address (2 * register_size x.wide)
unfolding pair_stored pair_access
store_pair_writes x access s m is store =
    ap (λ op. written_addresses (run_of (pair_access x s).address (2 * register_size x.wide)) (pair_stored op x s)) store
    ∙ ap (λ a. run_of a.address (2 * register_size x.wide)) (sym is)

pub load_pair_writes : (x : LoadStorePair) (s : Scalars) (m : AddressSpace) → x.op ≡ Ldp → writes_of (insn.LoadStorePair x) s m ≡ []
unfolding pair_stored
load_pair_writes x s m load =
    ap (λ op. written_addresses (run_of (pair_access x s).address (pair_access x s).size) (pair_stored op x s)) load

-- an ordered or atomic access writes by its kind
pub atomic_writes : (x y : Atomic) (access : MemoryAccess) (s : Scalars) (m : AddressSpace) (written : ℕ → List ℕ) → x ≡ y
    → access ≡ atomic_access x s → writes_of (insn.Atomic y) s m ≡ written (atomic_access y s).address
    → writes_of (insn.Atomic x) s m ≡ written access.address
atomic_writes x y access s m written kind is h =
    ap (λ k. writes_of (insn.Atomic k) s m) kind ∙ h
    ∙ ap (λ a. written a.address) (sym (is ∙ ap (λ k. atomic_access k s) kind))

written_where : (equal : Bool) (addresses bytes : List ℕ)
    → written_addresses addresses (cond equal (Some bytes) None) ≡ cond equal addresses []
written_where true addresses bytes = refl
written_where false addresses bytes = refl

pub cas_writes : (x : Atomic) (n : _) (acquire release : Bool) (rs rn rt : ℕ) (access : MemoryAccess) (s : Scalars) (m : AddressSpace)
    → x ≡ atomic.Cas n acquire release rs rn rt → access ≡ atomic_access x s
    → writes_of (insn.Atomic x) s m
    ≡ cond (number_in m access.address (bytes_in n) == low_bytes (bytes_in n) (x_of s rs)) (run_of access.address (bytes_in n)) []
unfolding atomic_stored atomic_access
cas_writes x n acquire release rs rn rt access s m kind is =
    let y : Atomic = atomic.Cas n acquire release rs rn rt in
    let a : ℕ = (atomic_access y s).address in
    atomic_writes x y access s m
    (λ a. cond (number_in m a (bytes_in n) == low_bytes (bytes_in n) (x_of s rs)) (run_of a (bytes_in n)) []) kind is
    (written_where (number_at m (run_of a (bytes_in n)) == low_bytes (bytes_in n) (x_of s rs)) (run_of a (bytes_in n)) _
    ∙ ap (λ v. cond (v == low_bytes (bytes_in n) (x_of s rs)) (run_of a (bytes_in n)) []) (number_run m a (bytes_in n) (bytes_in n) refl))
