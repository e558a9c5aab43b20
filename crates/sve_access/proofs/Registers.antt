-- What the instruction of a vector or of a predicate makes, for both at once.
use Rattle.std.proofs.Common.{◌≡◌, ℕ, ℤ, Bool, true, false, refl, List, [], Some, None, Ok}
use Rattle.sm_types.specs.declared.scalars.Scalars.{Scalars}
use Rattle.sve_vectors.specs.Registers.{VectorRegisters}
use Rattle.sve_vectors.specs.State.{SveState, length_of}
use Rattle.scalar_exec.specs.Registers.{x_or_sp}
use Rattle.paged_memory.specs.Memory.{AddressSpace, run_of}
use Rattle.paged_memory.specs.PageTable.{PageTable}
use Rattle.mem_access.specs.Checks.{access_fault}
use Rattle.sve_access.specs.declared.transfers.Register.{Register}
use Rattle.sve_access.specs.declared.transfers.Register.TheVariants.{Vector, Predicate}
use Rattle.sve_access.specs.Contiguous.{multiple_from}
use Rattle.sve_access.specs.After.{access_of, at_base, registers_after, read_bytes, stored, writes_of, IsMade, KeepsLengths}
use Rattle.sve_access.specs.Registers.{register_access, register_size, register_bytes, with_register}

-- the access
pub access_is : (x : Register) (store : Bool) (times : ℤ) (rn : ℕ) (s : Scalars) (l : ℕ) (r : VectorRegisters)
    → access_of (register_access x store times rn) s l r
    ≡ at_base rn store (run_of (multiple_from (x_or_sp s rn) times (register_size x l)) (register_size x l))
unfolding access_of
access_is (Vector zt) store times rn s l r = refl
access_is (Predicate pt) store times rn s l r = refl

-- a store leaves the registers
pub registers_kept : (x : Register) (times : ℤ) (rn : ℕ) (s : Scalars) (l : ℕ) (r : VectorRegisters) (m : AddressSpace)
    → registers_after (register_access x true times rn) s l r m ≡ r
unfolding registers_after
registers_kept (Vector zt) times rn s l r m = refl
registers_kept (Predicate pt) times rn s l r m = refl

-- the bytes that it stores
pub stored_is : (x : Register) (times : ℤ) (rn : ℕ) (r : VectorRegisters)
    → stored (register_access x true times rn) r ≡ Some (register_bytes x r)
unfolding stored
stored_is (Vector zt) times rn r = refl
stored_is (Predicate pt) times rn r = refl

-- the bytes that it writes, and that a load writes none
pub store_writes : (x : Register) (times : ℤ) (rn : ℕ) (s : Scalars) (l : ℕ) (r : VectorRegisters)
    → writes_of (register_access x true times rn) s l r
    ≡ run_of (multiple_from (x_or_sp s rn) times (register_size x l)) (register_size x l)
unfolding access_of stored
store_writes (Vector zt) times rn s l r = refl
store_writes (Predicate pt) times rn s l r = refl

pub load_writes : (x : Register) (times : ℤ) (rn : ℕ) (s : Scalars) (l : ℕ) (r : VectorRegisters)
    → writes_of (register_access x false times rn) s l r ≡ []
unfolding stored
load_writes (Vector zt) times rn s l r = refl
load_writes (Predicate pt) times rn s l r = refl

-- what a load has made, where no check fails
pub load_made : (x : Register) (times : ℤ) (rn address : ℕ) (s : Scalars) (v new : SveState) (pages : PageTable)
    → address ≡ multiple_from (x_or_sp s rn) times (register_size x (length_of v))
    → access_fault None (at_base rn false (run_of address (register_size x (length_of v)))) s pages.memory ≡ None
    → new ≡ with_register v x (read_bytes pages.memory (run_of address (register_size x (length_of v))))
    → IsMade (register_access x false times rn) s v new pages pages (Ok tt)
unfolding access_of registers_after stored
load_made (Vector zt) times rn address s v new pages start none read = (cc, cc)
load_made (Predicate pt) times rn address s v new pages start none read = (cc, cc)

-- a register that is written keeps the lengths
pub lengths_kept : (v : SveState) (x : Register) (bytes : List ℕ) → KeepsLengths v (with_register v x bytes)
lengths_kept v (Vector zt) bytes = record { vl = refl; svl = refl; streaming = refl }
lengths_kept v (Predicate pt) bytes = record { vl = refl; svl = refl; streaming = refl }
