-- Accesses to consecutive bytes, as the code makes them.
use Rattle.std.specs.Prelude.{◌≡◌, true, ℕ, zero, suc, ◌+◌, ◌*◌, ◌%◌, ◌^◌, ◌==◌, cond, List, [], ◌∷◌, Option}
use Rattle.std.specs.Prelude.{Some, None, IfSome, option_map, option_and_then}
use Rattle.std.specs.Int.{bytes_low_first}
use Rattle.sm_types.specs.declared.scalars.Scalars.{Scalars}
use Rattle.sm_types.specs.declared.insn.Insn.{Insn}
use Rattle.sm_types.specs.declared.insn.Insn.TheVariants as insn
use Rattle.sm_types.specs.declared.insn.LoadStoreOp.{LoadStoreOp}
use Rattle.sm_types.specs.declared.insn.LoadStoreOp.TheVariants.{Store}
use Rattle.sm_types.specs.declared.insn.LoadStore.{LoadStore}
use Rattle.sm_types.specs.declared.insn.LoadLiteral.{LoadLiteral}
use Rattle.sm_types.specs.declared.insn.PairOp.{PairOp}
use Rattle.sm_types.specs.declared.insn.PairOp.TheVariants.{Stp, Ldp}
use Rattle.sm_types.specs.declared.insn.LoadStorePair.{LoadStorePair}
use Rattle.sm_types.specs.declared.insn.Atomic.{Atomic}
use Rattle.sm_types.specs.declared.insn.Atomic.TheVariants as atomic
use Rattle.sm_types.specs.declared.stop.Access.TheVariants.{Read, Write}
use Rattle.sm_types.specs.declared.stop.Exception.{Exception}
use Rattle.sm_types.specs.declared.stop.Exception.TheVariants.{Shared, Data}
use Rattle.scalar_exec.specs.Registers.{x_of, with_x}
use Rattle.std.specs.Option.{option_or}
use Rattle.paged_memory.specs.Memory.{AddressSpace, bytes_with, first_without, set_bytes}
use Rattle.paged_memory.specs.PageTable.{PageTable, AreOwned}
use Rattle.mem_access.specs.declared.access.MemoryAccess.{MemoryAccess}
use Rattle.mem_access.specs.DataAccess.{of_run}
use Rattle.sm_types.specs.Checks.{first_fault, fault_only}
use Rattle.mem_access.specs.Checks.{is_shared, sp_fault, align_fault}
use Rattle.mem_access.specs.Access.{bytes_in, with_base, with_pair_base, register_size, literal_size}
use Rattle.mem_access.specs.Access.{load_store_access, load_literal_access, pair_access, atomic_access}
use Rattle.mem_access.specs.Values.{number_or_zero, loaded, literal_loaded, low_bytes, updated}
use Rattle.mem_access.specs.Transfer.{AfterAccess, pair_after, pair_bytes}

-- the address, where it is shared
abbrev pub shared_at : ℕ → Option ℕ
shared_at a = cond (is_shared a) (Some a) None

-- the first of the n addresses from an address on that is shared
unfoldable pub first_shared : ℕ → ℕ → Option ℕ
first_shared a zero = None
first_shared a (suc n) = option_or (first_shared a n) (shared_at ((a + n) % 2 ^ 64))

-- no byte is shared
abbrev pub run_shared_fault : MemoryAccess → Option Exception
run_shared_fault run = option_map Shared (first_shared run.address run.size)

-- the first of the checks that look at no page
abbrev pub place_fault : MemoryAccess → Scalars → Option Exception
place_fault run s =
    first_fault (sp_fault (of_run run) s ∷ align_fault (of_run run) ∷ run_shared_fault run ∷ [])

-- the first of the n bytes from an address on that cannot be read
abbrev pub denied_read : AddressSpace → ℕ → ℕ → Option Exception
denied_read m a n = option_map (λ x. Data x Read) (first_without 4 m a n)

-- the first that cannot be written
abbrev pub denied_write : AddressSpace → ℕ → ℕ → Option Exception
denied_write m a n = option_map (λ x. Data x Write) (first_without 2 m a n)

-- the first that cannot be read, else the first that cannot be written
abbrev pub denied_update : AddressSpace → ℕ → ℕ → Option Exception
denied_update m a n = option_or (denied_read m a n) (denied_write m a n)

-- each byte can be read, where the access reads
abbrev pub run_read_fault : MemoryAccess → AddressSpace → Option Exception
run_read_fault run m = fault_only run.reads (denied_read m run.address run.size)

-- each byte can be written, where the access writes
abbrev pub run_write_fault : MemoryAccess → AddressSpace → Option Exception
run_write_fault run m = fault_only run.writes (denied_write m run.address run.size)

-- the exception of the first check that fails, if any does
unfoldable pub run_fault : MemoryAccess → Scalars → AddressSpace → Option Exception
run_fault run s m = first_fault (
    sp_fault (of_run run) s
    ∷ align_fault (of_run run)
    ∷ run_shared_fault run
    ∷ run_read_fault run m
    ∷ run_write_fault run m
    ∷ [])

-- the pages of the bytes that are written are owned
abbrev pub RunHasRoom : MemoryAccess → PageTable → Type 0
RunHasRoom run pages = run.writes ≡ true → AreOwned pages run.address run.size

-- the number of the n bytes from an address on, which can be read
unfoldable pub number_in : AddressSpace → ℕ → ℕ → ℕ
number_in m a n = number_or_zero (bytes_with 4 m a n)

-- the memory with some bytes from an address on
abbrev pub with_bytes : AddressSpace → ℕ → List ℕ → AddressSpace
with_bytes m a bytes = record m { mem = set_bytes m.mem a bytes }

-- the memory with the low n bytes of a value from an address on
unfoldable pub with_number : AddressSpace → ℕ → ℕ → ℕ → AddressSpace
with_number m a n value = with_bytes m a (bytes_low_first 0 n value)

-- a store writes the low bytes of Xt; a load writes Xt after the base
unfoldable pub after_load_store : LoadStoreOp → LoadStore → ℕ → Scalars → AddressSpace → AfterAccess
after_load_store Store x a s m =
    record { scalars = with_base x.address x.rn s; memory = with_number m a (bytes_in x.size) (x_of s x.rt) }
after_load_store op x a s m =
    record {
      scalars = with_x (with_base x.address x.rn s) x.rt
          (loaded op (bytes_in x.size) (number_in m a (bytes_in x.size)));
      memory = m;
    }

-- a load from beside the program counter
unfoldable pub after_load_literal : LoadLiteral → ℕ → Scalars → AddressSpace → AfterAccess
after_load_literal x a s m =
    record { scalars = with_x s x.rt (literal_loaded x.op (number_in m a (literal_size x.op))); memory = m }

-- two registers, one after the other
unfoldable pub after_pair : PairOp → LoadStorePair → ℕ → Scalars → AddressSpace → AfterAccess
after_pair Stp x a s m =
    record {
      scalars = with_pair_base x.index x s;
      memory = with_bytes m a (pair_bytes x.wide (x_of s x.rt) (x_of s x.rt2));
    }
after_pair Ldp x a s m =
    record { scalars = pair_after Ldp x (number_in m a (2 * register_size x.wide)) s; memory = m }

-- LDAR and STLR; CAS writes Rt where memory equals Rs, SWP writes Rs, the operations write their result; the
-- old number goes to Rs in CAS, else to Rt
unfoldable pub after_atomic : Atomic → ℕ → Scalars → AddressSpace → AfterAccess
after_atomic (atomic.Ldar n rn rt) a s m =
    record { scalars = with_x s rt (number_in m a (bytes_in n)); memory = m }
after_atomic (atomic.Stlr n rn rt) a s m =
    record { scalars = s; memory = with_number m a (bytes_in n) (x_of s rt) }
after_atomic (atomic.Cas n acquire release rs rn rt) a s m = record {
  scalars = with_x s rs (number_in m a (bytes_in n));
  memory =
      cond (number_in m a (bytes_in n) == low_bytes (bytes_in n) (x_of s rs))
      (with_number m a (bytes_in n) (x_of s rt)) m;
}
after_atomic (atomic.Swap n acquire release rs rn rt) a s m = record {
  scalars = with_x s rt (number_in m a (bytes_in n));
  memory = with_number m a (bytes_in n) (x_of s rs);
}
after_atomic (atomic.Update op n acquire release rs rn rt) a s m = record {
  scalars = with_x s rt (number_in m a (bytes_in n));
  memory =
      with_number m a (bytes_in n) (updated op (bytes_in n) (number_in m a (bytes_in n))
      (low_bytes (bytes_in n) (x_of s rs)));
}

-- the consecutive bytes that an instruction accesses
abbrev pub run_of_insn : Insn → Scalars → Option MemoryAccess
run_of_insn (insn.LoadStore x) s = Some (load_store_access x s)
run_of_insn (insn.LoadLiteral x) s = Some (load_literal_access x s)
run_of_insn (insn.LoadStorePair x) s = Some (pair_access x s)
run_of_insn (insn.Atomic x) s = Some (atomic_access x s)
run_of_insn it s = None

-- the exception of the first check of its access that fails, if any does
abbrev pub run_transfer_fault : Insn → Scalars → AddressSpace → Option Exception
run_transfer_fault it s m = option_and_then (λ run. run_fault run s m) (run_of_insn it s)

-- what it leaves, where no check refuses its access
abbrev pub after_run : Insn → Scalars → AddressSpace → AfterAccess
after_run (insn.LoadStore x) s m = after_load_store x.op x (load_store_access x s).address s m
after_run (insn.LoadLiteral x) s m = after_load_literal x (load_literal_access x s).address s m
after_run (insn.LoadStorePair x) s m = after_pair x.op x (pair_access x s).address s m
after_run (insn.Atomic x) s m = after_atomic x (atomic_access x s).address s m
after_run it s m = record { scalars = s; memory = m }

-- the pages of the bytes that it writes are owned
abbrev pub RunHasRoomFor : Insn → Scalars → PageTable → Type 0
RunHasRoomFor it s pages = IfSome (run_of_insn it s) (λ run. RunHasRoom run pages)
