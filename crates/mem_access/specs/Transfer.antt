-- The registers and the memory after a load, a store or an atomic instruction that no check refuses. PC is
-- moved by the machine.
-- Source: DDI 0487, C6.2: LDR, LDRB, LDRH, LDRSB, LDRSH, LDRSW, LDUR.., STR.., STUR.., LDP, STP, LDAR, STLR,
-- CAS, SWP, LDADD.. and their kin.
use Rattle.std.specs.Prelude.{◌≡◌, ℕ, ◌*◌, ◌/◌, ◌%◌, ◌^◌, ◌==◌, ◌++◌, Bool, true, false, cond, List, [], Option}
use Rattle.std.specs.Prelude.{Some, None, Result, Ok, Err, IfSome, IsSome, All, option_and_then}
use Rattle.std.specs.Int.{bytes_low_first}
use Rattle.std.specs.FinMap.{get}
use Rattle.sm_types.specs.declared.scalars.Scalars.{Scalars}
use Rattle.sm_types.specs.declared.insn.Insn.{Insn}
use Rattle.sm_types.specs.declared.insn.Insn.TheVariants as insn
use Rattle.sm_types.specs.declared.insn.LoadStoreOp.{LoadStoreOp}
use Rattle.sm_types.specs.declared.insn.LoadStoreOp.TheVariants.{Store, Load, LoadSignedTo64, LoadSignedTo32}
use Rattle.sm_types.specs.declared.insn.LoadStore.{LoadStore}
use Rattle.sm_types.specs.declared.insn.PairOp.{PairOp}
use Rattle.sm_types.specs.declared.insn.PairOp.TheVariants.{Stp, Ldp}
use Rattle.sm_types.specs.declared.insn.LoadStorePair.{LoadStorePair}
use Rattle.sm_types.specs.declared.insn.Atomic.{Atomic}
use Rattle.sm_types.specs.declared.insn.Atomic.TheVariants as atomic
use Rattle.scalar_exec.specs.Registers.{x_of, with_x}
use Rattle.paged_memory.specs.Memory.{AddressSpace}
use Rattle.paged_memory.specs.PageTable.{PageTable, IsOwned}
use Rattle.sm_types.specs.declared.stop.Exception.{Exception}
use Rattle.mem_access.specs.declared.stop.AccessStop.{AccessStop}
use Rattle.mem_access.specs.declared.stop.AccessStop.TheVariants.{Raise, Memory as WantOfMemory}
use Rattle.mem_access.specs.DataAccess.{DataAccess, of_run}
use Rattle.mem_access.specs.Checks.{access_fault}
use Rattle.mem_access.specs.Access.{bytes_in, with_base, with_pair_base, register_size, load_store_access}
use Rattle.mem_access.specs.Access.{load_literal_access, pair_access, atomic_access}
use Rattle.mem_access.specs.Values.{number_at, set_each, loaded, literal_loaded, low_bytes, updated}

-- what an access leaves
pub record AfterAccess : Type 0 where
  pub scalars : Scalars
  pub memory : AddressSpace

-- the instruction is a load, a store or an atomic instruction
abbrev pub is_access : Insn → Bool
is_access (insn.LoadStore x) = true
is_access (insn.LoadLiteral x) = true
is_access (insn.LoadStorePair x) = true
is_access (insn.Atomic x) = true
is_access it = false

-- the access that it makes
abbrev pub access_of : Insn → Scalars → Option DataAccess
access_of (insn.LoadStore x) s = Some (of_run (load_store_access x s))
access_of (insn.LoadLiteral x) s = Some (of_run (load_literal_access x s))
access_of (insn.LoadStorePair x) s = Some (of_run (pair_access x s))
access_of (insn.Atomic x) s = Some (of_run (atomic_access x s))
access_of it s = None

-- a store leaves the base; a load writes Xt after it, with the number that was read
unfoldable pub load_store_after : LoadStoreOp → LoadStore → ℕ → Scalars → Scalars
load_store_after Store x number s = with_base x.address x.rn s
load_store_after Load x number s =
    with_x (with_base x.address x.rn s) x.rt (loaded Load (bytes_in x.size) number)
load_store_after LoadSignedTo64 x number s =
    with_x (with_base x.address x.rn s) x.rt (loaded LoadSignedTo64 (bytes_in x.size) number)
load_store_after LoadSignedTo32 x number s =
    with_x (with_base x.address x.rn s) x.rt (loaded LoadSignedTo32 (bytes_in x.size) number)

-- a store writes the low bytes of Xt
unfoldable pub load_store_stored : LoadStoreOp → LoadStore → Scalars → Option (List ℕ)
load_store_stored Store x s = Some (bytes_low_first 0 (bytes_in x.size) (x_of s x.rt))
load_store_stored Load x s = None
load_store_stored LoadSignedTo64 x s = None
load_store_stored LoadSignedTo32 x s = None

-- the first register of a pair has the lower bytes
unfoldable pub pair_after : PairOp → LoadStorePair → ℕ → Scalars → Scalars
pair_after Stp x number s = with_pair_base x.index x s
pair_after Ldp x number s =
    with_x
    (with_x (with_pair_base x.index x s) x.rt (number % 2 ^ (8 * register_size x.wide)))
    x.rt2
    (number / 2 ^ (8 * register_size x.wide))

-- the low bytes of two registers, one after the other
abbrev pub pair_bytes : Bool → ℕ → ℕ → List ℕ
pair_bytes wide first second =
    bytes_low_first 0 (register_size wide) first ++ bytes_low_first 0 (register_size wide) second

unfoldable pub pair_stored : PairOp → LoadStorePair → Scalars → Option (List ℕ)
pair_stored Stp x s = Some (pair_bytes x.wide (x_of s x.rt) (x_of s x.rt2))
pair_stored Ldp x s = None

-- the number that was read goes to Rs in CAS, else to Rt
unfoldable pub atomic_after : Atomic → ℕ → Scalars → Scalars
atomic_after (atomic.Ldar n rn rt) number s = with_x s rt number
atomic_after (atomic.Stlr n rn rt) number s = s
atomic_after (atomic.Cas n acquire release rs rn rt) number s = with_x s rs number
atomic_after (atomic.Swap n acquire release rs rn rt) number s = with_x s rt number
atomic_after (atomic.Update op n acquire release rs rn rt) number s = with_x s rt number

-- STLR writes Rt; CAS writes Rt where the number equals the low bytes of Rs, SWP writes Rs, the operations
-- write their result
unfoldable pub atomic_stored : Atomic → ℕ → Scalars → Option (List ℕ)
atomic_stored (atomic.Ldar n rn rt) number s = None
atomic_stored (atomic.Stlr n rn rt) number s = Some (bytes_low_first 0 (bytes_in n) (x_of s rt))
atomic_stored (atomic.Cas n acquire release rs rn rt) number s =
    cond (number == low_bytes (bytes_in n) (x_of s rs))
    (Some (bytes_low_first 0 (bytes_in n) (x_of s rt)))
    None
atomic_stored (atomic.Swap n acquire release rs rn rt) number s =
    Some (bytes_low_first 0 (bytes_in n) (x_of s rs))
atomic_stored (atomic.Update op n acquire release rs rn rt) number s =
    Some (bytes_low_first 0 (bytes_in n) (updated op (bytes_in n) number
    (low_bytes (bytes_in n) (x_of s rs))))

-- the registers after an access, with the number that was read; an instruction that makes no access changes
-- none here
abbrev pub registers_after : Insn → ℕ → Scalars → Scalars
registers_after (insn.LoadStore x) number s = load_store_after x.op x number s
registers_after (insn.LoadLiteral x) number s = with_x s x.rt (literal_loaded x.op number)
registers_after (insn.LoadStorePair x) number s = pair_after x.op x number s
registers_after (insn.Atomic x) number s = atomic_after x number s
registers_after it number s = s

-- the bytes that it stores, in the order of their transfer, where it stores any
abbrev pub stored : Insn → ℕ → Scalars → Option (List ℕ)
stored (insn.LoadStore x) number s = load_store_stored x.op x s
stored (insn.LoadStorePair x) number s = pair_stored x.op x s
stored (insn.Atomic x) number s = atomic_stored x number s
stored it number s = None

-- the memory with the bytes that are stored, if any are
abbrev pub written : AddressSpace → List ℕ → Option (List ℕ) → AddressSpace
written m addresses None = m
written m addresses (Some bytes) = record m { mem = set_each m.mem addresses bytes }

-- the addresses of the bytes that are stored, if any are
abbrev pub written_addresses : List ℕ → Option (List ℕ) → List ℕ
written_addresses addresses None = []
written_addresses addresses (Some bytes) = addresses

-- what an instruction leaves that accesses these addresses
abbrev pub after_bytes : Insn → List ℕ → Scalars → AddressSpace → AfterAccess
after_bytes it addresses s m = record {
  scalars = registers_after it (number_at m addresses) s;
  memory = written m addresses (stored it (number_at m addresses) s);
}

-- what it leaves by its access, if it makes one
abbrev pub after_data : Insn → Option DataAccess → Scalars → AddressSpace → AfterAccess
after_data it None s m = record { scalars = s; memory = m }
after_data it (Some access) s m = after_bytes it access.bytes s m

-- what it leaves, where no check refuses its access
abbrev pub after_access : Insn → Scalars → AddressSpace → AfterAccess
after_access it s m = after_data it (access_of it s) s m

-- the addresses of the bytes that an instruction writes by its access, if it makes one
abbrev pub writes_by : Insn → Option DataAccess → Scalars → AddressSpace → List ℕ
writes_by it None s m = []
writes_by it (Some access) s m =
    written_addresses access.bytes (stored it (number_at m access.bytes) s)

-- the addresses of the bytes that it writes, where no check refuses its access
abbrev pub writes_of : Insn → Scalars → AddressSpace → List ℕ
writes_of it s m = writes_by it (access_of it s) s m

-- what registers and pages hold
abbrev pub contents_of : Scalars → PageTable → AfterAccess
contents_of s pages = record { scalars = s; memory = pages.memory }

-- the exception of the first check of its access to private memory that fails, if any does
abbrev pub transfer_fault : Insn → Scalars → AddressSpace → Option Exception
transfer_fault it s m = option_and_then (λ access. access_fault None access s m) (access_of it s)

-- the pages that an access writes are owned, so that it takes no memory; a load writes none
abbrev pub HasRoom : DataAccess → PageTable → Type 0
HasRoom access pages =
    access.writes ≡ true → All (λ a. IsSome (get pages.memory.perm (a / 4096)) → IsOwned pages (a / 4096))
    access.bytes

-- the pages that the access of an instruction writes are owned
abbrev pub HasRoomFor : Insn → Scalars → PageTable → Type 0
HasRoomFor it s pages = IfSome (access_of it s) (λ access. HasRoom access pages)

-- the exception for which an access is not made; want of memory is none
abbrev pub raised_by : AccessStop → Option Exception
raised_by (Raise exception) = Some exception
raised_by WantOfMemory = None

-- the answer of an access that has this fault, if any, and makes this: after Ok it is made, and any other
-- answer leaves what was
abbrev pub Transfers : {State : Type 0}
    → Option Exception → State → State → State → Result (Unit {0}) AccessStop → Type 0
Transfers fault made old new (Ok done) = (fault ≡ None) × (new ≡ made)
Transfers fault made old new (Err stop) = (fault ≡ raised_by stop) × (new ≡ old)
