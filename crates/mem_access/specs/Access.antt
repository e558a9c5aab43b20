-- Which bytes of memory an instruction accesses, and how.
-- Source: DDI 0487, C6.2, the pages of the loads, stores and atomic instructions: address generation, and
-- C1.3.3, addressing modes. Addresses are taken modulo 2 ^ 64.
use Rattle.std.specs.Prelude.{ℕ, ◌+◌, ◌*◌, ◌%◌, ◌^◌, ◌==◌, Bool, true, false, pos, ◌*ℤ◌}
use Rattle.sm_types.specs.declared.scalars.Scalars.{Scalars}
use Rattle.sm_types.specs.declared.insn.AccessSize.{AccessSize}
use Rattle.sm_types.specs.declared.insn.AccessSize.TheVariants as size
use Rattle.sm_types.specs.declared.insn.LoadStoreOp.{LoadStoreOp}
use Rattle.sm_types.specs.declared.insn.LoadStoreOp.TheVariants.{Store, Load, LoadSignedTo64, LoadSignedTo32}
use Rattle.sm_types.specs.declared.insn.Address.{Address}
use Rattle.sm_types.specs.declared.insn.Address.TheVariants as address
use Rattle.sm_types.specs.declared.insn.LoadStore.{LoadStore}
use Rattle.sm_types.specs.declared.insn.LoadLiteralOp.{LoadLiteralOp}
use Rattle.sm_types.specs.declared.insn.LoadLiteralOp.TheVariants.{Word, Doubleword, SignedWord}
use Rattle.sm_types.specs.declared.insn.LoadLiteral.{LoadLiteral}
use Rattle.sm_types.specs.declared.insn.PairOp.{PairOp}
use Rattle.sm_types.specs.declared.insn.PairOp.TheVariants.{Stp, Ldp}
use Rattle.sm_types.specs.declared.insn.PairIndex.{PairIndex}
use Rattle.sm_types.specs.declared.insn.PairIndex.TheVariants.{Offset, PostIndex, PreIndex}
use Rattle.sm_types.specs.declared.insn.LoadStorePair.{LoadStorePair}
use Rattle.sm_types.specs.declared.insn.Atomic.{Atomic}
use Rattle.sm_types.specs.declared.insn.Atomic.TheVariants as atomic
use Rattle.mem_access.specs.declared.access.MemoryAccess.{MemoryAccess}
use Rattle.scalar_exec.specs.Registers.{x_of, x_or_sp, with_x_or_sp}
use Rattle.scalar_exec.specs.Operands.{extended}
use Rattle.scalar_exec.specs.Branches.{address_at, branch_target}

-- the size in bytes
abbrev pub bytes_in : AccessSize → ℕ
bytes_in size.Byte = 1
bytes_in size.Halfword = 2
bytes_in size.Word = 4
bytes_in size.Doubleword = 8

-- number 31 as a base is SP
abbrev pub is_sp : ℕ → Bool
is_sp rn = rn == 31

-- the access size where the register is scaled
abbrev pub scale_of : Bool → AccessSize → ℕ
scale_of true s = bytes_in s
scale_of false s = 1

-- the address of an access, from its base: post-indexed accesses are at the base itself
unfoldable pub address_of : Address → AccessSize → ℕ → Scalars → ℕ
address_of (address.Offset imm) n base s = (base + imm * bytes_in n) % 2 ^ 64
address_of (address.Unscaled offset) n base s = address_at base offset
address_of (address.PostIndex offset) n base s = base
address_of (address.PreIndex offset) n base s = address_at base offset
address_of (address.Register rm extend scaled) n base s =
    (base + extended extend true (x_of s rm) * scale_of scaled n) % 2 ^ 64

-- the registers with the base as the access leaves it
unfoldable pub with_base : Address → ℕ → Scalars → Scalars
with_base (address.Offset imm) rn s = s
with_base (address.Unscaled offset) rn s = s
with_base (address.PostIndex offset) rn s = with_x_or_sp s rn (address_at (x_or_sp s rn) offset)
with_base (address.PreIndex offset) rn s = with_x_or_sp s rn (address_at (x_or_sp s rn) offset)
with_base (address.Register rm extend scaled) rn s = s

-- the operation stores
abbrev pub is_store : LoadStoreOp → Bool
is_store Store = true
is_store Load = false
is_store LoadSignedTo64 = false
is_store LoadSignedTo32 = false

abbrev pub is_load : LoadStoreOp → Bool
is_load Store = false
is_load Load = true
is_load LoadSignedTo64 = true
is_load LoadSignedTo32 = true

-- a load or store of one register
unfoldable pub load_store_access : LoadStore → Scalars → MemoryAccess
load_store_access x s = record {
  address = address_of x.address x.size (x_or_sp s x.rn) s;
  size = bytes_in x.size;
  on_sp = is_sp x.rn;
  aligned = false;
  reads = is_load x.op;
  writes = is_store x.op;
}

-- the bytes of a load from beside the program counter
abbrev pub literal_size : LoadLiteralOp → ℕ
literal_size Word = 4
literal_size Doubleword = 8
literal_size SignedWord = 4

-- a load from beside the program counter
unfoldable pub load_literal_access : LoadLiteral → Scalars → MemoryAccess
load_literal_access x s = record {
  address = branch_target s.pc x.words;
  size = literal_size x.op;
  on_sp = false;
  aligned = false;
  reads = true;
  writes = false;
}

-- the bytes of one of a pair's registers
abbrev pub register_size : Bool → ℕ
register_size true = 8
register_size false = 4

-- the base and a pair's offset, which is in units of a register
abbrev pub offset_base : LoadStorePair → Scalars → ℕ
offset_base x s = address_at (x_or_sp s x.rn) (x.offset *ℤ pos (register_size x.wide))

-- the address of a pair's access
unfoldable pub pair_address : PairIndex → LoadStorePair → Scalars → ℕ
pair_address Offset x s = offset_base x s
pair_address PostIndex x s = x_or_sp s x.rn
pair_address PreIndex x s = offset_base x s

-- the registers with the base as a pair's access leaves it
unfoldable pub with_pair_base : PairIndex → LoadStorePair → Scalars → Scalars
with_pair_base Offset x s = s
with_pair_base PostIndex x s = with_x_or_sp s x.rn (offset_base x s)
with_pair_base PreIndex x s = with_x_or_sp s x.rn (offset_base x s)

abbrev pub is_ldp : PairOp → Bool
is_ldp Stp = false
is_ldp Ldp = true

abbrev pub is_stp : PairOp → Bool
is_stp Stp = true
is_stp Ldp = false

-- a load or store of two registers, the first in the lower bytes
unfoldable pub pair_access : LoadStorePair → Scalars → MemoryAccess
pair_access x s = record {
  address = pair_address x.index x s;
  size = 2 * register_size x.wide;
  on_sp = is_sp x.rn;
  aligned = false;
  reads = is_ldp x.op;
  writes = is_stp x.op;
}

-- an ordered or atomic access at a base
abbrev pub at_base : AccessSize → ℕ → Bool → Bool → Scalars → MemoryAccess
at_base n rn reads writes s = record {
  address = x_or_sp s rn;
  size = bytes_in n;
  on_sp = is_sp rn;
  aligned = true;
  reads = reads;
  writes = writes;
}

-- LDAR reads, STLR writes, and the others do both, CAS also where the comparison fails
unfoldable pub atomic_access : Atomic → Scalars → MemoryAccess
atomic_access (atomic.Ldar n rn rt) s = at_base n rn true false s
atomic_access (atomic.Stlr n rn rt) s = at_base n rn false true s
atomic_access (atomic.Cas n acquire release rs rn rt) s = at_base n rn true true s
atomic_access (atomic.Swap n acquire release rs rn rt) s = at_base n rn true true s
atomic_access (atomic.Update op n acquire release rs rn rt) s = at_base n rn true true s
