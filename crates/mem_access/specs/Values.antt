-- The values that accesses read and write. Source: DDI 0487, C6.2, the operations of the loads, stores and
-- atomic instructions; bytes in memory are little-endian.
use Rattle.std.specs.Prelude.{ℕ, ◌+◌, ◌-◌, ◌*◌, ◌%◌, ◌^◌, true, false, cond, List, [], ◌∷◌, Option, Some}
use Rattle.std.specs.Prelude.{None, bit_and, bit_or, bit_xor, ℤ, int_le, max, min}
use Rattle.std.specs.FinMap.{FinMap, insert}
use Rattle.std.specs.Ordering.{nat_cmp}
use Rattle.sm_types.specs.declared.insn.LoadStoreOp.{LoadStoreOp}
use Rattle.sm_types.specs.declared.insn.LoadStoreOp.TheVariants.{Store, Load, LoadSignedTo64, LoadSignedTo32}
use Rattle.sm_types.specs.declared.insn.LoadLiteralOp.{LoadLiteralOp}
use Rattle.sm_types.specs.declared.insn.LoadLiteralOp.TheVariants.{Word, Doubleword, SignedWord}
use Rattle.sm_types.specs.declared.insn.AtomicOp.{AtomicOp}
use Rattle.sm_types.specs.declared.insn.AtomicOp.TheVariants.{Add, Clear, Eor, Set, Smax, Smin, Umax, Umin}
use Rattle.insn_forms.specs.Fields.{signed_value}
use Rattle.scalar_exec.specs.Operands.{sign_extend}
use Rattle.sm_types.specs.Bytes.{little_number}
use Rattle.paged_memory.specs.Memory.{AddressSpace, byte_with}

-- a byte before some bytes
abbrev pub byte_and : Option ℕ → Option (List ℕ) → Option (List ℕ)
byte_and None bs = None
byte_and (Some b) None = None
byte_and (Some b) (Some bs) = Some (b ∷ bs)

-- the bytes at some addresses, where each can be read
unfoldable pub bytes_at : AddressSpace → List ℕ → Option (List ℕ)
bytes_at m [] = Some []
bytes_at m (a ∷ addresses) = byte_and (byte_with 4 m a) (bytes_at m addresses)

-- the number of some bytes, and 0 where there are none
abbrev pub number_or_zero : Option (List ℕ) → ℕ
number_or_zero None = 0
number_or_zero (Some bytes) = little_number bytes

-- the number of the bytes at some addresses, which can be read
unfoldable pub number_at : AddressSpace → List ℕ → ℕ
number_at m addresses = number_or_zero (bytes_at m addresses)

-- the bytes as they stand after some are set, one at each address
unfoldable pub set_each : FinMap nat_cmp ℕ → List ℕ → List ℕ → FinMap nat_cmp ℕ
set_each mem [] bytes = mem
set_each mem (a ∷ addresses) [] = mem
set_each mem (a ∷ addresses) (b ∷ bytes) = set_each (insert mem a b) addresses bytes

-- the register that a load of n bytes gives: extended by zeros, by the sign to 64 bits, or by the sign to
-- 32 bits and then by zeros
unfoldable pub loaded : LoadStoreOp → ℕ → ℕ → ℕ
loaded Store n value = value
loaded Load n value = value
loaded LoadSignedTo64 n value = sign_extend (8 * n) true value
loaded LoadSignedTo32 n value = sign_extend (8 * n) false value

-- the register that a load from beside the program counter gives
unfoldable pub literal_loaded : LoadLiteralOp → ℕ → ℕ
literal_loaded Word value = value
literal_loaded Doubleword value = value
literal_loaded SignedWord value = sign_extend 32 true value

-- the low n bytes of a register
abbrev pub low_bytes : ℕ → ℕ → ℕ
low_bytes n value = value % 2 ^ (8 * n)

-- the number of n bytes in two's complement
abbrev pub signed_bytes : ℕ → ℕ → ℤ
signed_bytes n value = signed_value (8 * n) value

-- what an atomic operation on n bytes leaves in memory, from the old number and the low bytes of the
-- register: the sum, the old number with the register's bits cleared, inverted or set, or the greater or
-- the lesser of the two, signed or not
unfoldable pub updated : AtomicOp → ℕ → ℕ → ℕ → ℕ
updated Add n old value = (old + value) % 2 ^ (8 * n)
updated Clear n old value = bit_and old (2 ^ (8 * n) - 1 - value)
updated Eor n old value = bit_xor old value
updated Set n old value = bit_or old value
updated Smax n old value = cond (int_le (signed_bytes n old) (signed_bytes n value)) value old
updated Smin n old value = cond (int_le (signed_bytes n old) (signed_bytes n value)) old value
updated Umax n old value = max old value
updated Umin n old value = min old value
