-- Which accesses reach the words that the threads share, and the operation that each of them is.
-- Source: DDI 0487, C6.2: LDR and STR of an X register in every addressing form, the literal among them,
-- LDUR, STUR, LDAR, STLR, CAS, SWP, LDADD, LDCLR, LDEOR, LDSET, LDUMAX and LDUMIN. That these alone reach a
-- shared word, and only aligned and with 64 bits, is this emulator's own rule.
use Rattle.std.specs.Prelude.{ℕ, ◌+◌, ◌-◌, ◌*◌, ◌/◌, ◌%◌, ◌==◌, ◌&&◌, Bool, cond}
use Rattle.std.specs.Prelude.{Option, Some, None, option_and_then}
use Rattle.sm_types.specs.declared.scalars.Scalars.{Scalars}
use Rattle.sm_types.specs.declared.shared_op.OpKind.{OpKind}
use Rattle.sm_types.specs.declared.shared_op.OpKind.TheVariants as kind
use Rattle.sm_types.specs.declared.shared_op.SharedOp.{SharedOp}
use Rattle.sm_types.specs.declared.insn.Insn.{Insn}
use Rattle.sm_types.specs.declared.insn.Insn.TheVariants as insn
use Rattle.sm_types.specs.declared.insn.LoadStoreOp.{LoadStoreOp}
use Rattle.sm_types.specs.declared.insn.LoadStoreOp.TheVariants.{Store, Load, LoadSignedTo64, LoadSignedTo32}
use Rattle.sm_types.specs.declared.insn.LoadLiteralOp.{LoadLiteralOp}
use Rattle.sm_types.specs.declared.insn.LoadLiteralOp.TheVariants.{Word, Doubleword, SignedWord}
use Rattle.sm_types.specs.declared.insn.AtomicOp.{AtomicOp}
use Rattle.sm_types.specs.declared.insn.AtomicOp.TheVariants.{Add, Clear, Eor, Set, Smax, Smin, Umax, Umin}
use Rattle.sm_types.specs.declared.insn.Atomic.{Atomic}
use Rattle.sm_types.specs.declared.insn.Atomic.TheVariants as atomic
use Rattle.scalar_exec.specs.Registers.{x_of}
use Rattle.mem_access.specs.declared.access.MemoryAccess.{MemoryAccess}
use Rattle.mem_access.specs.Access.{load_store_access, load_literal_access, atomic_access}
use Rattle.mem_access.specs.Checks.{is_shared, access_fault}
use Rattle.mem_access.specs.Transfer.{access_of}
use Rattle.paged_memory.specs.Memory.{AddressSpace}
use Rattle.sm_types.specs.declared.stop.Exception.{Exception}

-- the address of a shared word
abbrev pub address_of_word : ℕ → ℕ
address_of_word place = 0x7F0000000000 + 8 * place

-- the shared word at an address
abbrev pub word_number : ℕ → ℕ
word_number address = (address - 0x7F0000000000) / 8

-- the access is an aligned one of 64 bits to a shared word
abbrev pub is_of_word : MemoryAccess → Bool
is_of_word access = (access.size == 8) && is_shared access.address && (access.address % 8 == 0)

-- its shared word, where it is
abbrev pub reached_word : MemoryAccess → Option ℕ
reached_word access = cond (is_of_word access) (Some (word_number access.address)) None

-- an operation with its values, on the word that is reached, where one is
abbrev pub on_word : OpKind → ℕ → ℕ → Option ℕ → Option SharedOp
on_word k a b None = None
on_word k a b (Some place) = Some (record { kind = k; place = place; a = a; b = b })

-- LDR and STR of 64 bits, of Xt; a load that extends a sign is none
abbrev pub load_store_op : LoadStoreOp → ℕ → Option ℕ → Option SharedOp
load_store_op Store value word = on_word kind.Store value 0 word
load_store_op Load value word = on_word kind.Load 0 0 word
load_store_op LoadSignedTo64 value word = None
load_store_op LoadSignedTo32 value word = None

-- LDR of an X register from beside the program counter
abbrev pub literal_op : LoadLiteralOp → Option ℕ → Option SharedOp
literal_op Word word = None
literal_op Doubleword word = on_word kind.Load 0 0 word
literal_op SignedWord word = None

-- LDADD and its kin, with the value of Xs; LDSMAX and LDSMIN are none
abbrev pub update_op : AtomicOp → ℕ → Option ℕ → Option SharedOp
update_op Add value word = on_word kind.Add value 0 word
update_op Clear value word = on_word kind.Clear value 0 word
update_op Eor value word = on_word kind.Eor value 0 word
update_op Set value word = on_word kind.Set value 0 word
update_op Smax value word = None
update_op Smin value word = None
update_op Umax value word = on_word kind.Umax value 0 word
update_op Umin value word = on_word kind.Umin value 0 word

-- LDAR, STLR of Xt, CAS of Xs by Xt, SWP of Xs, and the others
abbrev pub atomic_op : Atomic → Scalars → Option ℕ → Option SharedOp
atomic_op (atomic.Ldar n rn rt) s word = on_word kind.Load 0 0 word
atomic_op (atomic.Stlr n rn rt) s word = on_word kind.Store (x_of s rt) 0 word
atomic_op (atomic.Cas n acquire release rs rn rt) s word = on_word kind.Cas (x_of s rs) (x_of s rt) word
atomic_op (atomic.Swap n acquire release rs rn rt) s word = on_word kind.Swap (x_of s rs) 0 word
atomic_op (atomic.Update op n acquire release rs rn rt) s word = update_op op (x_of s rs) word

-- the operation on a shared word that an instruction makes; pairs and vectors make none
unfoldable pub touched : Insn → Scalars → Option SharedOp
touched (insn.LoadStore x) s = load_store_op x.op (x_of s x.rt) (reached_word (load_store_access x s))
touched (insn.LoadLiteral x) s = literal_op x.op (reached_word (load_literal_access x s))
touched (insn.Atomic x) s = atomic_op x s (reached_word (atomic_access x s))
touched it s = None

-- the exception of the first check of its access that fails, if any does; an operation on a shared word is
-- not checked against private memory
abbrev pub checked_fault : Insn → Scalars → AddressSpace → Option Exception
checked_fault it s m = option_and_then (λ access. access_fault (touched it s) access s m) (access_of it s)
