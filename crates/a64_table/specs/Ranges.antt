-- The ranges of an instruction's fields: those that a row of the table gives them, and no others.
-- Source: DDI 0487, C6.2: the widths of the fields of each instruction's encoding, and the values that have
-- none.
use Rattle.std.specs.Prelude.{◌≡◌, ◌≢◌, ◌<◌, ◌^◌, Bool, true, false, IsTrue}
use Rattle.sm_types.specs.declared.insn as types
use types.Branch.TheVariants.{Unconditional, Conditional, Compare, TestBit}
use types.Multiply.TheVariants.{Same, Long, High}
use types.Extend.TheVariants.{Uxtb, Uxth, Uxtw, Uxtx, Sxtb, Sxth, Sxtw, Sxtx}
use types.AccessSize.TheVariants.{Byte, Halfword, Word, Doubleword}
use types.LoadStoreOp.TheVariants.{Store, Load, LoadSignedTo64, LoadSignedTo32}
use types.Atomic.TheVariants.{Ldar, Stlr, Cas, Swap, Update}
use types.System.TheVariants.{Svc, Brk, Udf, Hint, Dmb, Dsb, Isb}
use types.{ShiftKind.TheVariants.Ror, ShiftedRegister.ShiftedRegister, ExtendedRegister.ExtendedRegister}
use types.{AddSubImmediate.AddSubImmediate, AddSubRegister.AddSubRegister, LogicalRegister.LogicalRegister}
use types.{AddSubExtended.AddSubExtended, LogicalImmediate.LogicalImmediate, MoveWide.MoveWide}
use types.{BitfieldMove.BitfieldMove, Extract.Extract, PcRelative.PcRelative, Branch.Branch}
use types.{AddSubCarry.AddSubCarry, ConditionalSelect.ConditionalSelect, CompareOperand.CompareOperand}
use types.{ConditionalCompare.ConditionalCompare, OneSourceOp.TheVariants.Rev64, OneSource.OneSource}
use types.{TwoSource.TwoSource, Multiply.Multiply, Extend.Extend, AccessSize.AccessSize}
use types.{LoadStoreOp.LoadStoreOp, Address.Address, LoadStore.LoadStore, LoadLiteral.LoadLiteral}
use types.{PairOp.TheVariants.Ldp, PairIndex.TheVariants.Offset, LoadStorePair.LoadStorePair, Atomic.Atomic}
use types.{System.System, Insn.Insn}
use types.CompareOperand.TheVariants as operand
use types.Address.TheVariants as address
use types.Insn.TheVariants as insn
use Rattle.bit_ops.specs.Bits.{width_of}
use Rattle.bit_ops.specs.Masks.{are_mask_fields}
use Rattle.insn_forms.specs.Values.{IsSigned}

-- a shift by less than the width
pub record IsShiftedRegister (wide : Bool) (it : ShiftedRegister) : Type 0 where
  pub rm : it.rm < 32
  pub amount : it.amount < width_of wide

-- a shift by at most 4
pub record IsExtendedRegister (it : ExtendedRegister) : Type 0 where
  pub rm : it.rm < 32
  pub amount : it.amount < 5

-- an immediate of 12 bits, and two registers
pub record IsAddSubImmediate (it : AddSubImmediate) : Type 0 where
  pub imm : it.imm < 2 ^ 12
  pub rn : it.rn < 32
  pub rd : it.rd < 32

-- a shift that does not rotate
pub record IsAddSubRegister (it : AddSubRegister) : Type 0 where
  pub operand : IsShiftedRegister it.wide it.operand
  pub shift : it.operand.shift ≢ Ror
  pub rn : it.rn < 32
  pub rd : it.rd < 32

-- any shift
pub record IsLogicalRegister (it : LogicalRegister) : Type 0 where
  pub operand : IsShiftedRegister it.wide it.operand
  pub rn : it.rn < 32
  pub rd : it.rd < 32

-- any extension
pub record IsAddSubExtended (it : AddSubExtended) : Type 0 where
  pub operand : IsExtendedRegister it.operand
  pub rn : it.rn < 32
  pub rd : it.rd < 32

-- the fields of a mask, with no bit of immr above the rotation
pub record IsLogicalImmediate (it : LogicalImmediate) : Type 0 where
  pub mask : are_mask_fields it.n it.imms it.immr it.wide ≡ true
  pub immr : it.immr < 2 ^ 6
  pub imms : it.imms < 2 ^ 6
  pub rn : it.rn < 32
  pub rd : it.rd < 32

-- an immediate of 16 bits, for a halfword that the width has, and a register
pub record IsMoveWide (it : MoveWide) : Type 0 where
  pub imm : it.imm < 2 ^ 16
  pub hw : it.hw < 4
  pub narrow : it.wide ≡ false → it.hw < 2
  pub rd : it.rd < 32

-- two places of the width
pub record IsBitfieldMove (it : BitfieldMove) : Type 0 where
  pub immr : it.immr < width_of it.wide
  pub imms : it.imms < width_of it.wide
  pub rn : it.rn < 32
  pub rd : it.rd < 32

-- a place of the width
pub record IsExtract (it : Extract) : Type 0 where
  pub rm : it.rm < 32
  pub lsb : it.lsb < width_of it.wide
  pub rn : it.rn < 32
  pub rd : it.rd < 32

-- a signed number of 21 bits
pub record IsPcRelative (it : PcRelative) : Type 0 where
  pub imm : IsSigned 21 it.imm
  pub rd : it.rd < 32

-- signed distances of 26, 19, 19 and 14 bits, and a bit of a doubleword
abbrev pub IsBranch : Branch → Type 0
IsBranch (Unconditional link words) = IsSigned 26 words
IsBranch (Conditional condition words) = IsSigned 19 words
IsBranch (Compare nonzero wide words rt) = IsSigned 19 words × (rt < 32)
IsBranch (TestBit nonzero bit words rt) = (bit < 64) × IsSigned 14 words × (rt < 32)

-- three registers
pub record IsAddSubCarry (it : AddSubCarry) : Type 0 where
  pub rm : it.rm < 32
  pub rn : it.rn < 32
  pub rd : it.rd < 32

-- three registers
pub record IsConditionalSelect (it : ConditionalSelect) : Type 0 where
  pub rm : it.rm < 32
  pub rn : it.rn < 32
  pub rd : it.rd < 32

-- a register or an immediate of 5 bits
abbrev pub IsCompareOperand : CompareOperand → Type 0
IsCompareOperand (operand.Register rm) = rm < 32
IsCompareOperand (operand.Immediate imm) = imm < 2 ^ 5

-- flags of 4 bits
pub record IsConditionalCompare (it : ConditionalCompare) : Type 0 where
  pub operand : IsCompareOperand it.operand
  pub nzcv : it.nzcv < 2 ^ 4
  pub rn : it.rn < 32

-- a doubleword is reversed at 64 bits alone
pub record IsOneSource (it : OneSource) : Type 0 where
  pub doubleword : it.op ≡ Rev64 → it.wide ≡ true
  pub rn : it.rn < 32
  pub rd : it.rd < 32

-- three registers
pub record IsTwoSource (it : TwoSource) : Type 0 where
  pub rm : it.rm < 32
  pub rn : it.rn < 32
  pub rd : it.rd < 32

-- four registers, or three
abbrev pub IsMultiply : Multiply → Type 0
IsMultiply (Same subtract wide rm ra rn rd) = (rm < 32) × (ra < 32) × (rn < 32) × (rd < 32)
IsMultiply (Long subtract signed rm ra rn rd) = (rm < 32) × (ra < 32) × (rn < 32) × (rd < 32)
IsMultiply (High signed rm rn rd) = (rm < 32) × (rn < 32) × (rd < 32)

-- an extension from a word or a doubleword
abbrev pub is_address_extend : Extend → Bool
is_address_extend Uxtb = false
is_address_extend Uxth = false
is_address_extend Uxtw = true
is_address_extend Uxtx = true
is_address_extend Sxtb = false
is_address_extend Sxth = false
is_address_extend Sxtw = true
is_address_extend Sxtx = true

-- an unsigned offset of 12 bits, a signed one of 9, or a register with such an extension
abbrev pub IsAddress : Address → Type 0
IsAddress (address.Offset imm) = imm < 2 ^ 12
IsAddress (address.Unscaled offset) = IsSigned 9 offset
IsAddress (address.PostIndex offset) = IsSigned 9 offset
IsAddress (address.PreIndex offset) = IsSigned 9 offset
IsAddress (address.Register rm extend scaled) = (rm < 32) × IsTrue (is_address_extend extend)

-- the base register is written
abbrev pub writes_base : Address → Bool
writes_base (address.Offset imm) = false
writes_base (address.Unscaled offset) = false
writes_base (address.PostIndex offset) = true
writes_base (address.PreIndex offset) = true
writes_base (address.Register rm extend scaled) = false

-- a signed load is of less bits than it gives
abbrev pub has_size : LoadStoreOp → AccessSize → Bool
has_size Store size = true
has_size Load size = true
has_size LoadSignedTo64 Byte = true
has_size LoadSignedTo64 Halfword = true
has_size LoadSignedTo64 Word = true
has_size LoadSignedTo64 Doubleword = false
has_size LoadSignedTo32 Byte = true
has_size LoadSignedTo32 Halfword = true
has_size LoadSignedTo32 Word = false
has_size LoadSignedTo32 Doubleword = false

-- a base that is written is not the register that is loaded or stored, unless it is SP
pub record IsLoadStore (it : LoadStore) : Type 0 where
  pub size : IsTrue (has_size it.op it.size)
  pub address : IsAddress it.address
  pub apart : IsTrue (writes_base it.address) → it.rn ≡ it.rt → it.rn ≡ 31
  pub rn : it.rn < 32
  pub rt : it.rt < 32

-- a signed distance of 19 bits
pub record IsLoadLiteral (it : LoadLiteral) : Type 0 where
  pub words : IsSigned 19 it.words
  pub rt : it.rt < 32

-- a signed offset of 7 bits; two registers are loaded, and a base that is written is neither of the two,
-- unless it is SP
pub record IsLoadStorePair (it : LoadStorePair) : Type 0 where
  pub offset : IsSigned 7 it.offset
  pub two : it.op ≡ Ldp → it.rt ≢ it.rt2
  pub apart : it.index ≢ Offset → it.rn ≢ 31 → (it.rn ≢ it.rt) × (it.rn ≢ it.rt2)
  pub rn : it.rn < 32
  pub rt : it.rt < 32
  pub rt2 : it.rt2 < 32

-- two or three registers
abbrev pub IsAtomic : Atomic → Type 0
IsAtomic (Ldar size rn rt) = (rn < 32) × (rt < 32)
IsAtomic (Stlr size rn rt) = (rn < 32) × (rt < 32)
IsAtomic (Cas size acquire release rs rn rt) = (rs < 32) × (rn < 32) × (rt < 32)
IsAtomic (Swap size acquire release rs rn rt) = (rs < 32) × (rn < 32) × (rt < 32)
IsAtomic (Update op size acquire release rs rn rt) = (rs < 32) × (rn < 32) × (rt < 32)

-- a number of 16, 7 or 4 bits
abbrev pub IsSystem : System → Type 0
IsSystem (Svc imm) = imm < 2 ^ 16
IsSystem (Brk imm) = imm < 2 ^ 16
IsSystem (Udf imm) = imm < 2 ^ 16
IsSystem (Hint number) = number < 2 ^ 7
IsSystem (Dmb option) = option < 2 ^ 4
IsSystem (Dsb option) = option < 2 ^ 4
IsSystem (Isb option) = option < 2 ^ 4

-- the fields are in the ranges that a row of the table gives them; a vector instruction has no row here
abbrev pub IsInRow : Insn → Type 0
IsInRow (insn.AddSubImmediate it) = IsAddSubImmediate it
IsInRow (insn.AddSubRegister it) = IsAddSubRegister it
IsInRow (insn.LogicalRegister it) = IsLogicalRegister it
IsInRow (insn.AddSubExtended it) = IsAddSubExtended it
IsInRow (insn.LogicalImmediate it) = IsLogicalImmediate it
IsInRow (insn.MoveWide it) = IsMoveWide it
IsInRow (insn.BitfieldMove it) = IsBitfieldMove it
IsInRow (insn.Extract it) = IsExtract it
IsInRow (insn.PcRelative it) = IsPcRelative it
IsInRow (insn.Branch it) = IsBranch it
IsInRow (insn.BranchRegister it) = it.rn < 32
IsInRow (insn.AddSubCarry it) = IsAddSubCarry it
IsInRow (insn.ConditionalSelect it) = IsConditionalSelect it
IsInRow (insn.ConditionalCompare it) = IsConditionalCompare it
IsInRow (insn.OneSource it) = IsOneSource it
IsInRow (insn.TwoSource it) = IsTwoSource it
IsInRow (insn.Multiply it) = IsMultiply it
IsInRow (insn.LoadStore it) = IsLoadStore it
IsInRow (insn.LoadLiteral it) = IsLoadLiteral it
IsInRow (insn.LoadStorePair it) = IsLoadStorePair it
IsInRow (insn.Atomic it) = IsAtomic it
IsInRow (insn.System it) = IsSystem it
IsInRow (insn.SystemMove it) = it.rt < 32
IsInRow other = ⊥
