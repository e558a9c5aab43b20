-- Instructions by what is known in advance and the other fields.
use Rattle.std.specs.Prelude.{ℕ, Bool, true, false}
use Rattle.sm_types.specs.declared.insn as types
use types.{Insn.Insn, AddSub.AddSub, Logical.Logical, MoveOp.MoveOp, BitfieldOp.BitfieldOp, SelectOp.SelectOp}
use types.{TwoSourceOp.TwoSourceOp, ShiftedRegister.ShiftedRegister, Address.Address}
use types.{LoadStoreOp.LoadStoreOp, AccessSize.AccessSize}
use types.AddSub.TheVariants.{Add}
use types.ShiftKind.TheVariants.{Lsl}
use types.Address.TheVariants.{Offset}
use types.Multiply.TheVariants.{Same, Long, High}
use types.Insn.TheVariants as insn
use Rattle.scalar_exec.specs.declared.payloads as forms
use forms.{Immediate.Immediate, Registers.Registers, LeftShifted.LeftShifted, Shifted.Shifted}
use forms.{Extended.Extended, BitFields.BitFields, Halfword.Halfword, Selection.Selection}
use forms.{Factors.Factors, OffsetAccess.OffsetAccess, Base.Base}

-- a register that is not shifted
abbrev pub unshifted : ℕ → ShiftedRegister
unshifted rm = record { rm = rm; shift = Lsl; amount = 0 }

-- a sum or difference with an immediate
abbrev pub sum_immediate : AddSub → Bool → Immediate → Insn
sum_immediate op wide x =
    insn.AddSubImmediate
    (record { op = op; wide = wide; shifted = false; imm = x.imm; rn = x.rn; rd = x.rd })

-- a sum or difference of two registers
abbrev pub sum_register : AddSub → Bool → Registers → Insn
sum_register op wide x =
    insn.AddSubRegister (record { op = op; wide = wide; operand = unshifted x.rm; rn = x.rn; rd = x.rd })

-- a sum or difference of two registers, one of them shifted left
abbrev pub sum_shifted : AddSub → LeftShifted → Insn
sum_shifted op x =
    insn.AddSubRegister (record {
      op = op;
      wide = true;
      operand = record { rm = x.rm; shift = Lsl; amount = x.amount };
      rn = x.rn;
      rd = x.rd;
    })

-- a sum with an extended register
abbrev pub sum_extended : Extended → Insn
sum_extended x =
    insn.AddSubExtended (record {
      op = Add;
      wide = true;
      operand = record { rm = x.rm; extend = x.extend; amount = x.amount };
      rn = x.rn;
      rd = x.rd;
    })

-- a logical operation on two registers
abbrev pub logical : Logical → Bool → Bool → Registers → Insn
logical op wide inverted x =
    insn.LogicalRegister
    (record { op = op; wide = wide; inverted = inverted; operand = unshifted x.rm; rn = x.rn; rd = x.rd })

-- the same, with one of them shifted
abbrev pub logical_shifted : Logical → Shifted → Insn
logical_shifted op x =
    insn.LogicalRegister (record {
      op = op;
      wide = true;
      inverted = false;
      operand = record { rm = x.rm; shift = x.shift; amount = x.amount };
      rn = x.rn;
      rd = x.rd;
    })

-- a logical operation with a mask
abbrev pub masked : Logical → Bool → BitFields → Insn
masked op wide x =
    insn.LogicalImmediate
    (record { op = op; wide = wide; n = wide; immr = x.immr; imms = x.imms; rn = x.rn; rd = x.rd })

-- a move of a halfword
abbrev pub halfword_move : MoveOp → Bool → Halfword → Insn
halfword_move op wide x =
    insn.MoveWide (record { op = op; wide = wide; hw = x.hw; imm = x.imm; rd = x.rd })

-- a move of a bit field
abbrev pub field_move : BitfieldOp → Bool → BitFields → Insn
field_move op wide x =
    insn.BitfieldMove
    (record { op = op; wide = wide; immr = x.immr; imms = x.imms; rn = x.rn; rd = x.rd })

-- one of two registers by a condition
abbrev pub selected : SelectOp → Bool → Selection → Insn
selected op wide x =
    insn.ConditionalSelect
    (record { op = op; wide = wide; condition = x.condition; rm = x.rm; rn = x.rn; rd = x.rd })

-- a quotient, or a shift by a register
abbrev pub two_sources : TwoSourceOp → Bool → Registers → Insn
two_sources op wide x =
    insn.TwoSource (record { op = op; wide = wide; rm = x.rm; rn = x.rn; rd = x.rd })

-- a product that is added to a register or subtracted from it
abbrev pub product : Bool → Bool → Factors → Insn
product subtract wide x =
    insn.Multiply (Same subtract wide x.rm x.ra x.rn x.rd)

-- a product of words of 32 bits that is added to a register
abbrev pub long_product : Bool → Factors → Insn
long_product signed x =
    insn.Multiply (Long false signed x.rm x.ra x.rn x.rd)

-- the upper half of a product
abbrev pub high_product : Bool → Registers → Insn
high_product signed x =
    insn.Multiply (High signed x.rm x.rn x.rd)

-- a load or store of one register, at an offset
abbrev pub offset_access : LoadStoreOp → AccessSize → OffsetAccess → Insn
offset_access op size x =
    insn.LoadStore (record { op = op; size = size; address = Offset x.imm; rn = x.rn; rt = x.rt })

-- a load or store of one register
abbrev pub access_of : LoadStoreOp → AccessSize → Base → Address → Insn
access_of op size x address =
    insn.LoadStore (record { op = op; size = size; address = address; rn = x.rn; rt = x.rt })
