-- The instruction of an operation, by the names of its fields: n is the number of a field without a sign, and
-- s in two's complement.
-- Source: DDI 0487, the encoding diagrams of C6.2 and what their pages decode of them.
use Rattle.std.specs.Prelude.{ℕ, Bool, true, false, ℤ}
use Rattle.sm_types.specs.declared.insn as types
use types.{Insn.Insn, ShiftedRegister.ShiftedRegister, ExtendedRegister.ExtendedRegister, Branch.Branch}
use types.{CompareOperand.CompareOperand, OneSourceOp.OneSourceOp, OneSourceOp.TheVariants.Rev64}
use types.{Multiply.Multiply, Address.Address, Atomic.Atomic, System.System}
use types.Insn.TheVariants as insn
use types.Branch.TheVariants as branch
use types.CompareOperand.TheVariants as operand
use types.Multiply.TheVariants as multiply
use types.Address.TheVariants as address
use types.Atomic.TheVariants as atomic
use types.System.TheVariants as system
use Rattle.insn_forms.specs.declared.field.Field.{Field}
use Rattle.insn_forms.specs.Values.{byte, half, is_one}
use Rattle.a64_table.specs.declared.fields.TheConstants.{ACQUIRE, BIT, BRANCH_COND, CAS_ACQUIRE, CAS_RELEASE}
use Rattle.a64_table.specs.declared.fields.TheConstants.{COND, CRM, HINT, HW, IMM12, IMM14, IMM16, IMM19}
use Rattle.a64_table.specs.declared.fields.TheConstants.{IMM21, IMM26, IMM3, IMM5, IMM6, IMM7, IMM9, IMMR}
use Rattle.a64_table.specs.declared.fields.TheConstants.{IMMS, N, NZCV, OPC, OPTION, RA, RD, RELEASE, RM, RN}
use Rattle.a64_table.specs.declared.fields.TheConstants.{RS, RT, RT2, SCALED, SF, SH, SHIFT, SIZE, UDF_IMM16}
use Rattle.a64_table.specs.declared.operation as operations
use operations.Operation.TheVariants.{G1, G2, G3, G4, G5, G6, G7, G8, G9, G10, G11, G12, G13, G14, G15, G16}
use operations.Operation.TheVariants.{G17, G18, G19, G20, G21, G22, G23}
use operations.BranchOp.TheVariants.{B, Bl, BCond, Cbz, Cbnz, Tbz, Tbnz}
use operations.MultiplyOp.TheVariants.{Madd, Msub, Smaddl, Smsubl, Umaddl, Umsubl, Smulh, Umulh}
use operations.AtomicForm.TheVariants.{Ldar, Stlr, Cas, Swap, Update}
use operations.SystemOp.TheVariants.{Svc, Brk, Udf, Hint, Dmb, Dsb, Isb}
use operations.{Operation.Operation, BranchOp.BranchOp, MultiplyOp.MultiplyOp, AddressForm.AddressForm}
use operations.{AtomicForm.AtomicForm, SystemOp.SystemOp}
use operations.AddressForm.TheVariants as form
use Rattle.a64_table.specs.Values.{condition_of, shift_of, extend_of, access_size_of, load_store_op_of}

-- a register shifted by an amount
unfoldable pub shifted_register : (Field → ℕ) → ShiftedRegister
shifted_register n = record { rm = byte (n RM); shift = shift_of (n SHIFT); amount = byte (n IMM6) }

-- a register extended, then shifted left
unfoldable pub extended_register : (Field → ℕ) → ExtendedRegister
extended_register n = record { rm = byte (n RM); extend = extend_of (n OPTION); amount = byte (n IMM3) }

-- the branches to a distance
unfoldable pub named_branch : BranchOp → (Field → ℕ) → (Field → ℤ) → Branch
named_branch B n s = branch.Unconditional false (s IMM26)
named_branch Bl n s = branch.Unconditional true (s IMM26)
named_branch BCond n s = branch.Conditional (condition_of (n BRANCH_COND)) (s IMM19)
named_branch Cbz n s = branch.Compare false (is_one (n SF)) (s IMM19) (byte (n RT))
named_branch Cbnz n s = branch.Compare true (is_one (n SF)) (s IMM19) (byte (n RT))
named_branch Tbz n s = branch.TestBit false (byte (n BIT)) (s IMM14) (byte (n RT))
named_branch Tbnz n s = branch.TestBit true (byte (n BIT)) (s IMM14) (byte (n RT))

-- the second operand of a conditional compare, an immediate or a register
unfoldable pub compare_operand : Bool → (Field → ℕ) → CompareOperand
compare_operand true n = operand.Immediate (byte (n IMM5))
compare_operand false n = operand.Register (byte (n RM))

-- a doubleword is reversed at 64 bits alone
unfoldable pub is_wide_source : OneSourceOp → (Field → ℕ) → Bool
is_wide_source Rev64 n = true
is_wide_source _ n = is_one (n SF)

-- a multiplication of one width, and one of 32 bits by 32 to 64, each added to or subtracted from a register
abbrev pub same_multiply : Bool → (Field → ℕ) → Multiply
same_multiply subtract n =
    multiply.Same subtract (is_one (n SF)) (byte (n RM)) (byte (n RA)) (byte (n RN)) (byte (n RD))

abbrev pub long_multiply : Bool → Bool → (Field → ℕ) → Multiply
long_multiply subtract signed n =
    multiply.Long subtract signed (byte (n RM)) (byte (n RA)) (byte (n RN)) (byte (n RD))

-- the multiplications
unfoldable pub named_multiply : MultiplyOp → (Field → ℕ) → Multiply
named_multiply Madd n = same_multiply false n
named_multiply Msub n = same_multiply true n
named_multiply Smaddl n = long_multiply false true n
named_multiply Smsubl n = long_multiply true true n
named_multiply Umaddl n = long_multiply false false n
named_multiply Umsubl n = long_multiply true false n
named_multiply Smulh n = multiply.High true (byte (n RM)) (byte (n RN)) (byte (n RD))
named_multiply Umulh n = multiply.High false (byte (n RM)) (byte (n RN)) (byte (n RD))

-- the address of a load or store
unfoldable pub named_address : AddressForm → (Field → ℕ) → (Field → ℤ) → Address
named_address form.Offset n s = address.Offset (half (n IMM12))
named_address form.Unscaled n s = address.Unscaled (s IMM9)
named_address form.PostIndex n s = address.PostIndex (s IMM9)
named_address form.PreIndex n s = address.PreIndex (s IMM9)
named_address form.Register n s = address.Register (byte (n RM)) (extend_of (n OPTION)) (is_one (n SCALED))

-- the ordered and atomic accesses
unfoldable pub named_atomic : AtomicForm → (Field → ℕ) → Atomic
named_atomic Ldar n = atomic.Ldar (access_size_of (n SIZE)) (byte (n RN)) (byte (n RT))
named_atomic Stlr n = atomic.Stlr (access_size_of (n SIZE)) (byte (n RN)) (byte (n RT))
named_atomic Cas n =
    atomic.Cas (access_size_of (n SIZE)) (is_one (n CAS_ACQUIRE)) (is_one (n CAS_RELEASE)) (byte (n RS))
    (byte (n RN)) (byte (n RT))
named_atomic Swap n =
    atomic.Swap (access_size_of (n SIZE)) (is_one (n ACQUIRE)) (is_one (n RELEASE)) (byte (n RS))
    (byte (n RN)) (byte (n RT))
named_atomic (Update op) n =
    atomic.Update op (access_size_of (n SIZE)) (is_one (n ACQUIRE)) (is_one (n RELEASE)) (byte (n RS))
    (byte (n RN)) (byte (n RT))

-- the exceptions, hints and barriers
unfoldable pub named_system : SystemOp → (Field → ℕ) → System
named_system Svc n = system.Svc (half (n IMM16))
named_system Brk n = system.Brk (half (n IMM16))
named_system Udf n = system.Udf (half (n UDF_IMM16))
named_system Hint n = system.Hint (byte (n HINT))
named_system Dmb n = system.Dmb (byte (n CRM))
named_system Dsb n = system.Dsb (byte (n CRM))
named_system Isb n = system.Isb (byte (n CRM))

-- the instruction of an operation
unfoldable pub named : Operation → (Field → ℕ) → (Field → ℤ) → Insn
named (G1 op) n s =
    insn.AddSubImmediate (record {
      op = op;
      wide = is_one (n SF);
      shifted = is_one (n SH);
      imm = half (n IMM12);
      rn = byte (n RN);
      rd = byte (n RD);
    })
named (G2 op) n s =
    insn.AddSubRegister (record {
      op = op;
      wide = is_one (n SF);
      operand = shifted_register n;
      rn = byte (n RN);
      rd = byte (n RD);
    })
named (G3 op inverted) n s =
    insn.LogicalRegister (record {
      op = op;
      wide = is_one (n SF);
      inverted = inverted;
      operand = shifted_register n;
      rn = byte (n RN);
      rd = byte (n RD);
    })
named (G4 op) n s =
    insn.AddSubExtended (record {
      op = op;
      wide = is_one (n SF);
      operand = extended_register n;
      rn = byte (n RN);
      rd = byte (n RD);
    })
named (G5 op) n s =
    insn.LogicalImmediate (record {
      op = op;
      wide = is_one (n SF);
      n = is_one (n N);
      immr = byte (n IMMR);
      imms = byte (n IMMS);
      rn = byte (n RN);
      rd = byte (n RD);
    })
named (G6 op) n s =
    insn.MoveWide (record {
      op = op;
      wide = is_one (n SF);
      hw = byte (n HW);
      imm = half (n IMM16);
      rd = byte (n RD);
    })
named (G7 op wide) n s =
    insn.BitfieldMove (record {
      op = op;
      wide = wide;
      immr = byte (n IMMR);
      imms = byte (n IMMS);
      rn = byte (n RN);
      rd = byte (n RD);
    })
named (G8 wide) n s =
    insn.Extract (record {
      wide = wide;
      rm = byte (n RM);
      lsb = byte (n IMMS);
      rn = byte (n RN);
      rd = byte (n RD);
    })
named (G9 op) n s = insn.PcRelative (record { op = op; imm = s IMM21; rd = byte (n RD) })
named (G10 op) n s = insn.Branch (named_branch op n s)
named (G11 op) n s = insn.BranchRegister (record { op = op; rn = byte (n RN) })
named (G12 op) n s =
    insn.AddSubCarry (record {
      op = op;
      wide = is_one (n SF);
      rm = byte (n RM);
      rn = byte (n RN);
      rd = byte (n RD);
    })
named (G13 op) n s =
    insn.ConditionalSelect (record {
      op = op;
      wide = is_one (n SF);
      condition = condition_of (n COND);
      rm = byte (n RM);
      rn = byte (n RN);
      rd = byte (n RD);
    })
named (G14 op immediate) n s =
    insn.ConditionalCompare (record {
      op = op;
      wide = is_one (n SF);
      operand = compare_operand immediate n;
      condition = condition_of (n COND);
      nzcv = byte (n NZCV);
      rn = byte (n RN);
    })
named (G15 op) n s =
    insn.OneSource (record { op = op; wide = is_wide_source op n; rn = byte (n RN); rd = byte (n RD) })
named (G16 op) n s =
    insn.TwoSource (record {
      op = op;
      wide = is_one (n SF);
      rm = byte (n RM);
      rn = byte (n RN);
      rd = byte (n RD);
    })
named (G17 op) n s = insn.Multiply (named_multiply op n)
named (G18 form) n s =
    insn.LoadStore (record {
      op = load_store_op_of (n OPC);
      size = access_size_of (n SIZE);
      address = named_address form n s;
      rn = byte (n RN);
      rt = byte (n RT);
    })
named (G19 op) n s = insn.LoadLiteral (record { op = op; words = s IMM19; rt = byte (n RT) })
named (G20 op wide index) n s =
    insn.LoadStorePair (record {
      op = op;
      wide = wide;
      index = index;
      offset = s IMM7;
      rn = byte (n RN);
      rt = byte (n RT);
      rt2 = byte (n RT2);
    })
named (G21 form) n s = insn.Atomic (named_atomic form n)
named (G22 op) n s = insn.System (named_system op n)
named (G23 op register) n s = insn.SystemMove (record { op = op; register = register; rt = byte (n RT) })
