-- What instructions with their first tests taken in advance are.
use Rattle.std.specs.Prelude.{◌≡◌, ℕ, Bool, true, false, cond, Option, Some, None, MatchOption, IsTrue}
use Rattle.sm_types.specs.declared.insn as types
use types.Insn.{Insn}
use types.AddSub.TheVariants.{Add, Adds, Sub, Subs}
use types.Logical.TheVariants.{And, Orr, Eor, Ands}
use types.MoveOp.TheVariants.{Movz, Movn, Movk}
use types.BitfieldOp.TheVariants.{Ubfm, Sbfm}
use types.SelectOp.TheVariants.{Csel, Csinc, Csinv, Csneg}
use types.TwoSourceOp.TheVariants.{Udiv, Sdiv, Lslv, Lsrv, Asrv, Rorv}
use types.Branch.TheVariants.{Unconditional, Conditional, Compare, TestBit}
use types.BranchRegisterOp.TheVariants.{Br, Blr, Ret}
use types.PcRelativeOp.TheVariants.{Adr, Adrp}
use types.LoadStoreOp.TheVariants.{Store, Load, LoadSignedTo64, LoadSignedTo32}
use types.AccessSize.TheVariants.{Doubleword, Word, Halfword, Byte}
use types.Insn.TheVariants as insn
use types.Condition.TheVariants as condition
use Rattle.sm_types.specs.declared.scalars.Scalars.{Scalars}
use Rattle.a64_table.specs.Ranges.{IsInRow}
use Rattle.scalar_exec.specs.Step.{is_scalar}
use Rattle.scalar_exec.specs.Forms.{sum_immediate, sum_register, sum_shifted, sum_extended, logical}
use Rattle.scalar_exec.specs.Forms.{logical_shifted, masked, halfword_move, field_move, selected}
use Rattle.scalar_exec.specs.Forms.{two_sources, product, long_product, high_product}
use Rattle.scalar_exec.specs.Forms.{offset_access, access_of}
use Rattle.scalar_exec.specs.Apart.{Steps}
use Rattle.scalar_exec.specs.declared.flat.Flat.{Flat}
use Rattle.scalar_exec.specs.declared.flat.Flat.TheVariants as flat

-- the instruction, where the flat one says all of it and it is one of the scalar registers alone
abbrev pub flat_insn : Flat → Option Insn
flat_insn (flat.AddImmediate x) = Some (sum_immediate Add true x)
flat_insn (flat.SubImmediate x) = Some (sum_immediate Sub true x)
flat_insn (flat.AddsImmediate x) = Some (sum_immediate Adds true x)
flat_insn (flat.SubsImmediate x) = Some (sum_immediate Subs true x)
flat_insn (flat.NarrowAddImmediate x) = Some (sum_immediate Add false x)
flat_insn (flat.NarrowSubImmediate x) = Some (sum_immediate Sub false x)
flat_insn (flat.NarrowAddsImmediate x) = Some (sum_immediate Adds false x)
flat_insn (flat.NarrowSubsImmediate x) = Some (sum_immediate Subs false x)
flat_insn (flat.Add x) = Some (sum_register Add true x)
flat_insn (flat.Sub x) = Some (sum_register Sub true x)
flat_insn (flat.Adds x) = Some (sum_register Adds true x)
flat_insn (flat.Subs x) = Some (sum_register Subs true x)
flat_insn (flat.NarrowAdd x) = Some (sum_register Add false x)
flat_insn (flat.NarrowSub x) = Some (sum_register Sub false x)
flat_insn (flat.NarrowAdds x) = Some (sum_register Adds false x)
flat_insn (flat.NarrowSubs x) = Some (sum_register Subs false x)
flat_insn (flat.AddShifted x) = Some (sum_shifted Add x)
flat_insn (flat.SubShifted x) = Some (sum_shifted Sub x)
flat_insn (flat.AddExtended x) = Some (sum_extended x)
flat_insn (flat.And x) = Some (logical And true false x)
flat_insn (flat.Orr x) = Some (logical Orr true false x)
flat_insn (flat.Eor x) = Some (logical Eor true false x)
flat_insn (flat.Ands x) = Some (logical Ands true false x)
flat_insn (flat.NarrowAnd x) = Some (logical And false false x)
flat_insn (flat.NarrowOrr x) = Some (logical Orr false false x)
flat_insn (flat.NarrowEor x) = Some (logical Eor false false x)
flat_insn (flat.NarrowAnds x) = Some (logical Ands false false x)
flat_insn (flat.Bic x) = Some (logical And true true x)
flat_insn (flat.Orn x) = Some (logical Orr true true x)
flat_insn (flat.AndShifted x) = Some (logical_shifted And x)
flat_insn (flat.OrrShifted x) = Some (logical_shifted Orr x)
flat_insn (flat.EorShifted x) = Some (logical_shifted Eor x)
flat_insn (flat.AndMask x) = Some (masked And true x)
flat_insn (flat.OrrMask x) = Some (masked Orr true x)
flat_insn (flat.EorMask x) = Some (masked Eor true x)
flat_insn (flat.AndsMask x) = Some (masked Ands true x)
flat_insn (flat.NarrowAndMask x) = Some (masked And false x)
flat_insn (flat.NarrowOrrMask x) = Some (masked Orr false x)
flat_insn (flat.NarrowEorMask x) = Some (masked Eor false x)
flat_insn (flat.NarrowAndsMask x) = Some (masked Ands false x)
flat_insn (flat.Movz x) = Some (halfword_move Movz true x)
flat_insn (flat.Movn x) = Some (halfword_move Movn true x)
flat_insn (flat.Movk x) = Some (halfword_move Movk true x)
flat_insn (flat.NarrowMovz x) = Some (halfword_move Movz false x)
flat_insn (flat.NarrowMovn x) = Some (halfword_move Movn false x)
flat_insn (flat.NarrowMovk x) = Some (halfword_move Movk false x)
flat_insn (flat.Ubfm x) = Some (field_move Ubfm true x)
flat_insn (flat.Sbfm x) = Some (field_move Sbfm true x)
flat_insn (flat.NarrowUbfm x) = Some (field_move Ubfm false x)
flat_insn (flat.NarrowSbfm x) = Some (field_move Sbfm false x)
flat_insn (flat.Csel x) = Some (selected Csel true x)
flat_insn (flat.Csinc x) = Some (selected Csinc true x)
flat_insn (flat.Csinv x) = Some (selected Csinv true x)
flat_insn (flat.Csneg x) = Some (selected Csneg true x)
flat_insn (flat.NarrowCsel x) = Some (selected Csel false x)
flat_insn (flat.NarrowCsinc x) = Some (selected Csinc false x)
flat_insn (flat.NarrowCsinv x) = Some (selected Csinv false x)
flat_insn (flat.NarrowCsneg x) = Some (selected Csneg false x)
flat_insn (flat.Udiv x) = Some (two_sources Udiv true x)
flat_insn (flat.Sdiv x) = Some (two_sources Sdiv true x)
flat_insn (flat.Lslv x) = Some (two_sources Lslv true x)
flat_insn (flat.Lsrv x) = Some (two_sources Lsrv true x)
flat_insn (flat.Asrv x) = Some (two_sources Asrv true x)
flat_insn (flat.Rorv x) = Some (two_sources Rorv true x)
flat_insn (flat.NarrowUdiv x) = Some (two_sources Udiv false x)
flat_insn (flat.NarrowSdiv x) = Some (two_sources Sdiv false x)
flat_insn (flat.NarrowLslv x) = Some (two_sources Lslv false x)
flat_insn (flat.NarrowLsrv x) = Some (two_sources Lsrv false x)
flat_insn (flat.NarrowAsrv x) = Some (two_sources Asrv false x)
flat_insn (flat.NarrowRorv x) = Some (two_sources Rorv false x)
flat_insn (flat.MultiplyAdd x) = Some (product false true x)
flat_insn (flat.MultiplySubtract x) = Some (product true true x)
flat_insn (flat.NarrowMultiplyAdd x) = Some (product false false x)
flat_insn (flat.NarrowMultiplySubtract x) = Some (product true false x)
flat_insn (flat.Umaddl x) = Some (long_product false x)
flat_insn (flat.Smaddl x) = Some (long_product true x)
flat_insn (flat.Umulh x) = Some (high_product false x)
flat_insn (flat.Smulh x) = Some (high_product true x)
flat_insn (flat.Jump words) = Some (insn.Branch (Unconditional false words))
flat_insn (flat.Call words) = Some (insn.Branch (Unconditional true words))
flat_insn (flat.IfEqual words) = Some (insn.Branch (Conditional condition.Eq words))
flat_insn (flat.IfUnequal words) = Some (insn.Branch (Conditional condition.Ne words))
flat_insn (flat.If condition words) = Some (insn.Branch (Conditional condition words))
flat_insn (flat.IfZero rt words) = Some (insn.Branch (Compare false true words rt))
flat_insn (flat.IfNonzero rt words) = Some (insn.Branch (Compare true true words rt))
flat_insn (flat.NarrowIfZero rt words) = Some (insn.Branch (Compare false false words rt))
flat_insn (flat.NarrowIfNonzero rt words) = Some (insn.Branch (Compare true false words rt))
flat_insn (flat.IfClear bit rt words) = Some (insn.Branch (TestBit false bit words rt))
flat_insn (flat.IfSet bit rt words) = Some (insn.Branch (TestBit true bit words rt))
flat_insn (flat.JumpTo rn) = Some (insn.BranchRegister (record { op = Br; rn = rn }))
flat_insn (flat.CallTo rn) = Some (insn.BranchRegister (record { op = Blr; rn = rn }))
flat_insn (flat.Return rn) = Some (insn.BranchRegister (record { op = Ret; rn = rn }))
flat_insn (flat.Address rd imm) = Some (insn.PcRelative (record { op = Adr; imm = imm; rd = rd }))
flat_insn (flat.PageAddress rd imm) = Some (insn.PcRelative (record { op = Adrp; imm = imm; rd = rd }))
flat_insn _ = None

-- the load or store, where the flat one says all of it; else the instruction itself, where the flat one says
-- that it reads and writes scalar registers alone, or nothing but where to look for it
abbrev pub flat_rest : Flat → Insn → Option Insn
flat_rest (flat.LoadDoubleword x) it = Some (offset_access Load Doubleword x)
flat_rest (flat.LoadWord x) it = Some (offset_access Load Word x)
flat_rest (flat.LoadHalfword x) it = Some (offset_access Load Halfword x)
flat_rest (flat.LoadByte x) it = Some (offset_access Load Byte x)
flat_rest (flat.LoadSignedWord x) it = Some (offset_access LoadSignedTo64 Word x)
flat_rest (flat.LoadSignedHalfword x) it = Some (offset_access LoadSignedTo64 Halfword x)
flat_rest (flat.LoadSignedByte x) it = Some (offset_access LoadSignedTo64 Byte x)
flat_rest (flat.NarrowLoadSignedHalfword x) it = Some (offset_access LoadSignedTo32 Halfword x)
flat_rest (flat.NarrowLoadSignedByte x) it = Some (offset_access LoadSignedTo32 Byte x)
flat_rest (flat.StoreDoubleword x) it = Some (offset_access Store Doubleword x)
flat_rest (flat.StoreWord x) it = Some (offset_access Store Word x)
flat_rest (flat.StoreHalfword x) it = Some (offset_access Store Halfword x)
flat_rest (flat.StoreByte x) it = Some (offset_access Store Byte x)
flat_rest (flat.LoadDoublewordAt x address) it = Some (access_of Load Doubleword x address)
flat_rest (flat.LoadWordAt x address) it = Some (access_of Load Word x address)
flat_rest (flat.LoadHalfwordAt x address) it = Some (access_of Load Halfword x address)
flat_rest (flat.LoadByteAt x address) it = Some (access_of Load Byte x address)
flat_rest (flat.StoreDoublewordAt x address) it = Some (access_of Store Doubleword x address)
flat_rest (flat.StoreWordAt x address) it = Some (access_of Store Word x address)
flat_rest (flat.StoreHalfwordAt x address) it = Some (access_of Store Halfword x address)
flat_rest (flat.StoreByteAt x address) it = Some (access_of Store Byte x address)
flat_rest flat.Load it = Some it
flat_rest flat.Store it = Some it
flat_rest flat.Scalar it = cond (is_scalar it) (Some it) None
flat_rest flat.Other it = Some it
flat_rest _ _ = None

-- the first of two that is there
abbrev pub first_of : Option Insn → Option Insn → Option Insn
first_of (Some it) other = Some it
first_of None other = other

-- the instruction that a flat one stands for, where it is one of this one
abbrev pub flat_value : Flat → Insn → Option Insn
flat_value flat it = first_of (flat_insn flat) (flat_rest flat it)

-- a flat one is of an instruction
abbrev pub IsFlatOf : Flat → Insn → Type 0
IsFlatOf flat it = flat_value flat it ≡ Some it

-- the fields of an instruction of the scalar registers alone are in their ranges
abbrev pub IsFlatInRow : Flat → Type 0
IsFlatInRow flat = MatchOption (flat_insn flat) Unit (λ it. IsTrue (is_scalar it) → IsInRow it)

-- an instruction of the scalar registers alone takes PC on to a distance
abbrev pub StepsTo : Insn → ℕ → ℕ → Option ℕ → Scalars → Scalars → Type 0
StepsTo it base at result old new =
    IsTrue (is_scalar it) × MatchOption result ⊥ (λ next. Steps it base at next old new)

-- where a flat one says all of such an instruction, that is executed; else nothing has changed
abbrev pub StepsFlat : Flat → ℕ → ℕ → Option ℕ → Scalars → Scalars → Type 0
StepsFlat flat base at result old new =
    MatchOption (flat_insn flat) ((result ≡ None) × (new ≡ old))
    (λ it. StepsTo it base at result old new)
