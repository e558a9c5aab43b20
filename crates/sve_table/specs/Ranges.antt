-- The ranges of a vector instruction's fields: those that a row of the table gives them, and no others.
-- Source: DDI 0487, C8.2, and C9.2 for SME: the widths of the fields of each instruction's encoding, and the
-- values that have none.
use Rattle.std.specs.Prelude.{◌≡◌, ℕ, ◌<◌, ◌≤◌, ◌^◌, Bool, true, false, IsTrue}
use Rattle.sm_types.specs.declared.insn.Insn.{Insn}
use Rattle.sm_types.specs.declared.insn.Insn.TheVariants as insn
use Rattle.sm_types.specs.declared.vector as types
use Rattle.sm_types.specs.declared.matrix as matrix
use types.{VectorArithmetic.VectorArithmetic, VectorLogical.VectorLogical, PredicatedBinary.PredicatedBinary}
use types.{MultiplyAdd.MultiplyAdd, PredicatedUnary.PredicatedUnary, VectorCopy.VectorCopy}
use types.{VectorPermute.VectorPermute, VectorReduction.VectorReduction, VectorCompare.VectorCompare}
use types.{Predicate.Predicate, PredicateCount.PredicateCount, ElementCount.ElementCount}
use types.{VectorAccess.VectorAccess, Sve2.Sve2, Elem.Elem, PredicateLogicalOp.TheVariants.Sel}
use types.{IndexPart.IndexPart, VectorOffset.VectorOffset, VectorShift.VectorShift}
use types.{VectorShiftOp.VectorShiftOp, VectorShiftOp.TheVariants.Lsl}
use types.Elem.TheVariants.{B, H, S, D, Q}
use types.IndexPart.TheVariants as part
use types.VectorOffset.TheVariants as vector_offset
use matrix.{ArrayAccess.ArrayAccess, StreamingLength.StreamingLength, TileSlice.TileSlice}
use matrix.{TileAccess.TileAccess, TileMove.TileMove, TileAdd.TileAdd, OuterProduct.OuterProduct}
use types.VectorCopy.TheVariants as copy
use types.VectorPermute.TheVariants as permute
use types.VectorReduction.TheVariants as reduction
use types.VectorCompare.TheVariants as compare
use types.Predicate.TheVariants as predicate
use types.PredicateCount.TheVariants as count
use types.ElementCount.TheVariants as element
use types.VectorAccess.TheVariants as access
use types.Sve2.TheVariants as sve2
use matrix.ArrayAccess.TheVariants as array
use matrix.StreamingLength.TheVariants as streaming
use Rattle.insn_forms.specs.Values.{IsSigned}
use Rattle.sve_table.specs.Sizes.{is_size_between, least_binary, least_unary, least_shifted, widest_reduced}

-- elements of 8 to 64 bits, and three vectors
pub record IsVectorArithmetic (it : VectorArithmetic) : Type 0 where
  pub size : IsTrue (is_size_between B D it.size)
  pub zm : it.zm < 32
  pub zn : it.zn < 32
  pub zd : it.zd < 32

-- three vectors
pub record IsVectorLogical (it : VectorLogical) : Type 0 where
  pub zm : it.zm < 32
  pub zn : it.zn < 32
  pub zd : it.zd < 32

-- the elements that the operation has, and a predicate of 0 to 7
pub record IsPredicatedBinary (it : PredicatedBinary) : Type 0 where
  pub size : IsTrue (is_size_between (least_binary it.op) D it.size)
  pub pg : it.pg < 8
  pub zm : it.zm < 32
  pub zdn : it.zdn < 32

-- elements of 8 to 64 bits, and a predicate of 0 to 7
pub record IsMultiplyAdd (it : MultiplyAdd) : Type 0 where
  pub size : IsTrue (is_size_between B D it.size)
  pub pg : it.pg < 8
  pub zm : it.zm < 32
  pub zn : it.zn < 32
  pub zda : it.zda < 32

-- the elements that the operation has, and a predicate of 0 to 7
pub record IsPredicatedUnary (it : PredicatedUnary) : Type 0 where
  pub size : IsTrue (is_size_between (least_unary it.op) D it.size)
  pub pg : it.pg < 8
  pub zn : it.zn < 32
  pub zd : it.zd < 32

-- the width of elements
abbrev pub bits_of_elem : Elem → ℕ
bits_of_elem B = 8
bits_of_elem H = 16
bits_of_elem S = 32
bits_of_elem D = 64
bits_of_elem Q = 128

-- a shift to the left by less than the width; one to the right by 1 to the width
abbrev pub IsAmount : VectorShiftOp → ℕ → ℕ → Type 0
IsAmount Lsl width amount = amount < width
IsAmount _ width amount = (0 < amount) × (amount ≤ width)

-- elements of 8 to 64 bits, shifted so
pub record IsVectorShift (it : VectorShift) : Type 0 where
  pub size : IsTrue (is_size_between B D it.size)
  pub amount : IsAmount it.op (bits_of_elem it.size) it.amount
  pub zn : it.zn < 32
  pub zd : it.zd < 32

-- 5 signed bits, or a general register
abbrev pub IsIndexPart : IndexPart → Type 0
IsIndexPart (part.Immediate imm) = IsSigned 5 imm
IsIndexPart (part.Register r) = r < 32

-- 4 signed bits, or a general register, which is not 31
abbrev pub IsVectorOffset : VectorOffset → Type 0
IsVectorOffset (vector_offset.Vectors vectors) = IsSigned 4 vectors
IsVectorOffset (vector_offset.Register rm) = rm < 31

-- 1 to 16
abbrev pub IsMultiplier : ℕ → Type 0
IsMultiplier multiplier = (0 < multiplier) × (multiplier ≤ 16)

-- W12 to W15
abbrev pub IsSliceRegister : ℕ → Type 0
IsSliceRegister rv = (12 ≤ rv) × (rv < 16)

-- immediates of 8 bits, which are not shifted where the elements are bytes
abbrev pub IsVectorCopy : VectorCopy → Type 0
IsVectorCopy (copy.Register size rn zd) = IsTrue (is_size_between B D size) × (rn < 32) × (zd < 32)
IsVectorCopy (copy.PredicatedRegister size pg rn zd) =
    IsTrue (is_size_between B D size) × (pg < 8) × (rn < 32) × (zd < 32)
IsVectorCopy (copy.Immediate size shifted imm zd) =
    IsTrue (is_size_between (least_shifted shifted) D size) × IsSigned 8 imm × (zd < 32)
IsVectorCopy (copy.PredicatedImmediate size pg merging shifted imm zd) =
    IsTrue (is_size_between (least_shifted shifted) D size) × (pg < 16) × IsSigned 8 imm × (zd < 32)
IsVectorCopy (copy.Index size start step zd) =
    IsTrue (is_size_between B D size) × IsIndexPart start × IsIndexPart step × (zd < 32)
IsVectorCopy (copy.AddImmediate op size shifted imm zdn) =
    IsTrue (is_size_between (least_shifted shifted) D size) × (imm < 2 ^ 8) × (zdn < 32)
IsVectorCopy (copy.MultiplyImmediate size imm zdn) =
    IsTrue (is_size_between B D size) × IsSigned 8 imm × (zdn < 32)
IsVectorCopy (copy.Select size zm pg zn zd) =
    IsTrue (is_size_between B D size) × (zm < 32) × (pg < 16) × (zn < 32) × (zd < 32)
IsVectorCopy (copy.Prefix zn zd) = (zn < 32) × (zd < 32)

-- an amount of 8 bits; an unpacked element is wider than a byte
abbrev pub IsVectorPermute : VectorPermute → Type 0
IsVectorPermute (permute.Interleave op size zm zn zd) =
    IsTrue (is_size_between B D size) × (zm < 32) × (zn < 32) × (zd < 32)
IsVectorPermute (permute.Reverse size zn zd) = IsTrue (is_size_between B D size) × (zn < 32) × (zd < 32)
IsVectorPermute (permute.Table size zm zn zd) =
    IsTrue (is_size_between B D size) × (zm < 32) × (zn < 32) × (zd < 32)
IsVectorPermute (permute.Extract amount zm zdn) = (amount < 2 ^ 8) × (zm < 32) × (zdn < 32)
IsVectorPermute (permute.Unpack signed high size zn zd) =
    IsTrue (is_size_between H D size) × (zn < 32) × (zd < 32)

-- the elements that the operation has, and a predicate of 0 to 7
abbrev pub IsVectorReduction : VectorReduction → Type 0
IsVectorReduction (reduction.Last active size pg zn rd) =
    IsTrue (is_size_between B D size) × (pg < 8) × (zn < 32) × (rd < 32)
IsVectorReduction (reduction.Reduce op size pg zn vd) =
    IsTrue (is_size_between B (widest_reduced op) size) × (pg < 8) × (zn < 32) × (vd < 32)

-- a predicate of 0 to 7, and an immediate of 5 signed bits
abbrev pub IsVectorCompare : VectorCompare → Type 0
IsVectorCompare (compare.Vectors op size zm pg zn pd) =
    IsTrue (is_size_between B D size) × (zm < 32) × (pg < 8) × (zn < 32) × (pd < 16)
IsVectorCompare (compare.Immediate op size imm pg zn pd) =
    IsTrue (is_size_between B D size) × IsSigned 5 imm × (pg < 8) × (zn < 32) × (pd < 16)

-- predicates of 0 to 15, and a pattern of 5 bits; a selection sets no flags
abbrev pub IsPredicate : Predicate → Type 0
IsPredicate (predicate.True size pattern pd) = IsTrue (is_size_between B D size) × (pattern < 32) × (pd < 16)
IsPredicate (predicate.False pd) = pd < 16
IsPredicate (predicate.Test pg pn) = (pg < 16) × (pn < 16)
IsPredicate (predicate.Logical op flags pm pg pn pd) =
    (op ≡ Sel → flags ≡ false) × (pm < 16) × (pg < 16) × (pn < 16) × (pd < 16)

-- predicates of 0 to 15
abbrev pub IsPredicateCount : PredicateCount → Type 0
IsPredicateCount (count.While signed wide size rm rn pd) =
    IsTrue (is_size_between B D size) × (rm < 32) × (rn < 32) × (pd < 16)
IsPredicateCount (count.Active size pg pn rd) =
    IsTrue (is_size_between B D size) × (pg < 16) × (pn < 16) × (rd < 32)
IsPredicateCount count.SetFfr = Unit {0}
IsPredicateCount (count.ReadFfr pd) = pd < 16
IsPredicateCount (count.WriteFfr pn) = pn < 16

-- a pattern of 5 bits, a multiplier and 6 signed bits
abbrev pub IsElementCount : ElementCount → Type 0
IsElementCount (element.Count size pattern multiplier rd) =
    IsTrue (is_size_between B D size) × (pattern < 32) × IsMultiplier multiplier × (rd < 32)
IsElementCount (element.Change decrement size pattern multiplier rd) =
    IsTrue (is_size_between B D size) × (pattern < 32) × IsMultiplier multiplier × (rd < 32)
IsElementCount (element.Length imm rd) = IsSigned 6 imm × (rd < 32)
IsElementCount (element.AddLength predicate imm rn rd) = IsSigned 6 imm × (rn < 32) × (rd < 32)

-- a predicate of 0 to 7, and what is stored is no wider than the element
abbrev pub IsVectorAccess : VectorAccess → Type 0
IsVectorAccess (access.Load kind offset pg rn zt) = IsVectorOffset offset × (pg < 8) × (rn < 32) × (zt < 32)
IsVectorAccess (access.Store memory element offset pg rn zt) =
    IsTrue (is_size_between memory D element) × IsVectorOffset offset × (pg < 8) × (rn < 32) × (zt < 32)
IsVectorAccess (access.Vector store vectors rn zt) = IsSigned 9 vectors × (rn < 32) × (zt < 32)
IsVectorAccess (access.Predicate store vectors rn pt) = IsSigned 9 vectors × (rn < 32) × (pt < 16)

-- a widened element is wider than a byte
abbrev pub IsSve2 : Sve2 → Type 0
IsSve2 (sve2.Multiply op size zm zn zd) =
    IsTrue (is_size_between B D size) × (zm < 32) × (zn < 32) × (zd < 32)
IsSve2 (sve2.Ternary op zm zk zdn) = (zm < 32) × (zk < 32) × (zdn < 32)
IsSve2 (sve2.Widening op top size zm zn zd) =
    IsTrue (is_size_between H D size) × (zm < 32) × (zn < 32) × (zd < 32)

-- a mask of 8 bits; the register of a vector, and which vector above it
abbrev pub IsArrayAccess : ArrayAccess → Type 0
IsArrayAccess (array.Zero mask) = mask < 2 ^ 8
IsArrayAccess (array.Transfer store rv offset rn) = IsSliceRegister rv × (offset < 16) × (rn < 32)

-- 6 signed bits
abbrev pub IsStreamingLength : StreamingLength → Type 0
IsStreamingLength (streaming.Length imm rd) = IsSigned 6 imm × (rd < 32)
IsStreamingLength (streaming.AddLength predicate imm rn rd) = IsSigned 6 imm × (rn < 32) × (rd < 32)

-- as many tiles as an element has bytes, and as many slices above a register's as 16 bytes have elements
abbrev pub tiles : Elem → ℕ
tiles B = 1
tiles H = 2
tiles S = 4
tiles D = 8
tiles Q = 16

abbrev pub offsets : Elem → ℕ
offsets B = 16
offsets H = 8
offsets S = 4
offsets D = 2
offsets Q = 1

-- one of the tiles of its elements, and which slice above the register's
pub record IsTileSlice (it : TileSlice) : Type 0 where
  pub rv : IsSliceRegister it.rv
  pub tile : it.tile < tiles it.size
  pub offset : it.offset < offsets it.size

-- a predicate of 0 to 7
pub record IsTileAccess (it : TileAccess) : Type 0 where
  pub slice : IsTileSlice it.slice
  pub pg : it.pg < 8
  pub rm : it.rm < 32
  pub rn : it.rn < 32

-- a predicate of 0 to 7
pub record IsTileMove (it : TileMove) : Type 0 where
  pub slice : IsTileSlice it.slice
  pub pg : it.pg < 8
  pub z : it.z < 32

-- a tile of doublewords or of words
abbrev pub sum_tiles : Bool → ℕ
sum_tiles true = 8
sum_tiles false = 4

-- predicates of 0 to 7
pub record IsTileAdd (it : TileAdd) : Type 0 where
  pub tile : it.tile < sum_tiles it.wide
  pub pn : it.pn < 8
  pub pm : it.pm < 8
  pub zn : it.zn < 32

-- predicates of 0 to 7
pub record IsOuterProduct (it : OuterProduct) : Type 0 where
  pub tile : it.tile < sum_tiles it.wide
  pub pn : it.pn < 8
  pub pm : it.pm < 8
  pub zn : it.zn < 32
  pub zm : it.zm < 32

-- the instruction is a vector instruction, and its fields are in the ranges that a row gives them
abbrev pub IsInVectorRow : Insn → Type 0
IsInVectorRow (insn.VectorArithmetic it) = IsVectorArithmetic it
IsInVectorRow (insn.VectorLogical it) = IsVectorLogical it
IsInVectorRow (insn.PredicatedBinary it) = IsPredicatedBinary it
IsInVectorRow (insn.MultiplyAdd it) = IsMultiplyAdd it
IsInVectorRow (insn.PredicatedUnary it) = IsPredicatedUnary it
IsInVectorRow (insn.VectorShift it) = IsVectorShift it
IsInVectorRow (insn.VectorCopy it) = IsVectorCopy it
IsInVectorRow (insn.VectorPermute it) = IsVectorPermute it
IsInVectorRow (insn.VectorReduction it) = IsVectorReduction it
IsInVectorRow (insn.VectorCompare it) = IsVectorCompare it
IsInVectorRow (insn.Predicate it) = IsPredicate it
IsInVectorRow (insn.PredicateCount it) = IsPredicateCount it
IsInVectorRow (insn.ElementCount it) = IsElementCount it
IsInVectorRow (insn.VectorAccess it) = IsVectorAccess it
IsInVectorRow (insn.Sve2 it) = IsSve2 it
IsInVectorRow (insn.Mode it) = Unit {0}
IsInVectorRow (insn.ArrayAccess it) = IsArrayAccess it
IsInVectorRow (insn.TileAccess it) = IsTileAccess it
IsInVectorRow (insn.TileMove it) = IsTileMove it
IsInVectorRow (insn.TileAdd it) = IsTileAdd it
IsInVectorRow (insn.OuterProduct it) = IsOuterProduct it
IsInVectorRow (insn.StreamingLength it) = IsStreamingLength it
IsInVectorRow _ = ⊥
