-- What the number of a field stands for, and which field is read.
-- Source: DDI 0487, C8.2, the size and dtype of an encoding and the pseudocode of the shifts by an immediate;
-- C9.2, the fields ZAda, ZAt and off, whose widths go by the elements.
use Rattle.std.specs.Prelude.{ℕ, ◌-◌, Bool, true, false, [], ◌∷◌, get_or}
use denote.Enum.Declared.{tag_of}
use Rattle.sm_types.specs.contracts.vector as enums
use Rattle.sm_types.specs.declared.vector as types
use types.Elem.TheVariants.{B, H, S, D, Q}
use types.LoadType.TheVariants.{ByteToB, ByteToH, ByteToS, ByteToD, SignedWordToD, HalfwordToH, HalfwordToS}
use types.LoadType.TheVariants.{HalfwordToD, SignedHalfwordToD, SignedHalfwordToS, WordToS, WordToD}
use types.LoadType.TheVariants.{SignedByteToD, SignedByteToS, SignedByteToH, DoublewordToD}
use types.{Elem.Elem, LoadType.LoadType, VectorShiftOp.VectorShiftOp, VectorShiftOp.TheVariants.Lsl}
use Rattle.insn_forms.specs.declared.field.Field.{Field}
use Rattle.sve_table.specs.declared.fields.TheConstants.{AMOUNT_B, AMOUNT_H, AMOUNT_S, AMOUNT_D, ZADA_S}
use Rattle.sve_table.specs.declared.fields.TheConstants.{ZADA_D, TILE_B, TILE_H, TILE_S, TILE_D, TILE_Q}
use Rattle.sve_table.specs.declared.fields.TheConstants.{OFFSET_B, OFFSET_H, OFFSET_S, OFFSET_D, OFFSET_Q}
use Rattle.sve_table.specs.declared.fields.TheConstants.{SOURCE_TILE_B, SOURCE_TILE_H, SOURCE_TILE_S}
use Rattle.sve_table.specs.declared.fields.TheConstants.{SOURCE_TILE_D, SOURCE_TILE_Q, SOURCE_OFFSET_B}
use Rattle.sve_table.specs.declared.fields.TheConstants.{SOURCE_OFFSET_H, SOURCE_OFFSET_S, SOURCE_OFFSET_D}
use Rattle.sve_table.specs.declared.fields.TheConstants.{SOURCE_OFFSET_Q}
use Rattle.sve_table.specs.declared.operation.ShiftSize.{ShiftSize}
use Rattle.sve_table.specs.declared.operation.ShiftSize.TheVariants as shift

-- the elements of a number of 2 bits, the logarithm of their bytes
unfoldable pub elem_of : ℕ → Elem
elem_of n = get_or (B ∷ H ∷ S ∷ []) n D

-- that logarithm
abbrev pub elem_number : Elem → ℕ
elem_number it = tag_of enums.Elem.the_type it

-- the load of dtype, 4 bits
unfoldable pub load_type_of : ℕ → LoadType
load_type_of n =
    get_or (
    ByteToB ∷ ByteToH ∷ ByteToS ∷ ByteToD ∷ SignedWordToD ∷ HalfwordToH ∷ HalfwordToS ∷ HalfwordToD
    ∷ SignedHalfwordToD ∷ SignedHalfwordToS ∷ WordToS ∷ WordToD ∷ SignedByteToD ∷ SignedByteToS
    ∷ SignedByteToH ∷ []
    ) n DoublewordToD

-- its number
abbrev pub load_type_number : LoadType → ℕ
load_type_number it = tag_of enums.LoadType.the_type it

-- the elements of a shift, their width, and the field of its amount
unfoldable pub shift_elem : ShiftSize → Elem
shift_elem shift.B = B
shift_elem shift.H = H
shift_elem shift.S = S
shift_elem shift.D = D

unfoldable pub shift_width : ShiftSize → ℕ
shift_width shift.B = 8
shift_width shift.H = 16
shift_width shift.S = 32
shift_width shift.D = 64

unfoldable pub amount_field : ShiftSize → Field
amount_field shift.B = AMOUNT_B
amount_field shift.H = AMOUNT_H
amount_field shift.S = AMOUNT_S
amount_field shift.D = AMOUNT_D

-- the amount of a shift: to the left its field, to the right the width less its field
unfoldable pub shift_amount : VectorShiftOp → ℕ → ℕ → ℕ
shift_amount Lsl width n = n
shift_amount _ width n = width - n

-- the tile of a slice, and which slice of it above a register's
unfoldable pub tile_field : Elem → Field
tile_field B = TILE_B
tile_field H = TILE_H
tile_field S = TILE_S
tile_field D = TILE_D
tile_field Q = TILE_Q

unfoldable pub offset_field : Elem → Field
offset_field B = OFFSET_B
offset_field H = OFFSET_H
offset_field S = OFFSET_S
offset_field D = OFFSET_D
offset_field Q = OFFSET_Q

-- the same of a slice that is moved to a vector
unfoldable pub source_tile_field : Elem → Field
source_tile_field B = SOURCE_TILE_B
source_tile_field H = SOURCE_TILE_H
source_tile_field S = SOURCE_TILE_S
source_tile_field D = SOURCE_TILE_D
source_tile_field Q = SOURCE_TILE_Q

unfoldable pub source_offset_field : Elem → Field
source_offset_field B = SOURCE_OFFSET_B
source_offset_field H = SOURCE_OFFSET_H
source_offset_field S = SOURCE_OFFSET_S
source_offset_field D = SOURCE_OFFSET_D
source_offset_field Q = SOURCE_OFFSET_Q

-- the tile of sums of 64 or 32 bits
unfoldable pub sum_field : Bool → Field
sum_field true = ZADA_D
sum_field false = ZADA_S
