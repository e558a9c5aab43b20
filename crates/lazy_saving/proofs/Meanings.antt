-- What the words of the routines mean.
use Rattle.std.proofs.Common.{◌≡◌, true, false, Some, refl, pos}
use Rattle.std.specs.Prelude.{◌-ℤ◌}
use Rattle.sm_types.specs.declared.insn as types
use types.{Insn.Insn, AddSub.TheVariants.Add, AddSub.TheVariants.Sub, Logical.TheVariants.Orr, ShiftKind.TheVariants.Lsl}
use types.{MoveOp.TheVariants.Movz, BranchRegisterOp.TheVariants.Ret, LoadStoreOp.TheVariants.Load}
use types.{SystemMoveOp.TheVariants.Mrs, SystemMoveOp.TheVariants.Msr, SystemRegister.TheVariants.Tpidr2El0}
use types.Insn.TheVariants as insn
use types.Branch.TheVariants as branch
use types.AccessSize.TheVariants as size
use types.Address.TheVariants as address
use Rattle.sm_types.specs.declared.matrix.ArrayAccess.TheVariants as array
use Rattle.sm_types.specs.declared.matrix.StreamingLength.TheVariants as streaming
use Rattle.sm_types.specs.declared.matrix.ModePart.TheVariants.{Za}
use Rattle.insn_forms.specs.Fields.{field_in, field_of, bit_of, signed_value}
use Rattle.insn_forms.specs.Tables.{meaning_by, meaning_in, stands_for}
use Rattle.a64_table.specs.Table.{scalar, meaning_of}
use Rattle.a64_table.specs.Conditions as conditions
use Rattle.a64_table.specs.Named as scalar_named
use Rattle.a64_table.specs.Values as scalar_values
use Rattle.sve_table.specs.Table.{vector, vector_meaning_of}
use Rattle.sve_table.specs.Conditions as vector_conditions
use Rattle.sve_table.specs.Named as vector_named
use Rattle.a64_encode.specs.Either.{instruction_of}

-- MRS X14, TPIDR2_EL0
abbrev pub read_pointer : Insn
read_pointer = insn.SystemMove (record { op = Mrs; register = Tpidr2El0; rt = 14 })

pub read_pointer-means : instruction_of 0xD53BD0AE ≡ Some read_pointer
unfolding instruction_of meaning_of vector_meaning_of meaning_by meaning_in stands_for scalar vector field_in field_of bit_of
    signed_value
    conditions.fits_of conditions.is_below_width conditions.has_load conditions.is_address_option conditions.is_apart
    scalar_named.named scalar_named.named_branch scalar_named.shifted_register scalar_named.named_address
    scalar_values.shift_of scalar_values.access_size_of scalar_values.load_store_op_of
    vector_conditions.fits_of vector_conditions.is_from vector_conditions.is_up_to vector_conditions.is_offset vector_named.named
    vector_named.named_array vector_named.named_streaming
read_pointer-means = refl

-- MSR TPIDR2_EL0, XZR
abbrev pub clear_pointer : Insn
clear_pointer = insn.SystemMove (record { op = Msr; register = Tpidr2El0; rt = 31 })

pub clear_pointer-means : instruction_of 0xD51BD0BF ≡ Some clear_pointer
unfolding instruction_of meaning_of vector_meaning_of meaning_by meaning_in stands_for scalar vector field_in field_of bit_of
    signed_value
    conditions.fits_of conditions.is_below_width conditions.has_load conditions.is_address_option conditions.is_apart
    scalar_named.named scalar_named.named_branch scalar_named.shifted_register scalar_named.named_address
    scalar_values.shift_of scalar_values.access_size_of scalar_values.load_store_op_of
    vector_conditions.fits_of vector_conditions.is_from vector_conditions.is_up_to vector_conditions.is_offset vector_named.named
    vector_named.named_array vector_named.named_streaming
clear_pointer-means = refl

-- CBZ X14, 15 words on
abbrev pub if_no_block : Insn
if_no_block = insn.Branch (branch.Compare false true (pos 15) 14)

pub if_no_block-means : instruction_of 0xB40001EE ≡ Some if_no_block
unfolding instruction_of meaning_of vector_meaning_of meaning_by meaning_in stands_for scalar vector field_in field_of bit_of
    signed_value
    conditions.fits_of conditions.is_below_width conditions.has_load conditions.is_address_option conditions.is_apart
    scalar_named.named scalar_named.named_branch scalar_named.shifted_register scalar_named.named_address
    scalar_values.shift_of scalar_values.access_size_of scalar_values.load_store_op_of
    vector_conditions.fits_of vector_conditions.is_from vector_conditions.is_up_to vector_conditions.is_offset vector_named.named
    vector_named.named_array vector_named.named_streaming
if_no_block-means = refl

-- CBNZ X14, 16 words on
abbrev pub if_block : Insn
if_block = insn.Branch (branch.Compare true true (pos 16) 14)

pub if_block-means : instruction_of 0xB500020E ≡ Some if_block
unfolding instruction_of meaning_of vector_meaning_of meaning_by meaning_in stands_for scalar vector field_in field_of bit_of
    signed_value
    conditions.fits_of conditions.is_below_width conditions.has_load conditions.is_address_option conditions.is_apart
    scalar_named.named scalar_named.named_branch scalar_named.shifted_register scalar_named.named_address
    scalar_values.shift_of scalar_values.access_size_of scalar_values.load_store_op_of
    vector_conditions.fits_of vector_conditions.is_from vector_conditions.is_up_to vector_conditions.is_offset vector_named.named
    vector_named.named_array vector_named.named_streaming
if_block-means = refl

-- CBNZ X14, 3 words on
abbrev pub if_kept : Insn
if_kept = insn.Branch (branch.Compare true true (pos 3) 14)

pub if_kept-means : instruction_of 0xB500006E ≡ Some if_kept
unfolding instruction_of meaning_of vector_meaning_of meaning_by meaning_in stands_for scalar vector field_in field_of bit_of
    signed_value
    conditions.fits_of conditions.is_below_width conditions.has_load conditions.is_address_option conditions.is_apart
    scalar_named.named scalar_named.named_branch scalar_named.shifted_register scalar_named.named_address
    scalar_values.shift_of scalar_values.access_size_of scalar_values.load_store_op_of
    vector_conditions.fits_of vector_conditions.is_from vector_conditions.is_up_to vector_conditions.is_offset vector_named.named
    vector_named.named_array vector_named.named_streaming
if_kept-means = refl

-- LDRH W15, [X14, #10]
abbrev pub low_zeros : Insn
low_zeros = insn.LoadStore (record { op = Load; size = size.Halfword; address = address.Offset 5; rn = 14; rt = 15 })

pub low_zeros-means : instruction_of 0x794015CF ≡ Some low_zeros
unfolding instruction_of meaning_of vector_meaning_of meaning_by meaning_in stands_for scalar vector field_in field_of bit_of
    signed_value
    conditions.fits_of conditions.is_below_width conditions.has_load conditions.is_address_option conditions.is_apart
    scalar_named.named scalar_named.named_branch scalar_named.shifted_register scalar_named.named_address
    scalar_values.shift_of scalar_values.access_size_of scalar_values.load_store_op_of
    vector_conditions.fits_of vector_conditions.is_from vector_conditions.is_up_to vector_conditions.is_offset vector_named.named
    vector_named.named_array vector_named.named_streaming
low_zeros-means = refl

-- LDR W16, [X14, #12]
abbrev pub high_zeros : Insn
high_zeros = insn.LoadStore (record { op = Load; size = size.Word; address = address.Offset 3; rn = 14; rt = 16 })

pub high_zeros-means : instruction_of 0xB9400DD0 ≡ Some high_zeros
unfolding instruction_of meaning_of vector_meaning_of meaning_by meaning_in stands_for scalar vector field_in field_of bit_of
    signed_value
    conditions.fits_of conditions.is_below_width conditions.has_load conditions.is_address_option conditions.is_apart
    scalar_named.named scalar_named.named_branch scalar_named.shifted_register scalar_named.named_address
    scalar_values.shift_of scalar_values.access_size_of scalar_values.load_store_op_of
    vector_conditions.fits_of vector_conditions.is_from vector_conditions.is_up_to vector_conditions.is_offset vector_named.named
    vector_named.named_array vector_named.named_streaming
high_zeros-means = refl

-- ORR W15, W15, W16
abbrev pub both_zeros : Insn
both_zeros = insn.LogicalRegister (record {
  op = Orr;
  wide = false;
  inverted = false;
  operand = record {
    rm = 16;
    shift = Lsl;
    amount =
        0;
  };
  rn = 15;
  rd = 15;
})

pub both_zeros-means : instruction_of 0x2A1001EF ≡ Some both_zeros
unfolding instruction_of meaning_of vector_meaning_of meaning_by meaning_in stands_for scalar vector field_in field_of bit_of
    signed_value
    conditions.fits_of conditions.is_below_width conditions.has_load conditions.is_address_option conditions.is_apart
    scalar_named.named scalar_named.named_branch scalar_named.shifted_register scalar_named.named_address
    scalar_values.shift_of scalar_values.access_size_of scalar_values.load_store_op_of
    vector_conditions.fits_of vector_conditions.is_from vector_conditions.is_up_to vector_conditions.is_offset vector_named.named
    vector_named.named_array vector_named.named_streaming
both_zeros-means = refl

-- CBNZ W15, 14 words on
abbrev pub unless_zeros : Insn
unless_zeros = insn.Branch (branch.Compare true false (pos 14) 15)

pub unless_zeros-means : instruction_of 0x350001CF ≡ Some unless_zeros
unfolding instruction_of meaning_of vector_meaning_of meaning_by meaning_in stands_for scalar vector field_in field_of bit_of
    signed_value
    conditions.fits_of conditions.is_below_width conditions.has_load conditions.is_address_option conditions.is_apart
    scalar_named.named scalar_named.named_branch scalar_named.shifted_register scalar_named.named_address
    scalar_values.shift_of scalar_values.access_size_of scalar_values.load_store_op_of
    vector_conditions.fits_of vector_conditions.is_from vector_conditions.is_up_to vector_conditions.is_offset vector_named.named
    vector_named.named_array vector_named.named_streaming
unless_zeros-means = refl

-- CBNZ W15, 12 words on
abbrev pub unless_zeros_there : Insn
unless_zeros_there = insn.Branch (branch.Compare true false (pos 12) 15)

pub unless_zeros_there-means : instruction_of 0x3500018F ≡ Some unless_zeros_there
unfolding instruction_of meaning_of vector_meaning_of meaning_by meaning_in stands_for scalar vector field_in field_of bit_of
    signed_value
    conditions.fits_of conditions.is_below_width conditions.has_load conditions.is_address_option conditions.is_apart
    scalar_named.named scalar_named.named_branch scalar_named.shifted_register scalar_named.named_address
    scalar_values.shift_of scalar_values.access_size_of scalar_values.load_store_op_of
    vector_conditions.fits_of vector_conditions.is_from vector_conditions.is_up_to vector_conditions.is_offset vector_named.named
    vector_named.named_array vector_named.named_streaming
unless_zeros_there-means = refl

-- LDR X16, [X14]
abbrev pub read_buffer : Insn
read_buffer = insn.LoadStore (record { op = Load; size = size.Doubleword; address = address.Offset 0; rn = 14; rt = 16 })

pub read_buffer-means : instruction_of 0xF94001D0 ≡ Some read_buffer
unfolding instruction_of meaning_of vector_meaning_of meaning_by meaning_in stands_for scalar vector field_in field_of bit_of
    signed_value
    conditions.fits_of conditions.is_below_width conditions.has_load conditions.is_address_option conditions.is_apart
    scalar_named.named scalar_named.named_branch scalar_named.shifted_register scalar_named.named_address
    scalar_values.shift_of scalar_values.access_size_of scalar_values.load_store_op_of
    vector_conditions.fits_of vector_conditions.is_from vector_conditions.is_up_to vector_conditions.is_offset vector_named.named
    vector_named.named_array vector_named.named_streaming
read_buffer-means = refl

-- CBZ X16, 9 words on
abbrev pub if_no_buffer : Insn
if_no_buffer = insn.Branch (branch.Compare false true (pos 9) 16)

pub if_no_buffer-means : instruction_of 0xB4000130 ≡ Some if_no_buffer
unfolding instruction_of meaning_of vector_meaning_of meaning_by meaning_in stands_for scalar vector field_in field_of bit_of
    signed_value
    conditions.fits_of conditions.is_below_width conditions.has_load conditions.is_address_option conditions.is_apart
    scalar_named.named scalar_named.named_branch scalar_named.shifted_register scalar_named.named_address
    scalar_values.shift_of scalar_values.access_size_of scalar_values.load_store_op_of
    vector_conditions.fits_of vector_conditions.is_from vector_conditions.is_up_to vector_conditions.is_offset vector_named.named
    vector_named.named_array vector_named.named_streaming
if_no_buffer-means = refl

-- LDRH W14, [X14, #8]
abbrev pub read_count : Insn
read_count = insn.LoadStore (record { op = Load; size = size.Halfword; address = address.Offset 4; rn = 14; rt = 14 })

pub read_count-means : instruction_of 0x794011CE ≡ Some read_count
unfolding instruction_of meaning_of vector_meaning_of meaning_by meaning_in stands_for scalar vector field_in field_of bit_of
    signed_value
    conditions.fits_of conditions.is_below_width conditions.has_load conditions.is_address_option conditions.is_apart
    scalar_named.named scalar_named.named_branch scalar_named.shifted_register scalar_named.named_address
    scalar_values.shift_of scalar_values.access_size_of scalar_values.load_store_op_of
    vector_conditions.fits_of vector_conditions.is_from vector_conditions.is_up_to vector_conditions.is_offset vector_named.named
    vector_named.named_array vector_named.named_streaming
read_count-means = refl

-- CBZ W14, 7 words on
abbrev pub if_no_slices : Insn
if_no_slices = insn.Branch (branch.Compare false false (pos 7) 14)

pub if_no_slices-means : instruction_of 0x340000EE ≡ Some if_no_slices
unfolding instruction_of meaning_of vector_meaning_of meaning_by meaning_in stands_for scalar vector field_in field_of bit_of
    signed_value
    conditions.fits_of conditions.is_below_width conditions.has_load conditions.is_address_option conditions.is_apart
    scalar_named.named scalar_named.named_branch scalar_named.shifted_register scalar_named.named_address
    scalar_values.shift_of scalar_values.access_size_of scalar_values.load_store_op_of
    vector_conditions.fits_of vector_conditions.is_from vector_conditions.is_up_to vector_conditions.is_offset vector_named.named
    vector_named.named_array vector_named.named_streaming
if_no_slices-means = refl

-- MOVZ W15, #0
abbrev pub no_slice_yet : Insn
no_slice_yet = insn.MoveWide (record { op = Movz; wide = false; hw = 0; imm = 0; rd = 15 })

pub no_slice_yet-means : instruction_of 0x5280000F ≡ Some no_slice_yet
unfolding instruction_of meaning_of vector_meaning_of meaning_by meaning_in stands_for scalar vector field_in field_of bit_of
    signed_value
    conditions.fits_of conditions.is_below_width conditions.has_load conditions.is_address_option conditions.is_apart
    scalar_named.named scalar_named.named_branch scalar_named.shifted_register scalar_named.named_address
    scalar_values.shift_of scalar_values.access_size_of scalar_values.load_store_op_of
    vector_conditions.fits_of vector_conditions.is_from vector_conditions.is_up_to vector_conditions.is_offset vector_named.named
    vector_named.named_array vector_named.named_streaming
no_slice_yet-means = refl

-- STR ZA[W15, 0], [X16]
abbrev pub store_slice : Insn
store_slice = insn.ArrayAccess (array.Transfer true 15 0 16)

pub store_slice-means : instruction_of 0xE1206200 ≡ Some store_slice
unfolding instruction_of meaning_of vector_meaning_of meaning_by meaning_in stands_for scalar vector field_in field_of bit_of
    signed_value
    conditions.fits_of conditions.is_below_width conditions.has_load conditions.is_address_option conditions.is_apart
    scalar_named.named scalar_named.named_branch scalar_named.shifted_register scalar_named.named_address
    scalar_values.shift_of scalar_values.access_size_of scalar_values.load_store_op_of
    vector_conditions.fits_of vector_conditions.is_from vector_conditions.is_up_to vector_conditions.is_offset vector_named.named
    vector_named.named_array vector_named.named_streaming
store_slice-means = refl

-- LDR ZA[W15, 0], [X16]
abbrev pub load_slice : Insn
load_slice = insn.ArrayAccess (array.Transfer false 15 0 16)

pub load_slice-means : instruction_of 0xE1006200 ≡ Some load_slice
unfolding instruction_of meaning_of vector_meaning_of meaning_by meaning_in stands_for scalar vector field_in field_of bit_of
    signed_value
    conditions.fits_of conditions.is_below_width conditions.has_load conditions.is_address_option conditions.is_apart
    scalar_named.named scalar_named.named_branch scalar_named.shifted_register scalar_named.named_address
    scalar_values.shift_of scalar_values.access_size_of scalar_values.load_store_op_of
    vector_conditions.fits_of vector_conditions.is_from vector_conditions.is_up_to vector_conditions.is_offset vector_named.named
    vector_named.named_array vector_named.named_streaming
load_slice-means = refl

-- ADDSVL X16, X16, #1
abbrev pub next_piece : Insn
next_piece = insn.StreamingLength (streaming.AddLength false (pos 1) 16 16)

pub next_piece-means : instruction_of 0x04305830 ≡ Some next_piece
unfolding instruction_of meaning_of vector_meaning_of meaning_by meaning_in stands_for scalar vector field_in field_of bit_of
    signed_value
    conditions.fits_of conditions.is_below_width conditions.has_load conditions.is_address_option conditions.is_apart
    scalar_named.named scalar_named.named_branch scalar_named.shifted_register scalar_named.named_address
    scalar_values.shift_of scalar_values.access_size_of scalar_values.load_store_op_of
    vector_conditions.fits_of vector_conditions.is_from vector_conditions.is_up_to vector_conditions.is_offset vector_named.named
    vector_named.named_array vector_named.named_streaming
next_piece-means = refl

-- ADD W15, W15, #1
abbrev pub next_slice : Insn
next_slice = insn.AddSubImmediate (record { op = Add; wide = false; shifted = false; imm = 1; rn = 15; rd = 15 })

pub next_slice-means : instruction_of 0x110005EF ≡ Some next_slice
unfolding instruction_of meaning_of vector_meaning_of meaning_by meaning_in stands_for scalar vector field_in field_of bit_of
    signed_value
    conditions.fits_of conditions.is_below_width conditions.has_load conditions.is_address_option conditions.is_apart
    scalar_named.named scalar_named.named_branch scalar_named.shifted_register scalar_named.named_address
    scalar_values.shift_of scalar_values.access_size_of scalar_values.load_store_op_of
    vector_conditions.fits_of vector_conditions.is_from vector_conditions.is_up_to vector_conditions.is_offset vector_named.named
    vector_named.named_array vector_named.named_streaming
next_slice-means = refl

-- SUB W17, W15, W14
abbrev pub slices_left : Insn
slices_left = insn.AddSubRegister (record {
  op = Sub;
  wide = false;
  operand = record { rm = 14; shift = Lsl; amount = 0 };
  rn = 15;
  rd =
      17;
})

pub slices_left-means : instruction_of 0x4B0E01F1 ≡ Some slices_left
unfolding instruction_of meaning_of vector_meaning_of meaning_by meaning_in stands_for scalar vector field_in field_of bit_of
    signed_value
    conditions.fits_of conditions.is_below_width conditions.has_load conditions.is_address_option conditions.is_apart
    scalar_named.named scalar_named.named_branch scalar_named.shifted_register scalar_named.named_address
    scalar_values.shift_of scalar_values.access_size_of scalar_values.load_store_op_of
    vector_conditions.fits_of vector_conditions.is_from vector_conditions.is_up_to vector_conditions.is_offset vector_named.named
    vector_named.named_array vector_named.named_streaming
slices_left-means = refl

-- CBNZ W17, 4 words back
abbrev pub unless_all : Insn
unless_all = insn.Branch (branch.Compare true false (pos 0 -ℤ pos 4) 17)

pub unless_all-means : instruction_of 0x35FFFF91 ≡ Some unless_all
unfolding instruction_of meaning_of vector_meaning_of meaning_by meaning_in stands_for scalar vector field_in field_of bit_of
    signed_value
    conditions.fits_of conditions.is_below_width conditions.has_load conditions.is_address_option conditions.is_apart
    scalar_named.named scalar_named.named_branch scalar_named.shifted_register scalar_named.named_address
    scalar_values.shift_of scalar_values.access_size_of scalar_values.load_store_op_of
    vector_conditions.fits_of vector_conditions.is_from vector_conditions.is_up_to vector_conditions.is_offset vector_named.named
    vector_named.named_array vector_named.named_streaming
unless_all-means = refl

-- RET
abbrev pub back : Insn
back = insn.BranchRegister (record { op = Ret; rn = 30 })

pub back-means : instruction_of 0xD65F03C0 ≡ Some back
unfolding instruction_of meaning_of vector_meaning_of meaning_by meaning_in stands_for scalar vector field_in field_of bit_of
    signed_value
    conditions.fits_of conditions.is_below_width conditions.has_load conditions.is_address_option conditions.is_apart
    scalar_named.named scalar_named.named_branch scalar_named.shifted_register scalar_named.named_address
    scalar_values.shift_of scalar_values.access_size_of scalar_values.load_store_op_of
    vector_conditions.fits_of vector_conditions.is_from vector_conditions.is_up_to vector_conditions.is_offset vector_named.named
    vector_named.named_array vector_named.named_streaming
back-means = refl

-- SMSTOP ZA
abbrev pub array_off : Insn
array_off = insn.Mode (record { start = false; part = Za })

pub array_off-means : instruction_of 0xD503447F ≡ Some array_off
unfolding instruction_of meaning_of vector_meaning_of meaning_by meaning_in stands_for scalar vector field_in field_of bit_of
    signed_value
    conditions.fits_of conditions.is_below_width conditions.has_load conditions.is_address_option conditions.is_apart
    scalar_named.named scalar_named.named_branch scalar_named.shifted_register scalar_named.named_address
    scalar_values.shift_of scalar_values.access_size_of scalar_values.load_store_op_of
    vector_conditions.fits_of vector_conditions.is_from vector_conditions.is_up_to vector_conditions.is_offset vector_named.named
    vector_named.named_array vector_named.named_streaming
array_off-means = refl

-- SMSTART ZA
abbrev pub array_on : Insn
array_on = insn.Mode (record { start = true; part = Za })

pub array_on-means : instruction_of 0xD503457F ≡ Some array_on
unfolding instruction_of meaning_of vector_meaning_of meaning_by meaning_in stands_for scalar vector field_in field_of bit_of
    signed_value
    conditions.fits_of conditions.is_below_width conditions.has_load conditions.is_address_option conditions.is_apart
    scalar_named.named scalar_named.named_branch scalar_named.shifted_register scalar_named.named_address
    scalar_values.shift_of scalar_values.access_size_of scalar_values.load_store_op_of
    vector_conditions.fits_of vector_conditions.is_from vector_conditions.is_up_to vector_conditions.is_offset vector_named.named
    vector_named.named_array vector_named.named_streaming
array_on-means = refl

-- LDRH W15, [X0, #10]
abbrev pub low_zeros_there : Insn
low_zeros_there = insn.LoadStore (record { op = Load; size = size.Halfword; address = address.Offset 5; rn = 0; rt = 15 })

pub low_zeros_there-means : instruction_of 0x7940140F ≡ Some low_zeros_there
unfolding instruction_of meaning_of vector_meaning_of meaning_by meaning_in stands_for scalar vector field_in field_of bit_of
    signed_value
    conditions.fits_of conditions.is_below_width conditions.has_load conditions.is_address_option conditions.is_apart
    scalar_named.named scalar_named.named_branch scalar_named.shifted_register scalar_named.named_address
    scalar_values.shift_of scalar_values.access_size_of scalar_values.load_store_op_of
    vector_conditions.fits_of vector_conditions.is_from vector_conditions.is_up_to vector_conditions.is_offset vector_named.named
    vector_named.named_array vector_named.named_streaming
low_zeros_there-means = refl

-- LDR W16, [X0, #12]
abbrev pub high_zeros_there : Insn
high_zeros_there = insn.LoadStore (record { op = Load; size = size.Word; address = address.Offset 3; rn = 0; rt = 16 })

pub high_zeros_there-means : instruction_of 0xB9400C10 ≡ Some high_zeros_there
unfolding instruction_of meaning_of vector_meaning_of meaning_by meaning_in stands_for scalar vector field_in field_of bit_of
    signed_value
    conditions.fits_of conditions.is_below_width conditions.has_load conditions.is_address_option conditions.is_apart
    scalar_named.named scalar_named.named_branch scalar_named.shifted_register scalar_named.named_address
    scalar_values.shift_of scalar_values.access_size_of scalar_values.load_store_op_of
    vector_conditions.fits_of vector_conditions.is_from vector_conditions.is_up_to vector_conditions.is_offset vector_named.named
    vector_named.named_array vector_named.named_streaming
high_zeros_there-means = refl

-- LDR X16, [X0]
abbrev pub read_buffer_there : Insn
read_buffer_there = insn.LoadStore (record { op = Load; size = size.Doubleword; address = address.Offset 0; rn = 0; rt = 16 })

pub read_buffer_there-means : instruction_of 0xF9400010 ≡ Some read_buffer_there
unfolding instruction_of meaning_of vector_meaning_of meaning_by meaning_in stands_for scalar vector field_in field_of bit_of
    signed_value
    conditions.fits_of conditions.is_below_width conditions.has_load conditions.is_address_option conditions.is_apart
    scalar_named.named scalar_named.named_branch scalar_named.shifted_register scalar_named.named_address
    scalar_values.shift_of scalar_values.access_size_of scalar_values.load_store_op_of
    vector_conditions.fits_of vector_conditions.is_from vector_conditions.is_up_to vector_conditions.is_offset vector_named.named
    vector_named.named_array vector_named.named_streaming
read_buffer_there-means = refl

-- LDRH W14, [X0, #8]
abbrev pub read_count_there : Insn
read_count_there = insn.LoadStore (record { op = Load; size = size.Halfword; address = address.Offset 4; rn = 0; rt = 14 })

pub read_count_there-means : instruction_of 0x7940100E ≡ Some read_count_there
unfolding instruction_of meaning_of vector_meaning_of meaning_by meaning_in stands_for scalar vector field_in field_of bit_of
    signed_value
    conditions.fits_of conditions.is_below_width conditions.has_load conditions.is_address_option conditions.is_apart
    scalar_named.named scalar_named.named_branch scalar_named.shifted_register scalar_named.named_address
    scalar_values.shift_of scalar_values.access_size_of scalar_values.load_store_op_of
    vector_conditions.fits_of vector_conditions.is_from vector_conditions.is_up_to vector_conditions.is_offset vector_named.named
    vector_named.named_array vector_named.named_streaming
read_count_there-means = refl

-- MOV X0, X19
abbrev pub give_block : Insn
give_block = insn.LogicalRegister (record {
  op = Orr;
  wide = true;
  inverted = false;
  operand = record {
    rm = 19;
    shift = Lsl;
    amount =
        0;
  };
  rn = 31;
  rd = 0;
})

pub give_block-means : instruction_of 0xAA1303E0 ≡ Some give_block
unfolding instruction_of meaning_of vector_meaning_of meaning_by meaning_in stands_for scalar vector field_in field_of bit_of
    signed_value
    conditions.fits_of conditions.is_below_width conditions.has_load conditions.is_address_option conditions.is_apart
    scalar_named.named scalar_named.named_branch scalar_named.shifted_register scalar_named.named_address
    scalar_values.shift_of scalar_values.access_size_of scalar_values.load_store_op_of
    vector_conditions.fits_of vector_conditions.is_from vector_conditions.is_up_to vector_conditions.is_offset vector_named.named
    vector_named.named_array vector_named.named_streaming
give_block-means = refl
