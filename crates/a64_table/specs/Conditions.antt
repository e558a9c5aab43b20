-- The conditions on the fields of an operation: no row stands for the words that do not meet them.
-- Source: DDI 0487, C6.2, the encodings that each instruction's page calls undefined, unallocated or
-- constrained unpredictable.
-- Of the fields of a mask only those are taken that have the bits of immr above the rotation clear.
use Rattle.std.specs.Prelude.{ℕ, ◌==◌, Bool, true, not, ◌&&◌, ◌||◌, nat_lt, nat_le, if◌then◌else◌}
use Rattle.bit_ops.specs.Masks.{are_mask_fields}
use Rattle.sm_types.specs.declared.insn as types
use types.{PairOp.PairOp, PairOp.TheVariants.Stp, PairOp.TheVariants.Ldp, PairIndex.PairIndex}
use types.PairIndex.TheVariants as index
use Rattle.insn_forms.specs.declared.field.Field.{Field}
use Rattle.insn_forms.specs.Values.{is_one}
use Rattle.a64_table.specs.declared.fields.TheConstants.{HW, IMM3, IMM6, IMMR, IMMS, N, OPC, OPTION, RN, RT}
use Rattle.a64_table.specs.declared.fields.TheConstants.{RT2, SF, SHIFT, SIZE}
use Rattle.a64_table.specs.declared.operation as operations
use operations.Operation.TheVariants.{G2, G3, G4, G5, G6, G7, G8, G18, G20}
use operations.AddressForm.TheVariants.{PostIndex, PreIndex, Register}
use operations.{Operation.Operation}

-- the number is below the width of the registers
unfoldable pub is_below_width : Bool → ℕ → Bool
is_below_width wide number = if wide then nat_lt number 64 else nat_lt number 32

-- no signed load of a doubleword, nor of a word to 32 bits; where that of a doubleword to 64 bits would stand
-- is PRFM, which has no row
unfoldable pub has_load : ℕ → ℕ → Bool
has_load size opc = not (size == 3 && nat_le 2 opc) && not (size == 2 && opc == 3)

-- an extension of an address is from a word or a doubleword, without or with its sign
unfoldable pub is_address_option : ℕ → Bool
is_address_option option = option == 2 || option == 3 || option == 6 || option == 7

-- a base that is written is not the register that is loaded or stored, or is SP
unfoldable pub is_apart : ℕ → ℕ → Bool
is_apart rn rt = not (rn == rt) || rn == 31

-- the two registers of a pair that is loaded are two
unfoldable pub are_two : PairOp → ℕ → ℕ → Bool
are_two Ldp rt rt2 = not (rt == rt2)
are_two Stp rt rt2 = true

-- a base that is written is neither register of the pair, or is SP
unfoldable pub is_pair_apart : PairIndex → ℕ → ℕ → ℕ → Bool
is_pair_apart index.Offset rn rt rt2 = true
is_pair_apart _ rn rt rt2 = rn == 31 || (not (rn == rt) && not (rn == rt2))

-- the condition of an operation
unfoldable pub fits_of : Operation → (Field → ℕ) → Bool
fits_of (G2 op) n = not (n SHIFT == 3) && is_below_width (is_one (n SF)) (n IMM6)
fits_of (G3 op inverted) n = is_below_width (is_one (n SF)) (n IMM6)
fits_of (G4 op) n = nat_lt (n IMM3) 5
fits_of (G5 op) n = are_mask_fields (is_one (n N)) (n IMMS) (n IMMR) (is_one (n SF))
fits_of (G6 op) n = is_one (n SF) || nat_lt (n HW) 2
fits_of (G7 op wide) n = is_below_width wide (n IMMR) && is_below_width wide (n IMMS)
fits_of (G8 wide) n = is_below_width wide (n IMMS)
fits_of (G18 PostIndex) n = has_load (n SIZE) (n OPC) && is_apart (n RN) (n RT)
fits_of (G18 PreIndex) n = has_load (n SIZE) (n OPC) && is_apart (n RN) (n RT)
fits_of (G18 Register) n = has_load (n SIZE) (n OPC) && is_address_option (n OPTION)
fits_of (G18 form) n = has_load (n SIZE) (n OPC)
fits_of (G20 op wide index) n = are_two op (n RT) (n RT2) && is_pair_apart index (n RN) (n RT) (n RT2)
fits_of operation n = true
