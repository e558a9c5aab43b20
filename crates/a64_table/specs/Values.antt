-- What the number of a field stands for.
-- Source: DDI 0487, C1.2.4, and the pages of C6.2 on the shared pseudocode DecodeShift and DecodeRegExtend.
use Rattle.std.specs.Prelude.{ℕ, [], ◌∷◌, get_or}
use denote.Enum.Declared.{tag_of}
use Rattle.sm_types.specs.contracts.insn as enums
use Rattle.sm_types.specs.declared.insn as types
use types.Condition.TheVariants.{Eq, Ne, Cs, Cc, Mi, Pl, Vs, Vc, Hi, Ls, Ge, Lt, Gt, Le, Al, Nv}
use types.ShiftKind.TheVariants.{Lsl, Lsr, Asr, Ror}
use types.Extend.TheVariants.{Uxtb, Uxth, Uxtw, Uxtx, Sxtb, Sxth, Sxtw, Sxtx}
use types.AccessSize.TheVariants.{Byte, Halfword, Word, Doubleword}
use types.LoadStoreOp.TheVariants.{Store, Load, LoadSignedTo64, LoadSignedTo32}
use types.{Condition.Condition, ShiftKind.ShiftKind, Extend.Extend, AccessSize.AccessSize}
use types.{LoadStoreOp.LoadStoreOp}

-- the condition of a number of 4 bits
unfoldable pub condition_of : ℕ → Condition
condition_of n = get_or (Eq ∷ Ne ∷ Cs ∷ Cc ∷ Mi ∷ Pl ∷ Vs ∷ Vc ∷ Hi ∷ Ls ∷ Ge ∷ Lt ∷ Gt ∷ Le ∷ Al ∷ []) n Nv

-- its number
abbrev pub condition_number : Condition → ℕ
condition_number it = tag_of enums.Condition.the_type it

-- the shift of a number of 2 bits
unfoldable pub shift_of : ℕ → ShiftKind
shift_of n = get_or (Lsl ∷ Lsr ∷ Asr ∷ []) n Ror

-- its number
abbrev pub shift_number : ShiftKind → ℕ
shift_number it = tag_of enums.ShiftKind.the_type it

-- the extension of a number of 3 bits
unfoldable pub extend_of : ℕ → Extend
extend_of n = get_or (Uxtb ∷ Uxth ∷ Uxtw ∷ Uxtx ∷ Sxtb ∷ Sxth ∷ Sxtw ∷ []) n Sxtx

-- its number
abbrev pub extend_number : Extend → ℕ
extend_number it = tag_of enums.Extend.the_type it

-- the size of an access from its logarithm, 2 bits
unfoldable pub access_size_of : ℕ → AccessSize
access_size_of n = get_or (Byte ∷ Halfword ∷ Word ∷ []) n Doubleword

-- its number
abbrev pub access_size_number : AccessSize → ℕ
access_size_number it = tag_of enums.AccessSize.the_type it

-- the operation of opc, 2 bits, in loads and stores of one register
unfoldable pub load_store_op_of : ℕ → LoadStoreOp
load_store_op_of n = get_or (Store ∷ Load ∷ LoadSignedTo64 ∷ []) n LoadSignedTo32

-- its number
abbrev pub load_store_op_number : LoadStoreOp → ℕ
load_store_op_number it = tag_of enums.LoadStoreOp.the_type it
