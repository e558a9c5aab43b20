-- What a line of a file of vectors says: an instruction, and fields of the state before it. The same fields
-- say the state after it. Source: docs/VECTORS.md; for the registers DDI 0487, B1.2 and B1.4.
use Rattle.std.specs.Prelude.{ℕ, ◌+◌, ◌/◌, ◌++◌, ◌==◌, ◌&&◌, nat_lt, nat_le, Bool, true, false}
use Rattle.std.specs.Prelude.{List, [], ◌∷◌, length, codes, decimal}
use Rattle.hex.specs.Hex.{encode_lower}
use Rattle.sm_types.specs.declared.length.VecLen.{VecLen}
use Rattle.sve_vectors.specs.Lengths.{current_bytes, vector_bytes}
use Rattle.text_lines.specs.Numbers.{hex64, digit}
use Rattle.vector_runner.specs.declared.vector.Modes.{Modes}

-- a field of a state; numbered ones have their number first, and bytes have the lowest first
pub data Field : Type 0 where
  X : ℕ → ℕ → Field
  Sp : ℕ → Field
  -- N, Z, C and V
  Nzcv : Bool → Bool → Bool → Bool → Field
  Tpidr : ℕ → Field
  Tpidr2 : ℕ → Field
  -- PSTATE.SM and PSTATE.ZA
  Svcr : Bool → Bool → Field
  Z : ℕ → List ℕ → Field
  P : ℕ → List ℕ → Field
  Ffr : List ℕ → Field
  -- a vector of ZA
  Za : ℕ → List ℕ → Field
  -- the bytes with which the data begin
  M : List ℕ → Field

-- an instruction, and what is not zero before it
pub record Vector : Type 0 where
  pub word : ℕ
  pub fields : List Field

-- ---- the text

-- the name of a field
abbrev pub name_of : Field → List ℕ
name_of (X n value) = codes "x" ++ decimal n
name_of (Sp value) = codes "sp"
name_of (Nzcv n z c v) = codes "nzcv"
name_of (Tpidr value) = codes "tpidr"
name_of (Tpidr2 value) = codes "tpidr2"
name_of (Svcr streaming za_on) = codes "svcr"
name_of (Z n bytes) = codes "z" ++ decimal n
name_of (P n bytes) = codes "p" ++ decimal n
name_of (Ffr bytes) = codes "ffr"
name_of (Za n bytes) = codes "za" ++ decimal n
name_of (M bytes) = codes "m"

-- PSTATE.SM and PSTATE.ZA as bits 0 and 1 of a digit
abbrev pub svcr_text : Bool → Bool → List ℕ
svcr_text false false = codes "0"
svcr_text true false = codes "1"
svcr_text false true = codes "2"
svcr_text true true = codes "3"

-- its value: numbers in 16 hexadecimal digits, bytes in two each, flags as 0 or 1
abbrev pub value_of : Field → List ℕ
value_of (X n value) = hex64 value
value_of (Sp value) = hex64 value
value_of (Nzcv n z c v) = digit n ∷ digit z ∷ digit c ∷ digit v ∷ []
value_of (Tpidr value) = hex64 value
value_of (Tpidr2 value) = hex64 value
value_of (Svcr streaming za_on) = svcr_text streaming za_on
value_of (Z n bytes) = encode_lower bytes
value_of (P n bytes) = encode_lower bytes
value_of (Ffr bytes) = encode_lower bytes
value_of (Za n bytes) = encode_lower bytes
value_of (M bytes) = encode_lower bytes

-- a field: name and value with = (61) between them
unfoldable pub field_text : Field → List ℕ
field_text f = name_of f ++ 61 ∷ value_of f

-- ---- which fields a state has

-- the modes after a field, where those before it say these
abbrev pub modes_after : Modes → Field → Modes
modes_after modes (Svcr streaming za_on) = record { streaming = streaming; za_on = za_on }
modes_after modes other = modes

-- the modes that fields say; both are off where none does
unfoldable pub modes_with : Modes → List Field → Modes
modes_with modes [] = modes
modes_with modes (f ∷ fields) = modes_with (modes_after modes f) fields

abbrev pub modes_of : List Field → Modes
modes_of fields = modes_with (record { streaming = false; za_on = false }) fields

-- The place of a field in the order of a line, in which each stands at most once.
unfoldable pub rank : Field → ℕ
rank (X n value) = n
rank (Sp value) = 31
rank (Nzcv n z c v) = 32
rank (Tpidr value) = 33
rank (Tpidr2 value) = 34
rank (Svcr streaming za_on) = 35
rank (Z n bytes) = 36 + n
rank (P n bytes) = 68 + n
rank (Ffr bytes) = 84
rank (Za n bytes) = 85 + n
rank (M bytes) = 341

-- A state of these lengths, in these modes, has the field: there is a register of the number, and there are
-- as many bytes as it has, L bytes of a vector, L / 8 of a predicate, S of each of the S vectors of ZA, which
-- is on; the data begin with 1 to 4,096 bytes.
unfoldable pub fits : VecLen → VecLen → Modes → Field → Bool
fits vl svl modes (X n value) = nat_lt n 31
fits vl svl modes (Sp value) = true
fits vl svl modes (Nzcv n z c v) = true
fits vl svl modes (Tpidr value) = true
fits vl svl modes (Tpidr2 value) = true
fits vl svl modes (Svcr streaming za_on) = true
fits vl svl modes (Z n bytes) = nat_lt n 32 && (length bytes == current_bytes vl svl modes.streaming)
fits vl svl modes (P n bytes) = nat_lt n 16 && (length bytes == current_bytes vl svl modes.streaming / 8)
fits vl svl modes (Ffr bytes) = length bytes == current_bytes vl svl modes.streaming / 8
fits vl svl modes (Za n bytes) =
    modes.za_on && (nat_lt n (vector_bytes svl) && (length bytes == vector_bytes svl))
fits vl svl modes (M bytes) = nat_le 1 (length bytes) && nat_le (length bytes) 4096
