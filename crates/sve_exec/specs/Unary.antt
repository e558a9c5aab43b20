-- Operations on one vector under a predicate.
-- Source: DDI 0487, C8.2: ABS, NEG, CLS, CLZ, CNT, CNOT, NOT, SXTB, UXTB, SXTH, UXTH, SXTW and UXTW
-- (predicated); J1.1: CountLeadingSignBits, CountLeadingZeroBits, BitCount, SignExtend.
use Rattle.std.specs.Prelude.{ℕ, ◌≡◌, ◌≢◌, ◌+◌, ◌-◌, ◌/◌, ◌%◌, ◌==◌, ◌<◌, ◌≤◌, List, if◌then◌else◌}
use Rattle.std.specs.Prelude.{unsigned_abs, bit_xor, count_ones}
use Rattle.std.specs.Int.{bit_at}
use Rattle.std.specs.Int.Count.{count_leading_zeros}
use Rattle.sm_types.specs.declared.vector.PredicatedUnaryOp.{PredicatedUnaryOp}
use Rattle.sm_types.specs.declared.vector.PredicatedUnaryOp.TheVariants.{Abs, Neg, Cls, Clz, Cnt, Cnot, Not}
use Rattle.sm_types.specs.declared.vector.PredicatedUnaryOp.TheVariants.{Sxtb, Uxtb, Sxth, Uxth, Sxtw, Uxtw}
use Rattle.vector_elements.specs.declared.size.Size.{Size}
use Rattle.vector_elements.specs.declared.size.Size.TheVariants.{B, H, S}
use Rattle.vector_elements.specs.Elements.{element_of, each_active}
use Rattle.vector_elements.specs.Numbers.{bytes_in, bits_in, range_of, half_of, signed_of, wrapped}
use Rattle.sve_exec.specs.Numbers.{inverted}
use Rattle.sve_exec.specs.Arithmetic.{difference_of}

-- CountLeadingSignBits: the leading zeros of the bits above the lowest, each exclusive or the one below it
abbrev pub leading_signs : Size → ℕ → ℕ
leading_signs size a = count_leading_zeros (bits_in size - 1) (bit_xor (a / 2) (a % half_of size))

-- n consecutive bits of a number of `width` bits, from the one below the top bit down, equal the top bit, and
-- no more of them do
pub record HasLeadingSigns (width a n : ℕ) : Type 0 where
  pub below : n < width
  pub equal : (i : ℕ) → width - 1 - n ≤ i → i < width → bit_at a i ≡ bit_at a (width - 1)
  pub no_more : n + 1 < width → bit_at a (width - 2 - n) ≢ bit_at a (width - 1)

-- SignExtend: the low part of an element, of the size `from`, as a number with its sign
abbrev pub sign_extended : Size → Size → ℕ → ℕ
sign_extended from size a = wrapped size (signed_of from (a % range_of from))

-- the operation on an element
unfoldable pub unary_of : PredicatedUnaryOp → Size → ℕ → ℕ
unary_of Abs size a = unsigned_abs (signed_of size a)
unary_of Neg size a = difference_of size 0 a
unary_of Cls size a = leading_signs size a
unary_of Clz size a = count_leading_zeros (bits_in size) a
unary_of Cnt size a = count_ones a
unary_of Cnot size a = if a == 0 then 1 else 0
unary_of Not size a = inverted size a
unary_of Sxtb size a = sign_extended B size a
unary_of Uxtb size a = a % range_of B
unary_of Sxth size a = sign_extended H size a
unary_of Uxth size a = a % range_of H
unary_of Sxtw size a = sign_extended S size a
unary_of Uxtw size a = a % range_of S

-- the elements of n, operated on, where they are active; those of d elsewhere
unfoldable pub predicated_unary : PredicatedUnaryOp → Size → List ℕ → List ℕ → List ℕ → List ℕ
predicated_unary op size p d n =
    each_active (bytes_in size) p d (λ i old. unary_of op size (element_of (bytes_in size) n i))
