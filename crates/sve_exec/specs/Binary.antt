-- Operations on two vectors under a predicate.
-- Source: DDI 0487, C8.2: ADD, SUB, SUBR, SMAX, UMAX, SMIN, UMIN, SABD, UABD, MUL, SMULH, UMULH, SDIV, UDIV,
-- ORR, EOR, AND, BIC, ASR, LSR and LSL (vectors, predicated).
use Rattle.std.specs.Prelude.{ℕ, ◌*◌, ◌/◌, ◌%◌, ◌^◌, ◌==◌, min, max, List, if◌then◌else◌, pos, ◌-ℤ◌, ◌*ℤ◌}
use Rattle.std.specs.Prelude.{int_lt, int_div, unsigned_abs, bit_and, bit_or, bit_xor}
use Rattle.std.specs.Int.{abs_diff, int_div_euclid}
use Rattle.sm_types.specs.declared.vector.PredicatedBinaryOp.{PredicatedBinaryOp}
use Rattle.sm_types.specs.declared.vector.PredicatedBinaryOp.TheVariants.{Add, Sub, Subr, Smax, Umax, Smin}
use Rattle.sm_types.specs.declared.vector.PredicatedBinaryOp.TheVariants.{Umin, Sabd, Uabd, Mul, Smulh, Umulh}
use Rattle.sm_types.specs.declared.vector.PredicatedBinaryOp.TheVariants.{Sdiv}
use Rattle.sm_types.specs.declared.vector.PredicatedBinaryOp.TheVariants.{Udiv, Orr, Eor, And, Bic, Asr, Lsr}
use Rattle.sm_types.specs.declared.vector.PredicatedBinaryOp.TheVariants.{Lsl}
use Rattle.vector_elements.specs.declared.size.Size.{Size}
use Rattle.vector_elements.specs.Elements.{element_of, each_active}
use Rattle.vector_elements.specs.Numbers.{bytes_in, bits_in, range_of, signed_of, wrapped}
use Rattle.sve_exec.specs.Numbers.{inverted}
use Rattle.sve_exec.specs.Arithmetic.{sum_of, difference_of}

-- the low half of the product of two elements
abbrev pub product_of : Size → ℕ → ℕ → ℕ
product_of size a b = a * b % range_of size

-- the upper half of the product of two elements, with a sign and without
abbrev pub signed_high_product : Size → ℕ → ℕ → ℕ
signed_high_product size a b =
    wrapped size (int_div_euclid (signed_of size a *ℤ signed_of size b) (pos (range_of size)))

abbrev pub high_product : Size → ℕ → ℕ → ℕ
high_product size a b = a * b / range_of size

-- the quotient, rounded towards zero; 0 where the divisor is 0, and the least number over -1 is itself
abbrev pub signed_quotient : Size → ℕ → ℕ → ℕ
signed_quotient size a b = if b == 0 then 0 else wrapped size (int_div (signed_of size a) (signed_of size b))

abbrev pub quotient : ℕ → ℕ → ℕ
quotient a b = if b == 0 then 0 else a / b

-- the shifts by an amount, of which all from w on are as w: `/` and int_div_euclid round down
abbrev pub shifted_left : Size → ℕ → ℕ → ℕ
shifted_left size a amount = a * 2 ^ min amount (bits_in size) % range_of size

abbrev pub shifted_right : Size → ℕ → ℕ → ℕ
shifted_right size a amount = a / 2 ^ min amount (bits_in size)

abbrev pub signed_shifted_right : Size → ℕ → ℕ → ℕ
signed_shifted_right size a amount =
    wrapped size (int_div_euclid (signed_of size a) (pos (2 ^ min amount (bits_in size))))

-- the operation on an element of the first vector and one of the second
unfoldable pub binary_of : PredicatedBinaryOp → Size → ℕ → ℕ → ℕ
binary_of Add size a b = sum_of size a b
binary_of Sub size a b = difference_of size a b
binary_of Subr size a b = difference_of size b a
binary_of Smax size a b = if int_lt (signed_of size a) (signed_of size b) then b else a
binary_of Umax size a b = max a b
binary_of Smin size a b = if int_lt (signed_of size b) (signed_of size a) then b else a
binary_of Umin size a b = min a b
binary_of Sabd size a b = unsigned_abs (signed_of size a -ℤ signed_of size b)
binary_of Uabd size a b = abs_diff a b
binary_of Mul size a b = product_of size a b
binary_of Smulh size a b = signed_high_product size a b
binary_of Umulh size a b = high_product size a b
binary_of Sdiv size a b = signed_quotient size a b
binary_of Udiv size a b = quotient a b
binary_of Orr size a b = bit_or a b
binary_of Eor size a b = bit_xor a b
binary_of And size a b = bit_and a b
binary_of Bic size a b = bit_and a (inverted size b)
binary_of Asr size a b = signed_shifted_right size a b
binary_of Lsr size a b = shifted_right size a b
binary_of Lsl size a b = shifted_left size a b

-- the operation on each two elements where the first is active; the others keep their value
unfoldable pub predicated_binary : PredicatedBinaryOp → Size → List ℕ → List ℕ → List ℕ → List ℕ
predicated_binary op size p n m =
    each_active (bytes_in size) p n (λ i a. binary_of op size a (element_of (bytes_in size) m i))
