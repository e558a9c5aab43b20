-- Sums and differences of two vectors.
-- Source: DDI 0487, C8.2: ADD, SUB, SQADD, UQADD, SQSUB and UQSUB (vectors, unpredicated).
use Rattle.std.specs.Prelude.{ℕ, ◌+◌, ◌-◌, ◌%◌, List, ◌+ℤ◌, ◌-ℤ◌}
use Rattle.sm_types.specs.declared.vector.VectorArithmeticOp.{VectorArithmeticOp}
use Rattle.sm_types.specs.declared.vector.VectorArithmeticOp.TheVariants.{Add, Sub, Sqadd, Uqadd, Sqsub}
use Rattle.sm_types.specs.declared.vector.VectorArithmeticOp.TheVariants.{Uqsub}
use Rattle.vector_elements.specs.declared.size.Size.{Size}
use Rattle.vector_elements.specs.Elements.{element_of, each_element}
use Rattle.vector_elements.specs.Numbers.{bytes_in, range_of, signed_of, wrapped}
use Rattle.sve_exec.specs.Numbers.{signed_saturated, unsigned_saturated}

-- the sum and the difference of two elements, modulo 2 ^ w
abbrev pub sum_of : Size → ℕ → ℕ → ℕ
sum_of size a b = (a + b) % range_of size

abbrev pub difference_of : Size → ℕ → ℕ → ℕ
difference_of size a b = (a + (range_of size - b)) % range_of size

-- the operation on two elements; a difference without a sign saturates at 0, as `-` of ℕ does
unfoldable pub arithmetic_of : VectorArithmeticOp → Size → ℕ → ℕ → ℕ
arithmetic_of Add size a b = sum_of size a b
arithmetic_of Sub size a b = difference_of size a b
arithmetic_of Sqadd size a b = wrapped size (signed_saturated size (signed_of size a +ℤ signed_of size b))
arithmetic_of Uqadd size a b = unsigned_saturated size (a + b)
arithmetic_of Sqsub size a b = wrapped size (signed_saturated size (signed_of size a -ℤ signed_of size b))
arithmetic_of Uqsub size a b = a - b

-- the operation on each two elements of two vectors
unfoldable pub vector_arithmetic : VectorArithmeticOp → Size → List ℕ → List ℕ → List ℕ
vector_arithmetic op size n m =
    each_element (bytes_in size) n (λ i a. arithmetic_of op size a (element_of (bytes_in size) m i))
