-- Products of two vectors.
-- Source: DDI 0487, C8.2: MUL (vectors, unpredicated), SMULH and UMULH (unpredicated).
use Rattle.std.specs.Prelude.{ℕ, List}
use Rattle.sm_types.specs.declared.vector.VectorMultiplyOp.{VectorMultiplyOp}
use Rattle.sm_types.specs.declared.vector.VectorMultiplyOp.TheVariants.{Mul, Smulh, Umulh}
use Rattle.vector_elements.specs.declared.size.Size.{Size}
use Rattle.vector_elements.specs.Elements.{element_of, each_element}
use Rattle.vector_elements.specs.Numbers.{bytes_in}
use Rattle.sve_exec.specs.Binary.{product_of, signed_high_product, high_product}

-- a half of the product of two elements
unfoldable pub multiply_of : VectorMultiplyOp → Size → ℕ → ℕ → ℕ
multiply_of Mul size a b = product_of size a b
multiply_of Smulh size a b = signed_high_product size a b
multiply_of Umulh size a b = high_product size a b

-- the same for each two elements
unfoldable pub vector_multiply : VectorMultiplyOp → Size → List ℕ → List ℕ → List ℕ
vector_multiply op size n m =
    each_element (bytes_in size) n (λ i a. multiply_of op size a (element_of (bytes_in size) m i))
