-- Logical operations on two vectors.
-- Source: DDI 0487, C8.2: AND, ORR, EOR and BIC (vectors, unpredicated).
use Rattle.std.specs.Prelude.{ℕ, List, bit_and, bit_or, bit_xor}
use Rattle.sm_types.specs.declared.vector.VectorLogicalOp.{VectorLogicalOp}
use Rattle.sm_types.specs.declared.vector.VectorLogicalOp.TheVariants.{And, Orr, Eor, Bic}
use Rattle.vector_elements.specs.declared.size.Size.{Size}
use Rattle.vector_elements.specs.declared.size.Size.TheVariants.{D}
use Rattle.vector_elements.specs.Elements.{element_of, each_element}
use Rattle.sve_exec.specs.Numbers.{inverted}

-- the operation on two elements, bit by bit; BIC is AND with the second inverted
unfoldable pub logical_of : VectorLogicalOp → Size → ℕ → ℕ → ℕ
logical_of And size a b = bit_and a b
logical_of Orr size a b = bit_or a b
logical_of Eor size a b = bit_xor a b
logical_of Bic size a b = bit_and a (inverted size b)

-- the operation on all bits of two vectors, taken in elements of 64
unfoldable pub vector_logical : VectorLogicalOp → List ℕ → List ℕ → List ℕ
vector_logical op n m = each_element 8 n (λ i a. logical_of op D a (element_of 8 m i))
