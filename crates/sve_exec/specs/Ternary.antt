-- Logical operations on three vectors.
-- Source: DDI 0487, C8.2: EOR3, BCAX and BSL.
use Rattle.std.specs.Prelude.{ℕ, List, bit_and, bit_or, bit_xor}
use Rattle.sm_types.specs.declared.vector.TernaryLogicalOp.{TernaryLogicalOp}
use Rattle.sm_types.specs.declared.vector.TernaryLogicalOp.TheVariants.{Eor3, Bcax, Bsl}
use Rattle.vector_elements.specs.declared.size.Size.{Size}
use Rattle.vector_elements.specs.declared.size.Size.TheVariants.{D}
use Rattle.vector_elements.specs.Elements.{element_of, each_element}
use Rattle.sve_exec.specs.Numbers.{inverted}

-- bit by bit: EOR3 exclusive or, BCAX exclusive or with m where k is clear, BSL d where k is set and m
-- elsewhere
unfoldable pub ternary_of : TernaryLogicalOp → Size → ℕ → ℕ → ℕ → ℕ
ternary_of Eor3 size d m k = bit_xor (bit_xor d m) k
ternary_of Bcax size d m k = bit_xor d (bit_and m (inverted size k))
ternary_of Bsl size d m k = bit_or (bit_and d k) (bit_and m (inverted size k))

-- the same for all bits of three vectors, taken in elements of 64
unfoldable pub vector_ternary : TernaryLogicalOp → List ℕ → List ℕ → List ℕ → List ℕ
vector_ternary op d m k = each_element 8 d (λ i a. ternary_of op D a (element_of 8 m i) (element_of 8 k i))
