-- Products that are added to a vector or subtracted from it, under a predicate.
-- Source: DDI 0487, C8.2: MLA and MLS (vectors).
use Rattle.std.specs.Prelude.{ℕ, List}
use Rattle.sm_types.specs.declared.vector.MultiplyAddOp.{MultiplyAddOp}
use Rattle.sm_types.specs.declared.vector.MultiplyAddOp.TheVariants.{Mla, Mls}
use Rattle.vector_elements.specs.declared.size.Size.{Size}
use Rattle.vector_elements.specs.Elements.{element_of, each_active}
use Rattle.vector_elements.specs.Numbers.{bytes_in}
use Rattle.sve_exec.specs.Arithmetic.{sum_of, difference_of}
use Rattle.sve_exec.specs.Binary.{product_of}

-- an element and the product of two others, modulo 2 ^ w
unfoldable pub accumulated : MultiplyAddOp → Size → ℕ → ℕ → ℕ → ℕ
accumulated Mla size a n m = sum_of size a (product_of size n m)
accumulated Mls size a n m = difference_of size a (product_of size n m)

-- the same for each element that is active; the others keep their value
unfoldable pub multiply_add : MultiplyAddOp → Size → List ℕ → List ℕ → List ℕ → List ℕ → List ℕ
multiply_add op size p a n m =
    each_active (bytes_in size) p a (λ i old.
    accumulated op size old (element_of (bytes_in size) n i) (element_of (bytes_in size) m i))
