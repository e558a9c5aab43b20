-- Sums and products that are twice as wide as their sources.
-- Source: DDI 0487, C8.2: SADDLB, SADDLT, UADDLB, UADDLT, SMULLB, SMULLT, UMULLB, UMULLT, SMLALB, SMLALT,
-- UMLALB and UMLALT (vectors).
use Rattle.std.specs.Prelude.{ℕ, ◌+◌, ◌*◌, Bool, true, false, List, ◌+ℤ◌, ◌*ℤ◌}
use Rattle.sm_types.specs.declared.vector.WideningOp.{WideningOp}
use Rattle.sm_types.specs.declared.vector.WideningOp.TheVariants.{Saddl, Uaddl, Smull, Umull, Smlal, Umlal}
use Rattle.vector_elements.specs.declared.size.Size.{Size}
use Rattle.vector_elements.specs.declared.size.Size.TheVariants.{B, H, S, D}
use Rattle.vector_elements.specs.Elements.{element_of, each_element}
use Rattle.vector_elements.specs.Numbers.{bytes_in, signed_of, wrapped}
use Rattle.sve_exec.specs.Arithmetic.{sum_of}
use Rattle.sve_exec.specs.Binary.{product_of}

-- the elements of half the size; there are none of half a byte
abbrev pub half_size : Size → Size
half_size B = B
half_size H = B
half_size S = H
half_size D = S

-- the product of two signed elements of half the size
abbrev pub signed_product : Size → ℕ → ℕ → ℕ
signed_product size a b = wrapped size (signed_of (half_size size) a *ℤ signed_of (half_size size) b)

-- the sum or the product of two elements of half the size, or the old element and the product
unfoldable pub widened : WideningOp → Size → ℕ → ℕ → ℕ → ℕ
widened Saddl size old a b = wrapped size (signed_of (half_size size) a +ℤ signed_of (half_size size) b)
widened Uaddl size old a b = sum_of size a b
widened Smull size old a b = signed_product size a b
widened Umull size old a b = product_of size a b
widened Smlal size old a b = sum_of size old (signed_product size a b)
widened Umlal size old a b = sum_of size old (product_of size a b)

-- the place of the source of element i: the even elements are the bottom ones, the odd elements the top ones
abbrev pub source_place : Bool → ℕ → ℕ
source_place true i = 2 * i + 1
source_place false i = 2 * i

-- the source of element i
abbrev pub source_of : Bool → Size → List ℕ → ℕ → ℕ
source_of top size n i = element_of (bytes_in (half_size size)) n (source_place top i)

-- the operation on each two sources
unfoldable pub vector_widening : WideningOp → Bool → Size → List ℕ → List ℕ → List ℕ → List ℕ
vector_widening op top size d n m =
    each_element (bytes_in size) d (λ i old.
    widened op size old (source_of top size n i) (source_of top size m i))
