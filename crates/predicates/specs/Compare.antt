-- Comparisons of elements under a predicate.
-- Source: DDI 0487, C8.2: CMPHS, CMPHI, CMPGE, CMPGT, CMPEQ and CMPNE (vectors); CMPGE, CMPGT, CMPLT, CMPLE,
-- CMPEQ and CMPNE (immediate).
use Rattle.std.specs.Prelude.{ℕ, ◌==◌, Bool, not, ◌&&◌, List, ℤ, nat_lt, nat_le, int_lt, int_le}
use Rattle.std.specs.Ordering.{int_eq}
use Rattle.sm_types.specs.declared.vector.CompareVectorsOp.{CompareVectorsOp}
use Rattle.sm_types.specs.declared.vector.CompareVectorsOp.TheVariants as vectors
use Rattle.sm_types.specs.declared.vector.CompareImmediateOp.{CompareImmediateOp}
use Rattle.sm_types.specs.declared.vector.CompareImmediateOp.TheVariants as immediate
use Rattle.vector_elements.specs.declared.size.Size.{Size}
use Rattle.vector_elements.specs.Elements.{element_of, is_active}
use Rattle.vector_elements.specs.Numbers.{bytes_in, signed_of}
use Rattle.predicates.specs.Predicates.{predicate_of}

-- how two elements compare; HS and HI without a sign, GE and GT with one
unfoldable pub compared : CompareVectorsOp → Size → ℕ → ℕ → Bool
compared vectors.Hs size a b = nat_le b a
compared vectors.Hi size a b = nat_lt b a
compared vectors.Ge size a b = int_le (signed_of size b) (signed_of size a)
compared vectors.Gt size a b = int_lt (signed_of size b) (signed_of size a)
compared vectors.Eq size a b = a == b
compared vectors.Ne size a b = not (a == b)

-- how an element and a signed number compare
unfoldable pub compared_with : CompareImmediateOp → Size → ℕ → ℤ → Bool
compared_with immediate.Ge size a imm = int_le imm (signed_of size a)
compared_with immediate.Gt size a imm = int_lt imm (signed_of size a)
compared_with immediate.Lt size a imm = int_lt (signed_of size a) imm
compared_with immediate.Le size a imm = int_le (signed_of size a) imm
compared_with immediate.Eq size a imm = int_eq (signed_of size a) imm
compared_with immediate.Ne size a imm = not (int_eq (signed_of size a) imm)

-- the active elements that compare so
unfoldable pub vectors_compared : CompareVectorsOp → Size → ℕ → List ℕ → List ℕ → List ℕ → List ℕ
vectors_compared op size bytes pg n m = predicate_of (bytes_in size) bytes
    (λ i. is_active (bytes_in size) pg i &&
    compared op size (element_of (bytes_in size) n i) (element_of (bytes_in size) m i))

unfoldable pub immediate_compared : CompareImmediateOp → Size → ℕ → List ℕ → List ℕ → ℤ → List ℕ
immediate_compared op size bytes pg n imm = predicate_of (bytes_in size) bytes
    (λ i. is_active (bytes_in size) pg i && compared_with op size (element_of (bytes_in size) n i) imm)
