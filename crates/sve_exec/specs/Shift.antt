-- Shifts of a vector by an immediate.
-- Source: DDI 0487, C8.2: ASR, LSR and LSL (immediate, unpredicated).
use Rattle.std.specs.Prelude.{ℕ, List}
use Rattle.sm_types.specs.declared.vector.VectorShiftOp.{VectorShiftOp}
use Rattle.sm_types.specs.declared.vector.VectorShiftOp.TheVariants.{Asr, Lsr, Lsl}
use Rattle.vector_elements.specs.declared.size.Size.{Size}
use Rattle.vector_elements.specs.Elements.{each_element}
use Rattle.vector_elements.specs.Numbers.{bytes_in}
use Rattle.sve_exec.specs.Binary.{shifted_left, shifted_right, signed_shifted_right}

-- an element, shifted
unfoldable pub shift_of : VectorShiftOp → Size → ℕ → ℕ → ℕ
shift_of Asr size a amount = signed_shifted_right size a amount
shift_of Lsr size a amount = shifted_right size a amount
shift_of Lsl size a amount = shifted_left size a amount

-- each element, shifted by the same amount
unfoldable pub vector_shift : VectorShiftOp → Size → ℕ → List ℕ → List ℕ
vector_shift op size amount n = each_element (bytes_in size) n (λ i a. shift_of op size a amount)
