-- The scalar registers after an instruction on the streaming vector length, of S bytes.
-- Source: DDI 0487, C9.2: RDSVL, ADDSVL, ADDSPL.
use Rattle.std.specs.Prelude.{ℕ}
use Rattle.sm_types.specs.declared.scalars.Scalars.{Scalars}
use Rattle.sm_types.specs.declared.matrix.StreamingLength.{StreamingLength}
use Rattle.sm_types.specs.declared.matrix.StreamingLength.TheVariants.{Length, AddLength}
use Rattle.predicates.specs.Counts.{vector_lengths, lengths_added}
use Rattle.scalar_exec.specs.Registers.{x_or_sp, with_x, with_x_or_sp}

-- so many times S, or Xn and so many times S, or S / 8, where register 31 is SP
unfoldable pub after_streaming_length : ℕ → StreamingLength → Scalars → Scalars
after_streaming_length size (Length imm rd) s = with_x s rd (vector_lengths imm size)
after_streaming_length size (AddLength predicate imm rn rd) s =
    with_x_or_sp s rd (lengths_added predicate imm size (x_or_sp s rn))
