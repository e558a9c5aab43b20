-- The scalar registers after an instruction on numbers of elements or lengths of vectors; a vector has L
-- bytes.
-- Source: DDI 0487, C8.2: the instructions that are named.
use Rattle.std.specs.Prelude.{ℕ, true, false}
use Rattle.sm_types.specs.declared.scalars.Scalars.{Scalars}
use Rattle.sm_types.specs.declared.vector.ElementCount.{ElementCount}
use Rattle.sm_types.specs.declared.vector.ElementCount.TheVariants.{Count, Change, Length, AddLength}
use Rattle.predicates.specs.Counts.{element_count, counted_up, counted_down, vector_lengths, lengths_added}
use Rattle.scalar_exec.specs.Registers.{x_of, x_or_sp, with_x, with_x_or_sp}
use Rattle.vector_step.specs.Sizes.{element_size}

-- CNTB to CNTD; INCB to INCD and DECB to DECD (scalar); RDVL; ADDVL and ADDPL, where register 31 is SP
unfoldable pub after_element_count : ℕ → ElementCount → Scalars → Scalars
after_element_count l (Count size pattern multiplier rd) s =
    with_x s rd (element_count (element_size size) pattern multiplier l)
after_element_count l (Change false size pattern multiplier rd) s =
    with_x s rd (counted_up (element_size size) pattern multiplier l (x_of s rd))
after_element_count l (Change true size pattern multiplier rd) s =
    with_x s rd (counted_down (element_size size) pattern multiplier l (x_of s rd))
after_element_count l (Length imm rd) s = with_x s rd (vector_lengths imm l)
after_element_count l (AddLength predicate imm rn rd) s =
    with_x_or_sp s rd (lengths_added predicate imm l (x_or_sp s rn))
