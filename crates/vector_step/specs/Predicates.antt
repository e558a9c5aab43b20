-- The registers after an instruction whose result is a predicate, flags or a number of elements. A vector has
-- L bytes, and a predicate L / 8.
-- Source: DDI 0487, C8.2: the instructions that are named; J1.1: PredTest.
use Rattle.std.specs.Prelude.{ℕ, ◌/◌, Bool, true, false, List, replicate}
use Rattle.sm_types.specs.declared.vector as types
use types.{VectorCompare.VectorCompare, Predicate.Predicate, PredicateCount.PredicateCount}
use types.VectorCompare.TheVariants as compare
use types.Predicate.TheVariants as predicate
use types.PredicateCount.TheVariants as count
use Rattle.vector_elements.specs.declared.size.Size.{Size}
use Rattle.vector_elements.specs.declared.size.Size.TheVariants.{B}
use Rattle.vector_elements.specs.Elements.{active_of}
use Rattle.vector_elements.specs.Numbers.{bytes_in}
use Rattle.sve_vectors.specs.Predicates.{truths_of}
use Rattle.predicates.specs.Compare.{vectors_compared, immediate_compared}
use Rattle.predicates.specs.Flags.{flags_of, governed}
use Rattle.predicates.specs.Logical.{pattern_predicate, no_elements, predicate_logical}
use Rattle.predicates.specs.Loops.{while_predicate, true_count}
use Rattle.scalar_exec.specs.Registers.{x_of, with_x, with_flags}
use Rattle.vector_step.specs.Core.{VectorCore}
use Rattle.sve_vectors.specs.Registers.{vector_at, truths_at, predicate_at, predicate_written, ffr_written}
use Rattle.vector_step.specs.Sizes.{element_size}

-- after a write of bytes to a predicate
abbrev pub to_predicate : VectorCore → ℕ → List ℕ → VectorCore
to_predicate s n bytes = record s { registers = predicate_written s.registers n (truths_of bytes) }

-- with the flags of a predicate's bytes, whose elements are governed by a mask
abbrev pub with_flags_of : Size → List Bool → List ℕ → VectorCore → VectorCore
with_flags_of size mask bytes s =
    record s { scalars = with_flags s.scalars (flags_of mask (active_of (bytes_in size) bytes)) }

-- after a write of bytes to a predicate, with their flags
abbrev pub to_predicate_flags : VectorCore → ℕ → Size → List Bool → List ℕ → VectorCore
to_predicate_flags s n size mask bytes = with_flags_of size mask bytes (to_predicate s n bytes)

-- which elements a predicate says are active
abbrev pub mask_at : VectorCore → ℕ → Size → List Bool
mask_at s n size = active_of (bytes_in size) (predicate_at s.registers n)

-- CMPHS to CMPNE (vectors, immediate)
unfoldable pub after_compare : ℕ → VectorCompare → VectorCore → VectorCore
after_compare l (compare.Vectors op size zm pg zn pd) s =
    to_predicate_flags s pd (element_size size) (mask_at s pg (element_size size))
    (vectors_compared op (element_size size) (l / 8) (predicate_at s.registers pg)
    (vector_at s.registers zn) (vector_at s.registers zm))
after_compare l (compare.Immediate op size imm pg zn pd) s =
    to_predicate_flags s pd (element_size size) (mask_at s pg (element_size size))
    (immediate_compared op (element_size size) (l / 8) (predicate_at s.registers pg)
    (vector_at s.registers zn) imm)

-- PTRUE; PFALSE; PTEST; AND to NAND (predicates), and ANDS to NANDS
unfoldable pub after_predicate : ℕ → Predicate → VectorCore → VectorCore
after_predicate l (predicate.True size pattern pd) s =
    to_predicate s pd (pattern_predicate (element_size size) pattern (l / 8))
after_predicate l (predicate.False pd) s = to_predicate s pd (no_elements (l / 8))
after_predicate l (predicate.Test pg pn) s = with_flags_of B (mask_at s pg B) (predicate_at s.registers pn) s
after_predicate l (predicate.Logical op false pm pg pn pd) s =
    to_predicate s pd
    (predicate_logical op (l / 8) (predicate_at s.registers pg) (predicate_at s.registers pn)
    (predicate_at s.registers pm))
after_predicate l (predicate.Logical op true pm pg pn pd) s =
    to_predicate_flags s pd B (mask_at s pg B)
    (predicate_logical op (l / 8) (predicate_at s.registers pg) (predicate_at s.registers pn)
    (predicate_at s.registers pm))

-- WHILELT, WHILELO, with the flags of all elements; CNTP; SETFFR; RDFFR (unpredicated); WRFFR
unfoldable pub after_predicate_count : ℕ → PredicateCount → VectorCore → VectorCore
after_predicate_count l (count.While signed wide size rm rn pd) s =
    to_predicate_flags s pd (element_size size) (replicate (l / bytes_in (element_size size)) true)
    (while_predicate signed wide (element_size size) (l / 8) (x_of s.scalars rn) (x_of s.scalars rm))
after_predicate_count l (count.Active size pg pn rd) s =
    record s {
      scalars = with_x s.scalars rd (true_count
          (governed (mask_at s pg (element_size size)) (mask_at s pn (element_size size))));
    }
after_predicate_count l count.SetFfr s = record s { registers = ffr_written s.registers (replicate l true) }
after_predicate_count l (count.ReadFfr pd) s =
    record s { registers = predicate_written s.registers pd s.registers.ffr }
after_predicate_count l (count.WriteFfr pn) s =
    record s { registers = ffr_written s.registers (truths_at s.registers pn) }
