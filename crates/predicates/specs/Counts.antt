-- Numbers of elements, and lengths of vectors, as functions of a vector's length in bytes.
-- Source: DDI 0487, C8.2: CNTB, CNTH, CNTW, CNTD; INCB to INCD and DECB to DECD (scalar); RDVL, ADDVL, ADDPL.
use Rattle.std.specs.Prelude.{ℕ, ◌+◌, ◌*◌, ◌/◌, ◌%◌, ◌^◌, Bool, if◌then◌else◌, ℤ, pos, ◌-ℤ◌, ◌*ℤ◌}
use Rattle.vector_elements.specs.declared.size.Size.{Size}
use Rattle.vector_elements.specs.declared.size.Size.TheVariants.{D}
use Rattle.vector_elements.specs.Numbers.{bytes_in, wrapped}
use Rattle.predicates.specs.Patterns.{pattern_count}

-- CNT: the elements that the pattern names, times a multiplier
unfoldable pub element_count : Size → ℕ → ℕ → ℕ → ℕ
element_count size pattern multiplier bytes = pattern_count pattern (bytes / bytes_in size) * multiplier

-- INC and DEC: a register and that number, or less it, modulo 2 ^ 64
unfoldable pub counted_up : Size → ℕ → ℕ → ℕ → ℕ → ℕ
counted_up size pattern multiplier bytes x = (x + element_count size pattern multiplier bytes) % 2 ^ 64

unfoldable pub counted_down : Size → ℕ → ℕ → ℕ → ℕ → ℕ
counted_down size pattern multiplier bytes x =
    wrapped D (pos x -ℤ pos (element_count size pattern multiplier bytes))

-- RDVL: so many times a vector's bytes, modulo 2 ^ 64
unfoldable pub vector_lengths : ℤ → ℕ → ℕ
vector_lengths imm bytes = wrapped D (imm *ℤ pos bytes)

-- ADDVL, and ADDPL with a predicate's bytes: a register and those, modulo 2 ^ 64
unfoldable pub lengths_added : Bool → ℤ → ℕ → ℕ → ℕ
lengths_added of_predicate imm bytes x =
    (x + vector_lengths imm (if of_predicate then bytes / 8 else bytes)) % 2 ^ 64
