-- Predicates of a pattern, and logical operations on predicates.
-- Source: DDI 0487, C8.2: PTRUE, PFALSE, and AND, BIC, EOR, SEL, ORR, ORN, NOR and NAND (predicates).
use Rattle.std.specs.Prelude.{ℕ, ◌*◌, ◌/◌, Bool, false, not, ◌&&◌, ◌||◌, if◌then◌else◌, List, nat_lt}
use Rattle.sm_types.specs.declared.vector.PredicateLogicalOp.{PredicateLogicalOp}
use Rattle.sm_types.specs.declared.vector.PredicateLogicalOp.TheVariants.{And, Bic, Eor, Sel, Orr, Orn, Nor}
use Rattle.sm_types.specs.declared.vector.PredicateLogicalOp.TheVariants.{Nand}
use Rattle.vector_elements.specs.declared.size.Size.{Size}
use Rattle.vector_elements.specs.Elements.{bit_of}
use Rattle.vector_elements.specs.Numbers.{bytes_in}
use Rattle.predicates.specs.Patterns.{pattern_count}
use Rattle.predicates.specs.Predicates.{predicate_of}

-- PTRUE: the elements that the pattern names, which are the first ones
unfoldable pub pattern_predicate : Size → ℕ → ℕ → List ℕ
pattern_predicate size pattern bytes =
    predicate_of (bytes_in size) bytes (λ i. nat_lt i (pattern_count pattern (8 * bytes / bytes_in size)))

-- PFALSE
unfoldable pub no_elements : ℕ → List ℕ
no_elements bytes = predicate_of 1 bytes (λ i. false)

-- the operation at one element, with the governing predicate's truth value
unfoldable pub logical_of : PredicateLogicalOp → Bool → Bool → Bool → Bool
logical_of And g n m = g && (n && m)
logical_of Bic g n m = g && (n && not m)
logical_of Eor g n m = g && (if n then not m else m)
logical_of Sel g n m = if g then n else m
logical_of Orr g n m = g && (n || m)
logical_of Orn g n m = g && (n || not m)
logical_of Nor g n m = g && not (n || m)
logical_of Nand g n m = g && not (n && m)

-- the operation at each bit of a predicate
unfoldable pub predicate_logical : PredicateLogicalOp → ℕ → List ℕ → List ℕ → List ℕ → List ℕ
predicate_logical op bytes pg pn pm =
    predicate_of 1 bytes (λ i. logical_of op (bit_of pg i) (bit_of pn i) (bit_of pm i))
