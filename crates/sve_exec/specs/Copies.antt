-- Copies to vectors, and operations with an immediate.
-- Source: DDI 0487, C8.2: DUP and CPY (immediate, scalar), INDEX, ADD, SUB and SUBR (immediate), MUL
-- (immediate), SEL (vectors).
use Rattle.std.specs.Prelude.{ℕ, ◌+◌, ◌*◌, ◌%◌, ◌^◌, Bool, if◌then◌else◌, List, ℤ, pos, ◌*ℤ◌}
use Rattle.sm_types.specs.declared.vector.AddImmediateOp.{AddImmediateOp}
use Rattle.sm_types.specs.declared.vector.AddImmediateOp.TheVariants.{Add, Sub, Subr}
use Rattle.vector_elements.specs.declared.size.Size.{Size}
use Rattle.vector_elements.specs.Elements.{element_of, each_element, each_active, each_or_zero}
use Rattle.vector_elements.specs.Numbers.{bytes_in, range_of, wrapped}
use Rattle.sve_exec.specs.Arithmetic.{sum_of, difference_of}
use Rattle.sve_exec.specs.Binary.{product_of}

-- a signed immediate as an element, shifted left by 8 where the instruction says so
unfoldable pub signed_immediate : Size → ℤ → Bool → ℕ
signed_immediate size imm shifted = wrapped size (if shifted then imm *ℤ pos (2 ^ 8) else imm)

-- the same without a sign
unfoldable pub unsigned_immediate : Size → ℕ → Bool → ℕ
unsigned_immediate size imm shifted = (if shifted then imm * 2 ^ 8 else imm) % range_of size

-- DUP: each element becomes the low bits of the value
unfoldable pub duplicated : Size → ℕ → List ℕ → List ℕ
duplicated size value d = each_element (bytes_in size) d (λ i old. value % range_of size)

-- CPY, merging: the active elements do, and the others keep their value
unfoldable pub copied_merging : Size → ℕ → List ℕ → List ℕ → List ℕ
copied_merging size value p d = each_active (bytes_in size) p d (λ i old. value % range_of size)

-- CPY, zeroing: the others become zero
unfoldable pub copied_zeroing : Size → ℕ → List ℕ → List ℕ → List ℕ
copied_zeroing size value p d = each_or_zero (bytes_in size) p d (λ i old. value % range_of size)

-- INDEX: element i becomes the start and i times the step
unfoldable pub index_from : Size → ℕ → ℕ → List ℕ → List ℕ
index_from size start step d = each_element (bytes_in size) d (λ i old. (start + i * step) % range_of size)

-- an element and an immediate; SUBR subtracts the element
unfoldable pub add_immediate_of : AddImmediateOp → Size → ℕ → ℕ → ℕ
add_immediate_of Add size a imm = sum_of size a imm
add_immediate_of Sub size a imm = difference_of size a imm
add_immediate_of Subr size a imm = difference_of size imm a

-- ADD, SUB, SUBR: the same for each element
unfoldable pub vector_add_immediate : AddImmediateOp → Size → ℕ → Bool → List ℕ → List ℕ
vector_add_immediate op size imm shifted n =
    each_element (bytes_in size) n (λ i a. add_immediate_of op size a (unsigned_immediate size imm shifted))

-- MUL: each element times a signed immediate
unfoldable pub vector_multiply_immediate : Size → ℤ → List ℕ → List ℕ
vector_multiply_immediate size imm n =
    each_element (bytes_in size) n (λ i a. product_of size a (wrapped size imm))

-- SEL: the elements of n where they are active, and those of m elsewhere
unfoldable pub selected : Size → List ℕ → List ℕ → List ℕ → List ℕ
selected size p n m = each_active (bytes_in size) p m (λ i old. element_of (bytes_in size) n i)
