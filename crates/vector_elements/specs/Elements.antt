-- The elements of a vector and the bits of a predicate. A vector is its bytes, the lowest first; element i of
-- `e` bytes begins at byte e * i, and its lowest byte comes first.
-- Source: DDI 0487, B1.4 (Z and P registers), J1.1: Elem[] and ActivePredicateElement.
use Rattle.std.specs.Prelude.{ℕ, zero, suc, ◌*◌, ◌/◌, ◌%◌, ◌^◌, ◌==◌, Bool, if◌then◌else◌, List, []}
use Rattle.std.specs.Prelude.{◌∷◌, ◌++◌, length, slice_index, take, drop}
use Rattle.std.specs.Simd.Lanes.{number_l, digits_l}

-- the first `count` values of a function, in order
unfoldable pub listed : {A : Type 0} → (ℕ → A) → ℕ → List A
listed f zero = []
listed f (suc count) = listed f count ++ f count ∷ []

-- Elem: element i, as a number without a sign
unfoldable pub element_of : ℕ → List ℕ → ℕ → ℕ
element_of e bytes i = number_l 256 (take e (drop (e * i) bytes))

-- all elements
unfoldable pub elements_of : ℕ → List ℕ → List ℕ
elements_of e bytes = listed (element_of e bytes) (length bytes / e)

-- the bytes of elements, each modulo 256 ^ e
unfoldable pub bytes_of : ℕ → List ℕ → List ℕ
bytes_of e [] = []
bytes_of e (x ∷ xs) = digits_l 256 e x ++ bytes_of e xs

-- a bit of a predicate, of which byte 0 has bits 0 to 7
unfoldable pub bit_of : List ℕ → ℕ → Bool
bit_of predicate i = slice_index predicate (i / 8) / 2 ^ (i % 8) % 2 == 1

-- ActivePredicateElement: an element's bit is that of its lowest byte
abbrev pub is_active : ℕ → List ℕ → ℕ → Bool
is_active e predicate i = bit_of predicate (e * i)

-- which elements are active
unfoldable pub active_of : ℕ → List ℕ → List Bool
active_of e predicate = listed (is_active e predicate) (8 * length predicate / e)

-- each element becomes a function of its place and of what it was
unfoldable pub each_element : ℕ → List ℕ → (ℕ → ℕ → ℕ) → List ℕ
each_element e bytes f = bytes_of e (listed (λ i. f i (element_of e bytes i)) (length bytes / e))

-- the same where the element is active; the others keep their value
abbrev pub each_active : ℕ → List ℕ → List ℕ → (ℕ → ℕ → ℕ) → List ℕ
each_active e predicate bytes f =
    each_element e bytes (λ i old. if is_active e predicate i then f i old else old)

-- the same where the element is active; the others become zero
abbrev pub each_or_zero : ℕ → List ℕ → List ℕ → (ℕ → ℕ → ℕ) → List ℕ
each_or_zero e predicate bytes f =
    each_element e bytes (λ i old. if is_active e predicate i then f i old else 0)
