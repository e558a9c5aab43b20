-- Laws of elements.
use Rattle.std.specs.Prelude.{◌≡◌, ℕ, ◌/◌, ◌%◌, ◌^◌, ◌<◌, if◌then◌else◌, List, length}
use Rattle.vector_elements.specs.Elements.{listed, element_of, elements_of, is_active, each_element}
use Rattle.vector_elements.specs.Elements.{each_active}

-- after a change the elements are those that it gave, modulo 256 ^ e
abbrev pub HasElements : ℕ → List ℕ → (ℕ → ℕ) → Type 0
HasElements e bytes f = elements_of e bytes ≡ listed (λ i. f i % 256 ^ e) (length bytes / e)

abbrev pub GivesElements : Type 0
GivesElements =
    (e : ℕ) (bytes : List ℕ) (f : ℕ → ℕ → ℕ) → 0 < e →
    HasElements e (each_element e bytes f) (λ i. f i (element_of e bytes i))

-- a change of the active elements keeps the others
abbrev pub KeepsInactive : Type 0
KeepsInactive =
    (e : ℕ) (p bytes : List ℕ) (f : ℕ → ℕ → ℕ) → 0 < e →
    HasElements e (each_active e p bytes f)
    (λ i. if is_active e p i then f i (element_of e bytes i) else element_of e bytes i)
