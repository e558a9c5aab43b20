-- The outer products of integer elements. Element (r, c) of a tile of ZA has the bytes of four source
-- elements, and changes by the sum of the products of elements 4r + k of Zn and 4c + k of Zm.
-- Source: DDI 0487, C9.2: SMOPA, SMOPS, UMOPA and UMOPS (4-way), SUMOPA, SUMOPS, USMOPA, USMOPS; J1.1: Int,
-- ActivePredicateElement.
use Rattle.std.specs.Prelude.{ℕ, zero, suc, ◌+◌, ◌*◌, Bool, true, false, ◌&&◌, if◌then◌else◌, List}
use Rattle.std.specs.Prelude.{ℤ, pos, ◌+ℤ◌, ◌-ℤ◌, ◌*ℤ◌}
use Rattle.vector_elements.specs.declared.size.Size.{Size}
use Rattle.vector_elements.specs.declared.size.Size.TheVariants.{B, H, S, D}
use Rattle.vector_elements.specs.Elements.{element_of, is_active, each_element}
use Rattle.vector_elements.specs.Numbers.{bytes_in, signed_of, wrapped}
use Rattle.outer_products.specs.declared.kind.MopaKind.{MopaKind}

-- the elements of the sources: halfwords or bytes
abbrev pub source_size : Bool → Size
source_size true = H
source_size false = B

-- the elements of the tile: doublewords or words
abbrev pub sum_size : Bool → Size
sum_size true = D
sum_size false = S

-- Int: an element as a number, with a sign or without
unfoldable pub number_of : Bool → Size → ℕ → ℤ
number_of signed size x = if signed then signed_of size x else pos x

-- a vector that is multiplied: whether its elements have a sign, and their predicate
pub record Source : Type 0 where
  pub signed : Bool
  pub predicate : List ℕ
  pub vector : List ℕ

abbrev pub source : Bool → List ℕ → List ℕ → Source
source signed predicate vector = record { signed = signed; predicate = predicate; vector = vector }

-- its element i as a number
abbrev pub source_number : Size → Source → ℕ → ℤ
source_number size s i = number_of s.signed size (element_of (bytes_in size) s.vector i)

-- ActivePredicateElement of it
abbrev pub is_source_active : Size → Source → ℕ → Bool
is_source_active size s i = is_active (bytes_in size) s.predicate i

-- the product of elements i of Zn and j of Zm, where both are active
unfoldable pub product_of : Size → Source → Source → ℕ → ℕ → ℤ
product_of size n m i j =
    if is_source_active size n i && is_source_active size m j
    then source_number size n i *ℤ source_number size m j
    else pos 0

-- the sum of the first so many values
abbrev pub sum_below : ℕ → (ℕ → ℤ) → ℤ
sum_below zero f = pos 0
sum_below (suc count) f = sum_below count f +ℤ f count

-- the sum of the four products for element (r, c)
unfoldable pub sum_of : Size → Source → Source → ℕ → ℕ → ℤ
sum_of size n m r c = sum_below 4 (λ k. product_of size n m (4 * r + k) (4 * c + k))

-- an element and a sum, or their difference, modulo 2 ^ w
unfoldable pub changed : Size → Bool → ℕ → ℤ → ℕ
changed size subtract old sum = wrapped size (if subtract then pos old -ℤ sum else pos old +ℤ sum)

-- row r of the tile after it
unfoldable pub outer_row : MopaKind → List ℕ → List ℕ → List ℕ → List ℕ → ℕ → List ℕ → List ℕ
outer_row kind pn pm zn zm r row =
    let n = source kind.n_signed pn zn in
    let m = source kind.m_signed pm zm in
    let size = sum_size kind.halves in
    each_element (bytes_in size) row (λ c old.
    changed size kind.subtract old (sum_of (source_size kind.halves) n m r c))
