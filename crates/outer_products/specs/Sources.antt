-- The sources as the loops read them: lists of the numbers of all elements. Those of Zn are negative where
-- the products are subtracted, so that they are added in each case. Those of Zm stand in pairs: of the
-- columns whose elements fill 16 bytes of a row, the first two numbers of each come before the last two of
-- each.
use Rattle.std.specs.Prelude.{◌≡◌, ℕ, ◌+◌, ◌*◌, ◌/◌, ◌%◌, Bool, true, false, List, [], ◌∷◌, ◌++◌, length}
use Rattle.std.specs.Prelude.{slice_index_or, take, drop, ℤ, pos, neg_ℤ, ◌+ℤ◌, ◌*ℤ◌, FitsSigned}
use Rattle.std.specs.Int.{Width, w32, w64, int_wrap}
use Rattle.vector_elements.specs.declared.size.Size.{Size}
use Rattle.vector_elements.specs.Elements.{listed, element_of, bytes_of, each_element}
use Rattle.vector_elements.specs.Numbers.{bytes_in, wrapped}
use Rattle.outer_products.specs.OuterProducts.{number_of}

-- a number, or its negative
abbrev pub negated : Bool → ℤ → ℤ
negated true z = neg_ℤ z
negated false z = z

-- the number of element i of a source, or its negative
abbrev pub number_at : Size → Bool → Bool → List ℕ → ℕ → ℤ
number_at size signed negative bytes i =
    negated negative (number_of signed size (element_of (bytes_in size) bytes i))

-- those of all elements
abbrev pub elements_of : Size → Bool → Bool → List ℕ → List ℤ
elements_of size signed negative bytes =
    listed (number_at size signed negative bytes) (length bytes / bytes_in size)

-- the columns whose elements fill 16 bytes
abbrev pub columns : Size → ℕ
columns size = 16 / bytes_in size

-- where number k of column c stands among pairs of so many columns
abbrev pub pair_place : ℕ → ℕ → ℕ → ℕ
pair_place count c k = 4 * count * (c / count) + 2 * count * (k / 2) + 2 * (c % count) + k % 2

-- the number that stands at place j there, counted as 4c + k
abbrev pub unpaired : ℕ → ℕ → ℕ
unpaired count j =
    4 * count * (j / (4 * count)) + 4 * (j % (2 * count) / 2) + 2 * (j % (4 * count) / (2 * count)) + j % 2

-- the number at place j of the elements in pairs
abbrev pub pair_number : ℕ → Size → Bool → List ℕ → ℕ → ℤ
pair_number count size signed bytes j = number_at size signed false bytes (unpaired count j)

-- the numbers of all elements, in pairs of so many columns
abbrev pub pairs_of : ℕ → Size → Bool → List ℕ → List ℤ
pairs_of count size signed bytes =
    listed (pair_number count size signed bytes) (length bytes / bytes_in size)

-- number k of a list
abbrev pub number : List ℤ → ℕ → ℤ
number xs k = slice_index_or xs k (pos 0)

-- the numbers of a list are numbers with a sign of so many bits
abbrev pub AllFit : Width → List ℤ → Type 0
AllFit w xs = (k : ℕ) → FitsSigned w (number xs k)

-- numbers 4r to 4r + 3
abbrev pub four_of : List ℤ → ℕ → List ℤ
four_of xs r = number xs (4 * r) ∷ number xs (4 * r + 1) ∷ number xs (4 * r + 2) ∷ number xs (4 * r + 3) ∷ []

-- the sum of the products of four numbers with those of column c, which stand in pairs of so many columns
unfoldable pub dot_in_pairs : ℕ → List ℤ → List ℤ → ℕ → ℤ
dot_in_pairs count n m c =
    (number n 0 *ℤ number m (pair_place count c 0) +ℤ number n 1 *ℤ number m (pair_place count c 1))
    +ℤ (number n 2 *ℤ number m (pair_place count c 2) +ℤ number n 3 *ℤ number m (pair_place count c 3))

-- the sums for four columns from column c on, modulo 2 ^ 32
abbrev pub word_sums : (ℕ → ℤ) → ℕ → List ℤ
word_sums sums c =
    int_wrap w32 (sums c) ∷ int_wrap w32 (sums (c + 1))
    ∷ int_wrap w32 (sums (c + 2)) ∷ int_wrap w32 (sums (c + 3)) ∷ []

-- those for two columns, modulo 2 ^ 64
abbrev pub doubleword_sums : (ℕ → ℤ) → ℕ → List ℤ
doubleword_sums sums c = int_wrap w64 (sums c) ∷ int_wrap w64 (sums (c + 1)) ∷ []

-- an element of a row and the sum for its place
abbrev pub summed : Size → (ℕ → ℤ) → ℕ → ℕ → ℕ
summed size sums c old = wrapped size (pos old +ℤ sums c)

-- a row where `count` elements from element c on, of 16 bytes in all, have their sums added
abbrev pub sixteen_with : Size → (ℕ → ℤ) → ℕ → ℕ → List ℕ → List ℕ
sixteen_with size sums c count row =
    let e = bytes_in size in
    take (e * c) row
    ++ (bytes_of e (listed (λ j. summed size sums (c + j) (element_of e row (c + j))) count)
    ++ drop (e * (c + count)) row)

-- the first c elements of a row have their sums added
abbrev pub IsSummedTo : Size → (ℕ → ℤ) → List ℕ → ℕ → List ℕ → Type 0
IsSummedTo size sums old c row =
    let e = bytes_in size in
    row ≡ bytes_of e (listed (λ k. summed size sums k (element_of e old k)) c) ++ drop (e * c) old

-- row r, by the numbers of Zn and those of Zm in pairs
unfoldable pub row_of_sums : Size → List ℤ → List ℤ → ℕ → List ℕ → List ℕ
row_of_sums size n m r row =
    each_element (bytes_in size) row (summed size (dot_in_pairs (columns size) (four_of n r) m))
