-- Permutations of the elements of vectors.
-- Source: DDI 0487, C8.2: ZIP1, ZIP2, UZP1, UZP2, TRN1 and TRN2 (vectors), REV (vector), TBL, EXT, SUNPKLO,
-- SUNPKHI, UUNPKLO and UUNPKHI.
use Rattle.std.specs.Prelude.{ℕ, ◌+◌, ◌-◌, ◌*◌, ◌/◌, ◌%◌, ◌==◌, nat_lt, Bool, if◌then◌else◌, List, ◌++◌}
use Rattle.std.specs.Prelude.{length, take, drop}
use Rattle.sm_types.specs.declared.vector.InterleaveOp.{InterleaveOp}
use Rattle.sm_types.specs.declared.vector.InterleaveOp.TheVariants.{Zip1, Zip2, Uzp1, Uzp2, Trn1, Trn2}
use Rattle.vector_elements.specs.declared.size.Size.{Size}
use Rattle.vector_elements.specs.Elements.{listed, element_of, bytes_of}
use Rattle.vector_elements.specs.Numbers.{bytes_in, signed_of, wrapped}
use Rattle.sve_exec.specs.Widening.{half_size}

-- how many elements a vector has
abbrev pub count_of : Size → List ℕ → ℕ
count_of size n = length n / bytes_in size

-- the vector of as many bytes as n whose element i is f i
unfoldable pub vector_like : Size → List ℕ → (ℕ → ℕ) → List ℕ
vector_like size n f = bytes_of (bytes_in size) (listed f (count_of size n))

-- of two vectors, the first for an even element and the second for an odd one
abbrev pub by_turns : List ℕ → List ℕ → ℕ → List ℕ
by_turns n m i = if i % 2 == 0 then n else m

-- element i of the result. ZIP: the elements of n and m by turns, from their lower or upper halves. UZP: the
-- even or odd elements of n and then m. TRN: the even or odd elements of n and m by turns
unfoldable pub interleaved_at : InterleaveOp → Size → List ℕ → List ℕ → ℕ → ℕ
interleaved_at Zip1 size n m i = element_of (bytes_in size) (by_turns n m i) (i / 2)
interleaved_at Zip2 size n m i = element_of (bytes_in size) (by_turns n m i) (count_of size n / 2 + i / 2)
interleaved_at Uzp1 size n m i = element_of (bytes_in size) (n ++ m) (2 * i)
interleaved_at Uzp2 size n m i = element_of (bytes_in size) (n ++ m) (2 * i + 1)
interleaved_at Trn1 size n m i = element_of (bytes_in size) (by_turns n m i) (2 * (i / 2))
interleaved_at Trn2 size n m i = element_of (bytes_in size) (by_turns n m i) (2 * (i / 2) + 1)

unfoldable pub interleaved : InterleaveOp → Size → List ℕ → List ℕ → List ℕ
interleaved op size n m = vector_like size n (interleaved_at op size n m)

-- REV: the elements from the last to the first
unfoldable pub reversed : Size → List ℕ → List ℕ
reversed size n = vector_like size n (λ i. element_of (bytes_in size) n (count_of size n - 1 - i))

-- the element of n at an index, or 0 past the end
abbrev pub looked_up : Size → List ℕ → ℕ → ℕ
looked_up size n index = if nat_lt index (count_of size n) then element_of (bytes_in size) n index else 0

-- TBL: the elements of m are the indices
unfoldable pub table_of : Size → List ℕ → List ℕ → List ℕ
table_of size n m = vector_like size n (λ i. looked_up size n (element_of (bytes_in size) m i))

-- EXT: as many bytes of n and then m from a place on; a place past the end of n counts as 0
unfoldable pub extracted : ℕ → List ℕ → List ℕ → List ℕ
extracted amount n m = take (length n) (drop (if nat_lt amount (length n) then amount else 0) (n ++ m))

-- an element of half the size as one of the whole, with its sign or without
abbrev pub widened : Bool → Size → ℕ → ℕ
widened is_signed size x = if is_signed then wrapped size (signed_of (half_size size) x) else x

-- UNPK: the elements of half the size in the lower or the upper half of n
unfoldable pub unpacked : Bool → Bool → Size → List ℕ → List ℕ
unpacked is_signed high size n = vector_like size n (λ i.
    widened is_signed size (element_of (bytes_in (half_size size)) n (if high then count_of size n +
    i else i)))
