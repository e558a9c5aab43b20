-- The kinds of fields of a file: numbers with their low byte first, bytes that are told, and bytes that may be
-- any.
use Rattle.std.specs.Prelude.{ℕ, zero, suc, ◌==◌, Bool, true, List, [], ◌∷◌, length, take, drop}
use Rattle.byteorder.specs.Endian.{little_number}
use Rattle.std.specs.Str.{bytes_eq}
use Rattle.field_table.specs.Table.{Table, Field}

-- a number of n bytes, of which this holds
unfoldable pub number : ℕ → (ℕ → Bool) → (ℕ → Table) → Table
number n holds next = Field n (λ b. holds (little_number n b)) (λ b. next (little_number n b))

-- these very bytes
unfoldable pub said : List ℕ → Table → Table
said bytes next = Field (length bytes) (λ b. bytes_eq b bytes) (λ b. next)

-- this very number, of four bytes
abbrev pub told : ℕ → Table → Table
told n next = number 4 (λ k. k == n) (λ k. next)

-- so many fields of n bytes each, whatever they are
unfoldable pub fields : ℕ → ℕ → Table → Table
fields zero n next = next
fields (suc count) n next = Field n (λ b. true) (λ b. fields count n next)

-- the bytes of so many fields of n bytes each, one after the other
unfoldable pub rows : ℕ → ℕ → List ℕ → List (List ℕ)
rows zero n bytes = []
rows (suc count) n bytes = take n bytes ∷ rows count n (drop n bytes)

-- so many items, one after the other: the fields of each go by a number that the one before it gives, and those
-- of the first by this one
unfoldable pub repeated : (ℕ → (ℕ → Table) → Table) → ℕ → ℕ → Table → Table
repeated item zero key next = next
repeated item (suc count) key next = item key (λ k. repeated item count k next)
