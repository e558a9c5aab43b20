-- What a `Za` is once the slice of a vector has been written.
use Rattle.std.specs.Prelude.{ℕ, List, [], slice_index_or}
use Rattle.std.specs.Borrow.{Lends, MutBor, Fml, u8, Array}
use Rattle.sve_vectors.specs.Lending.{overwritten}
use Rattle.za_array.specs.Array.{ArrayState, with_array_vector}
use Rattle.za_array.specs.contracts.array.Za.{the_row}

-- the array with bytes written to the slice of a vector
abbrev pub with_array_bytes : ArrayState → ℕ → List ℕ → ArrayState
with_array_bytes s n bytes = with_array_vector s n (overwritten (slice_index_or s.vectors n []) bytes)

-- s ends with the last bytes behind r in vector n
abbrev pub LendsArrayVector : MutBor ArrayState → ℕ → MutBor (List ℕ) → Fml
LendsArrayVector s n r = Lends the_row (Array u8 0) s r (with_array_bytes s.now n)
