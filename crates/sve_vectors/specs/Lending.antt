-- What a `Vectors` is once the slice of a register has been written.
use Rattle.std.specs.Prelude.{ℕ, List, [], ◌++◌, length, take, drop, slice_index_or}
use Rattle.std.specs.Borrow.{Lends, MutBor, Fml, u8, Array}
use Rattle.sve_vectors.specs.Predicates.{truths_of}
use Rattle.sve_vectors.specs.State.{SveState, with_vector, with_predicate, with_ffr}
use Rattle.sve_vectors.specs.contracts.vectors.Vectors.{the_row}

-- a list with another written over it from its first place on, at its own length: the other, where it is as
-- long, as what stands behind a slice is
unfoldable pub overwritten : {A : Type 0} → List A → List A → List A
overwritten old new = take (length old) (new ++ drop (length new) old)

-- the state with bytes written to the slice of a vector
abbrev pub with_vector_bytes : SveState → ℕ → List ℕ → SveState
with_vector_bytes s n bytes = with_vector s n (overwritten (slice_index_or s.registers.vectors n []) bytes)

-- with bytes written to the slice of a predicate
abbrev pub with_predicate_bytes : SveState → ℕ → List ℕ → SveState
with_predicate_bytes s n bytes =
    with_predicate s n (overwritten (slice_index_or s.registers.predicates n []) (truths_of bytes))

-- with bytes written to the slice of FFR
abbrev pub with_ffr_bytes : SveState → List ℕ → SveState
with_ffr_bytes s bytes = with_ffr s (overwritten s.registers.ffr (truths_of bytes))

-- s ends with the last bytes behind r in vector n
abbrev pub LendsVector : MutBor SveState → ℕ → MutBor (List ℕ) → Fml
LendsVector s n r = Lends the_row (Array u8 0) s r (with_vector_bytes s.now n)

-- s ends with the last bytes behind r in predicate n
abbrev pub LendsPredicate : MutBor SveState → ℕ → MutBor (List ℕ) → Fml
LendsPredicate s n r = Lends the_row (Array u8 0) s r (with_predicate_bytes s.now n)

-- s ends with the last bytes behind r in FFR
abbrev pub LendsFfr : MutBor SveState → MutBor (List ℕ) → Fml
LendsFfr s r = Lends the_row (Array u8 0) s r (with_ffr_bytes s.now)
