-- How `Vectors` keeps its registers: a row of bytes for each, with room for the greater of the two lengths.
-- The first bytes of a row are the register.
use Rattle.std.specs.Prelude.{ℕ, ◌≡◌, ◌<◌, ◌/◌, max, Bool, List, [], length, map, take, replicate}
use Rattle.std.specs.Prelude.{slice_index_or}
use Rattle.std.specs.declared.vec.Vec.{Vec}
use Rattle.sm_types.specs.declared.length.VecLen.{VecLen}
use Rattle.sve_vectors.specs.Lengths.{vector_bytes, current_bytes}
use Rattle.sve_vectors.specs.Predicates.{truths_of}
use Rattle.sve_vectors.specs.Registers.{VectorRegisters}
use Rattle.sve_vectors.specs.State.{SveState}

-- the registers of a length in bytes, in rows of Z, P and FFR
unfoldable pub registers_of_rows : ℕ → List (List ℕ) → List (List ℕ) → List ℕ → VectorRegisters
registers_of_rows bytes z p ffr = record {
  vectors = map (take bytes) z;
  predicates = map (λ row. truths_of (take (bytes / 8) row)) p;
  ffr = truths_of (take (bytes / 8) ffr);
}

-- the state of those rows
abbrev pub state_of_rows : VecLen → VecLen → Bool → ℕ → List (List ℕ) → List (List ℕ) → List ℕ → SveState
state_of_rows vl svl streaming bytes z p ffr =
    record { vl = vl; svl = svl; streaming = streaming; registers = registers_of_rows bytes z p ffr }

-- the greater of the two lengths, in bytes
abbrev pub room_of : VecLen → VecLen → ℕ
room_of vl svl = max (vector_bytes vl) (vector_bytes svl)

-- so many rows of so many bytes
pub record AreRows (n size : ℕ) (rows : List (List ℕ)) : Type 0 where
  pub count : length rows ≡ n
  pub long : (k : ℕ) → k < n → length (slice_index_or rows k []) ≡ size

-- the current length is that of the mode, and each row has room for both lengths
pub record IsLaidOut
    (vl svl : VecLen) (streaming : Bool) (bytes : ℕ) (z p : List (List ℕ)) (ffr : List ℕ) : Type 0 where
  pub current : bytes ≡ current_bytes vl svl streaming
  pub vectors : AreRows 32 (room_of vl svl) z
  pub predicates : AreRows 16 (room_of vl svl / 8) p
  pub first_fault : length ffr ≡ room_of vl svl / 8

-- the bytes of each row
abbrev pub items_of : {Allocator : Type 0} → List (Vec ℕ Allocator) → List (List ℕ)
items_of {Allocator} rows = map (λ (row : Vec ℕ Allocator). row.items) rows

-- the first bytes of each row are zero, and each is as long as it was
pub record ClearedRows (size : ℕ) (old new : List (List ℕ)) : Type 0 where
  pub count : length new ≡ length old
  pub zero : (k : ℕ) → k < length old → take size (slice_index_or new k []) ≡ replicate size 0
  pub long : (k : ℕ) → k < length old → length (slice_index_or new k []) ≡ length (slice_index_or old k [])
