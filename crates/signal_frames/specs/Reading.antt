-- The bytes of a frame as the code reads them, part by part.
use Rattle.std.specs.Prelude.{◌≡◌, ℕ, Bool, true, List, ◌++◌, length, map, take, drop, Option, Some, None}
use Rattle.std.specs.List.{range_with_len}
use Rattle.paged_memory.specs.Memory.{AddressSpace, bytes_with}
use Rattle.sve_vectors.specs.State.{SveState}
use Rattle.signal_frames.specs.Layout.{head_size}
use Rattle.signal_frames.specs.Saved.{is_head, saved_size}
use Rattle.signal_frames.specs.Return.{read_at}
use Rattle.signal_frames.specs.declared.head.Expected.{Expected}

-- the bytes can be read from an address on
pub record StandsAt (m : AddressSpace) (start : ℕ) (frame : List ℕ) : Type 0 where
  pub bytes : bytes_with 4 m start (length frame) ≡ Some frame

-- with other vectors
abbrev pub with_vectors : SveState → List (List ℕ) → SveState
with_vectors s vectors = record s { registers = record s.registers { vectors = vectors } }

-- with other predicates
abbrev pub with_predicates : SveState → List (List Bool) → SveState
with_predicates s predicates = record s { registers = record s.registers { predicates = predicates } }

-- the first n rows are those of a function, and the others are as they were
abbrev pub rows_from : {A : Type 0} → (ℕ → A) → ℕ → List A → List A
rows_from f n old = map f (range_with_len 0 n) ++ drop n old

-- the lengths and the mode of vectors stay
pub record KeepsLengths (old new : SveState) : Type 0 where
  pub vl : new.vl ≡ old.vl
  pub svl : new.svl ≡ old.svl
  pub streaming : new.streaming ≡ old.streaming

-- the bytes of a frame stand from an address on, of which some are the head
pub record IsSaved (e : Expected) (m : AddressSpace) (start : ℕ) (head frame : List ℕ) : Type 0 where
  pub stands : StandsAt m start frame
  pub first : take (head_size e.version) frame ≡ head
  pub fields : is_head e frame ≡ true
  pub size : length frame ≡ saved_size frame
  pub read : bytes_with 4 m start (read_at e m start) ≡ Some frame

-- where no stop is found, the bytes are those of a frame, and these are its head
abbrev pub IsFoundUnless : Expected → AddressSpace → ℕ → List ℕ → Option ℕ → Type 0
IsFoundUnless e m start head (Some stop) = Unit {0}
IsFoundUnless e m start head None = (frame : List ℕ) × IsSaved e m start head frame
