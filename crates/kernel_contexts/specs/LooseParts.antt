-- The parts of a state in plain fields, as the code makes registers and handlers of them.
use Rattle.std.specs.Prelude.{◌≡◌, ℕ, ◌*◌, Bool, true, false, None, List, map, take, drop}
use Rattle.std.specs.List.{range_with_len, concat, flat_map}
use Rattle.sm_types.specs.declared.config.Config.{Config}
use Rattle.sve_vectors.specs.Predicates.{truths_of, predicate_bytes}
use Rattle.sve_vectors.specs.Registers.{VectorRegisters, AreOfLength}
use Rattle.za_array.specs.Array.{ArrayState, zero_array}
use Rattle.mem_access.specs.Bank.{bank_state}
use Rattle.mem_access.specs.declared.bank.Bank.{Bank}
use Rattle.kernel_contexts.specs.SaveArea.{HasLengths}
use Rattle.kernel_contexts.specs.LooseState.{HasVectors, is_streaming, is_array_on}
use Rattle.kernel_contexts.specs.declared.loose_state.LooseState.{LooseState}

-- piece k of bytes, each of so many
abbrev pub piece : ℕ → List ℕ → ℕ → List ℕ
piece size bytes k = take size (drop (k * size) bytes)

-- the first n pieces
abbrev pub pieces : ℕ → List ℕ → ℕ → List (List ℕ)
pieces size bytes n = map (piece size bytes) (range_with_len 0 n)

-- the truth values of piece k
abbrev pub truths_at : ℕ → List ℕ → ℕ → List Bool
truths_at size bytes k = truths_of (piece size bytes k)

-- those of the first n pieces
abbrev pub truths_in : ℕ → List ℕ → ℕ → List (List Bool)
truths_in size bytes n = map (truths_at size bytes) (range_with_len 0 n)

-- with other vectors of ZA
abbrev pub with_array : ArrayState → List (List ℕ) → ArrayState
with_array s vectors = record s { vectors = vectors }

-- vectors, predicates and FFR are those of the fields, at a length in bytes
pub record HasRegisters (size : ℕ) (t : LooseState) (r : VectorRegisters) : Type 0 where
  pub lengths : AreOfLength size r
  pub vectors : concat r.vectors ≡ t.z.items
  pub predicates : flat_map predicate_bytes r.predicates ≡ t.p.items
  pub first_fault : predicate_bytes r.ffr ≡ t.ffr.items

-- ZA is that of the fields, and zero where it is off
pub record HasArray (t : LooseState) (za : ArrayState) : Type 0 where
  pub array : is_array_on t ≡ true → concat za.vectors ≡ t.za.items
  pub off : is_array_on t ≡ false → za ≡ zero_array za.svl

-- a bank without an owner has the vectors, predicates, FFR and ZA of the fields
pub record IsBankOf (config : Config) (t : LooseState) (bank : Bank) : Type 0 where
  pub lengths : HasLengths config bank
  pub mode : bank.vectors.streaming ≡ is_streaming t
  pub off : is_array_on t ≡ false → bank.za ≡ zero_array bank.za.svl
  pub owner : bank.owner ≡ None
  pub vectors : HasVectors config t (bank_state bank)
