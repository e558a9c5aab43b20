-- How `Za` keeps the array: a row of bytes for each vector.
use Rattle.std.specs.Prelude.{ℕ, List}
use Rattle.sm_types.specs.declared.length.VecLen.{VecLen}
use Rattle.za_array.specs.Array.{ArrayState}

-- the state of those rows
abbrev pub state_of_array : VecLen → List (List ℕ) → ArrayState
state_of_array svl rows = record { svl = svl; vectors = rows }
