-- The ranges that the types of registers and bytes give them.
use Rattle.std.specs.Prelude.{◌≡◌, ℕ, ◌<◌, ◌≤◌, ◌%◌, ◌^◌, List, length, All}
use Rattle.sve_vectors.specs.Registers.{VectorRegisters, AreOfLength}
use Rattle.za_array.specs.Array.{IsSquare}
use Rattle.sm_types.specs.declared.scalars.Scalars.{Scalars}

abbrev pub AreWords : List ℕ → Type 0
AreWords xs = All (λ x. x < 2 ^ 64) xs

-- bytes
abbrev pub AreBytes : List ℕ → Type 0
AreBytes bytes = All (λ b. b < 256) bytes

-- 31 registers of 64 bits, SP and PC
pub record Fits (s : Scalars) : Type 0 where
  pub count : length s.x ≡ 31
  pub x : AreWords s.x
  pub sp : s.sp < 2 ^ 64
  pub pc : s.pc < 2 ^ 64

-- vectors of bytes, predicates and FFR, all of that length
pub record Holds (length : ℕ) (r : VectorRegisters) : Type 0 where
  pub long : AreOfLength length r
  pub bytes : All AreBytes r.vectors

-- a length of vectors in bytes
pub record IsLength (bytes : ℕ) : Type 0 where
  pub some : 16 ≤ bytes
  pub small : bytes ≤ 256
  pub whole : bytes % 16 ≡ 0

-- ZA: so many vectors of as many bytes
pub record IsArray (size : ℕ) (za : List (List ℕ)) : Type 0 where
  pub square : IsSquare size za
  pub bytes : All AreBytes za
