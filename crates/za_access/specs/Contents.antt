-- What an access of ZA can change. The scalar and vector registers stay as they are; PC is moved by the
-- machine.
use Rattle.std.specs.Prelude.{ℕ, List}
use Rattle.paged_memory.specs.Memory.{AddressSpace}
use Rattle.paged_memory.specs.PageTable.{PageTable}
use Rattle.za_array.specs.Array.{ArrayState}

pub record Contents : Type 0 where
  -- the vectors of ZA
  pub za : List (List ℕ)
  pub memory : AddressSpace

-- what the array and pages hold
abbrev pub contents_of : ArrayState → PageTable → Contents
contents_of za pages = record { za = za.vectors; memory = pages.memory }
