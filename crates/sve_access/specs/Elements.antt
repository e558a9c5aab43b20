-- The bytes of the active elements of a contiguous access, in the order of their transfer.
-- Source: DDI 0487, C8.2, LD1B to ST1D: an element is accessed where its predicate's element is active; J1.1:
-- Mem[], Elem[].
use Rattle.std.specs.Prelude.{◌≡◌, ℕ, ◌+◌, ◌*◌, ◌/◌, ◌%◌, ◌^◌, List, length, take, drop, flat_map}
use Rattle.vector_elements.specs.declared.size.Size.{Size}
use Rattle.vector_elements.specs.Active.{AreActive}
use Rattle.vector_elements.specs.Numbers.{bytes_in}
use Rattle.sve_perm.specs.Active.{active_places}
use Rattle.paged_memory.specs.Memory.{run_of}

-- the addresses of the bytes of element i, from that of element 0
abbrev pub element_run : ℕ → Size → ℕ → List ℕ
element_run start memory i = run_of ((start + i * bytes_in memory) % 2 ^ 64) (bytes_in memory)

-- the low bytes of element i of a vector, as many as it has in memory
abbrev pub low_bytes : List ℕ → Size → Size → ℕ → List ℕ
low_bytes z memory element i = take (bytes_in memory) (drop (bytes_in element * i) z)

-- the places of the active elements
abbrev pub places_of : Size → List ℕ → List ℕ
places_of element pg = active_places element pg (8 * length pg / bytes_in element)

-- the addresses of the bytes of the active elements
unfoldable pub element_addresses : ℕ → Size → Size → List ℕ → List ℕ
element_addresses start memory element pg = flat_map (element_run start memory) (places_of element pg)

-- the bytes that they store
unfoldable pub element_bytes : List ℕ → Size → Size → List ℕ → List ℕ
element_bytes z memory element pg = flat_map (low_bytes z memory element) (places_of element pg)

-- the elements are one run of bytes: each is as long in memory as in the register, and all are active
pub record IsRun (memory element : Size) (pg : List ℕ) : Type 0 where
  pub long : bytes_in memory ≡ bytes_in element
  pub active : AreActive element pg
