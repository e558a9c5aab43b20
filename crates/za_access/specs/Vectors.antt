-- The checks of a load or store of a vector of the ZA array, and what it leaves where none fails. There are S
-- vectors of S bytes, S being the streaming vector length in bytes.
-- Source: DDI 0487, C9.2: LDR (array vector), STR (array vector). Addresses are taken modulo 2 ^ 64.
use Rattle.std.specs.Prelude.{ℕ, ◌+◌, ◌*◌, ◌%◌, ◌^◌, Bool, true, false, List, [], Option, Some, None}
use Rattle.std.specs.Prelude.{slice_index_or, slice_set}
use Rattle.sm_types.specs.declared.scalars.Scalars.{Scalars}
use Rattle.sm_types.specs.declared.stop.Exception.{Exception}
use Rattle.scalar_exec.specs.Registers.{x_of, x_or_sp}
use Rattle.paged_memory.specs.Memory.{AddressSpace, run_of}
use Rattle.mem_access.specs.DataAccess.{DataAccess}
use Rattle.mem_access.specs.Checks.{access_fault}
use Rattle.mem_access.specs.Transfer.{written, written_addresses}
use Rattle.sve_access.specs.After.{at_base, read_bytes}
use Rattle.tile_ops.specs.Slices.{slice_number}
use Rattle.za_access.specs.Contents.{Contents}

-- which vector: the low 32 bits of the register, and the offset above it, modulo S
abbrev pub vector_number : ℕ → ℕ → Scalars → ℕ → ℕ
vector_number rv offset s size = slice_number (x_of s rv) offset size

-- where its bytes begin: the same offset, in vectors, above the base
abbrev pub vector_address : ℕ → ℕ → Scalars → ℕ → ℕ
vector_address offset rn s size = (x_or_sp s rn + offset * size) % 2 ^ 64

-- the access, to all bytes of a vector
unfoldable pub vector_access : Bool → ℕ → ℕ → Scalars → ℕ → DataAccess
vector_access store offset rn s size = at_base rn store (run_of (vector_address offset rn s size) size)

-- the exception of the first of its checks that fails, if any does
abbrev pub vector_fault : Bool → ℕ → ℕ → Scalars → ℕ → AddressSpace → Option Exception
vector_fault store offset rn s size m = access_fault None (vector_access store offset rn s size) s m

-- the vectors of the array after it: a load writes vector n with the bytes at these addresses
unfoldable pub array_after : Bool → ℕ → List ℕ → List (List ℕ) → AddressSpace → List (List ℕ)
array_after true n addresses za m = za
array_after false n addresses za m = slice_set za n (read_bytes m addresses)

-- the bytes that it stores, if it stores any: those of vector n
unfoldable pub stored : Bool → ℕ → List (List ℕ) → Option (List ℕ)
stored true n za = Some (slice_index_or za n [])
stored false n za = None

-- the addresses of the bytes that it writes, where no check refuses it
abbrev pub vector_writes : Bool → ℕ → ℕ → ℕ → Scalars → ℕ → List (List ℕ) → List ℕ
vector_writes store rv offset rn s size za =
    written_addresses (vector_access store offset rn s size).bytes
    (stored store (vector_number rv offset s size) za)

-- what it leaves, by the number of the vector and the addresses
abbrev pub after_at : Bool → ℕ → List ℕ → List (List ℕ) → AddressSpace → Contents
after_at store n addresses za m = record {
  za = array_after store n addresses za m;
  memory = written m addresses (stored store n za);
}

-- what it leaves, where no check refuses it
abbrev pub after_vector : Bool → ℕ → ℕ → ℕ → Scalars → ℕ → List (List ℕ) → AddressSpace → Contents
after_vector store rv offset rn s size za m =
    after_at store (vector_number rv offset s size) (vector_access store offset rn s size).bytes za m
