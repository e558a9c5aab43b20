-- The checks of a load or store of a slice of a tile, and what it leaves where none fails. A slice has S
-- bytes, S being the streaming vector length in bytes, and its predicate a bit for each of them.
-- Source: DDI 0487, C9.2: LD1B, LD1H, LD1W, LD1D, LD1Q, ST1B, ST1H, ST1W, ST1D and ST1Q (scalar plus scalar,
-- tile slice); J1.1: Mem[], Elem[]. Addresses are taken modulo 2 ^ 64.
use Rattle.std.specs.Prelude.{ℕ, ◌+◌, ◌*◌, ◌/◌, ◌%◌, ◌^◌, Bool, true, false, if◌then◌else◌, List}
use Rattle.std.specs.Prelude.{Option, Some, None, length, replicate, filter, flat_map}
use Rattle.std.specs.List.{concat, range_with_len}
use Rattle.sm_types.specs.declared.scalars.Scalars.{Scalars}
use Rattle.sm_types.specs.declared.stop.Exception.{Exception}
use Rattle.sm_types.specs.declared.matrix.TileAccess.{TileAccess}
use Rattle.scalar_exec.specs.Registers.{x_of, x_or_sp}
use Rattle.paged_memory.specs.Memory.{AddressSpace, run_of}
use Rattle.vector_elements.specs.Elements.{listed, is_active}
use Rattle.mem_access.specs.DataAccess.{DataAccess}
use Rattle.mem_access.specs.Checks.{access_fault}
use Rattle.mem_access.specs.Transfer.{written, written_addresses}
use Rattle.sve_access.specs.After.{at_base, read_bytes}
use Rattle.tile_ops.specs.declared.slices.SliceAt.{SliceAt}
use Rattle.tile_ops.specs.Slices.{slice_bytes, element_bytes, with_slice}
use Rattle.tile_ops.specs.Named.{element_size, slice_of}
use Rattle.za_access.specs.Contents.{Contents}

-- the address of element 0: the second register counts elements
abbrev pub first_address : TileAccess → Scalars → ℕ
first_address x s = (x_or_sp s x.rn + x_of s x.rm * element_size x.slice.size) % 2 ^ 64

-- the addresses of the bytes of element i, each of e bytes, from that of element 0
abbrev pub element_run : ℕ → ℕ → ℕ → List ℕ
element_run start e i = run_of ((start + i * e) % 2 ^ 64) e

-- the places of the active elements, in order
unfoldable pub active_places : ℕ → List ℕ → List ℕ
active_places e pg = filter (is_active e pg) (range_with_len 0 (8 * length pg / e))

-- the addresses of their bytes, in the order of their transfer
unfoldable pub active_addresses : ℕ → ℕ → List ℕ → List ℕ
active_addresses start e pg = flat_map (element_run start e) (active_places e pg)

-- their bytes in a slice
unfoldable pub active_bytes : ℕ → List ℕ → List ℕ → List ℕ
active_bytes e pg slice = flat_map (element_bytes e slice) (active_places e pg)

-- element i as it is loaded: what memory has where it is active, else zeros
abbrev pub loaded_element : ℕ → ℕ → List ℕ → AddressSpace → ℕ → List ℕ
loaded_element start e pg m i =
    if is_active e pg i then read_bytes m (element_run start e i) else replicate e 0

-- the slice as it is loaded
unfoldable pub loaded_slice : ℕ → ℕ → List ℕ → AddressSpace → List ℕ
loaded_slice start e pg m = concat (listed (loaded_element start e pg m) (8 * length pg / e))

-- the access that an instruction makes
unfoldable pub slice_access : TileAccess → Scalars → List ℕ → DataAccess
slice_access x s pg =
    at_base x.rn x.store (active_addresses (first_address x s) (element_size x.slice.size) pg)

-- the exception of the first of its checks that fails, if any does
abbrev pub slice_fault : TileAccess → Scalars → List ℕ → AddressSpace → Option Exception
slice_fault x s pg m = access_fault None (slice_access x s pg) s m

-- the vectors of the array after it: a store leaves them, a load writes the slice
unfoldable pub slice_array_after :
    Bool → SliceAt → ℕ → List ℕ → List (List ℕ) → AddressSpace → List (List ℕ)
slice_array_after true slice start pg za m = za
slice_array_after false slice start pg za m = with_slice slice (loaded_slice start slice.bytes pg m) za

-- the bytes that it stores, in the order of their transfer, if it stores any
unfoldable pub slice_stored : Bool → SliceAt → List ℕ → List (List ℕ) → Option (List ℕ)
slice_stored true slice pg za = Some (active_bytes slice.bytes pg (slice_bytes slice za))
slice_stored false slice pg za = None

-- the addresses of the bytes that it writes, where no check refuses it
abbrev pub slice_writes : TileAccess → Scalars → List ℕ → ℕ → List (List ℕ) → List ℕ
slice_writes x s pg size za =
    written_addresses (slice_access x s pg).bytes (slice_stored x.store (slice_of x.slice s size) pg za)

-- what it leaves, where no check refuses it
abbrev pub after_slice : TileAccess → Scalars → List ℕ → ℕ → List (List ℕ) → AddressSpace → Contents
after_slice x s pg size za m = let slice = slice_of x.slice s size in
    record {
      za = slice_array_after x.store slice (first_address x s) pg za m;
      memory = written m (slice_access x s pg).bytes (slice_stored x.store slice pg za);
    }
