-- The checks of an access, in their order, all before anything changes.
-- Source: DDI 0487, D1.3 and J1.1, CheckSPAlignment, alignment of ordered and atomic accesses, permission
-- faults; the region of shared words from 0x7F0000000000 on is this emulator's own.
use Rattle.std.specs.Prelude.{ℕ, ◌%◌, ◌==◌, ◌&&◌, Bool, not, nat_lt, nat_le, [], ◌∷◌}
use Rattle.std.specs.Prelude.{Option, Some, None, option_map, is_some}
use Rattle.std.specs.List.{find}
use Rattle.sm_types.specs.declared.scalars.Scalars.{Scalars}
use Rattle.sm_types.specs.declared.shared_op.SharedOp.{SharedOp}
use Rattle.sm_types.specs.declared.stop.Access.TheVariants.{Read, Write}
use Rattle.sm_types.specs.declared.stop.Exception.{Exception}
use Rattle.sm_types.specs.declared.stop.Exception.TheVariants.{SpAlign, Align, Shared, Data}
use Rattle.sm_types.specs.Checks.{first_fault, fault_when, fault_only}
use Rattle.paged_memory.specs.Memory.{AddressSpace, byte_with}
use Rattle.mem_access.specs.DataAccess.{DataAccess}

-- a byte of the 512 shared words
abbrev pub is_shared : ℕ → Bool
is_shared a = nat_le 0x7F0000000000 a && nat_lt a 0x7F0000001000

-- SP is the base, and no multiple of 16
abbrev pub sp_fault : DataAccess → Scalars → Option Exception
sp_fault access s = fault_when (access.on_sp && not (s.sp % 16 == 0)) SpAlign

-- the address of an ordered or atomic access is no multiple of its size
abbrev pub align_fault : DataAccess → Option Exception
align_fault access =
    fault_when (access.aligned && not (access.address % access.size == 0)) (Align access.address)

-- the first of the bytes that is shared
abbrev pub shared_fault : DataAccess → Option Exception
shared_fault access = option_map Shared (find is_shared access.bytes)

-- there is no byte at the address with the permission, which is read 4 or write 2
abbrev pub lacks : ℕ → AddressSpace → ℕ → Bool
lacks need m a = not (is_some (byte_with need m a))

-- the first of the bytes that cannot be read, where the access reads
abbrev pub read_fault : DataAccess → AddressSpace → Option Exception
read_fault access m =
    fault_only access.reads (option_map (λ a. Data a Read) (find (lacks 4 m) access.bytes))

-- the first of them that cannot be written, where the access writes
abbrev pub write_fault : DataAccess → AddressSpace → Option Exception
write_fault access m =
    fault_only access.writes (option_map (λ a. Data a Write) (find (lacks 2 m) access.bytes))

-- the check of an access to private memory: an operation on a shared word has none
abbrev pub if_private : Option SharedOp → Option Exception → Option Exception
if_private None check = check
if_private (Some op) check = None

-- the exception of the first check that fails, if any does; the access touches a shared word by that
-- operation, or none
unfoldable pub access_fault : Option SharedOp → DataAccess → Scalars → AddressSpace → Option Exception
access_fault op access s m = first_fault (
    sp_fault access s
    ∷ align_fault access
    ∷ if_private op (shared_fault access)
    ∷ if_private op (read_fault access m)
    ∷ if_private op (write_fault access m)
    ∷ [])
