-- Accesses to bytes: the permission that each kind needs, and where one stops. Source: DDI 0487, D8
-- (permission faults).
use Rattle.std.specs.Prelude.{◌≡◌, ℕ, Option, Some, None}
use Rattle.sm_types.specs.declared.stop.Access.{Access}
use Rattle.sm_types.specs.declared.stop.Access.TheVariants.{Read, Write}
use Rattle.paged_memory.specs.declared.pages.WriteStop.{WriteStop}
use Rattle.paged_memory.specs.declared.pages.WriteStop.TheVariants as stop

-- the permission that an access needs: read is 4, write is 2
abbrev pub need_of : Access → ℕ
need_of Read = 4
need_of Write = 2

-- the byte at which a write stops; want of memory names none
abbrev pub stopped_at : WriteStop → Option ℕ
stopped_at (stop.Abort abort) = Some abort.address
stopped_at stop.Memory = None

-- a byte at which a write stops is one that may not be written
abbrev pub IsOfWrite : WriteStop → Type 0
IsOfWrite (stop.Abort abort) = abort.access ≡ Write
IsOfWrite stop.Memory = Unit {0}
