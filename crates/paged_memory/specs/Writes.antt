-- What a write does to a page table, by its answer. Source: copy on write, as System V's fork has it.
use Rattle.std.specs.Prelude.{◌≡◌, ℕ, Bool, true, false, List, Some, None, Result, Ok, Err, length}
use Rattle.sm_types.specs.declared.stop.Access.TheVariants.{Write}
use Rattle.paged_memory.specs.declared.pages.WriteStop.{WriteStop}
use Rattle.paged_memory.specs.declared.pages.WriteStop.TheVariants as stop
use Rattle.paged_memory.specs.Memory.{first_without, run_of, set_bytes}
use Rattle.paged_memory.specs.PageTable.{PageTable, AreOwned, OwnsAlso, KeepsOwned}

-- of bytes, from an address on: they are set, and their pages and no others are owned besides; or one may not
-- be written, and all is as it was; or memory is wanting, and more pages may be owned
abbrev pub Writes : {Value : Type 0} → ℕ → List ℕ → PageTable → PageTable → Result Value WriteStop → Type 0
Writes address bytes old new (Ok done) =
    (new.memory ≡ record old.memory { mem = set_bytes old.memory.mem address bytes })
    × (first_without 2 old.memory address (length bytes) ≡ None)
    × OwnsAlso old new (run_of address (length bytes))
Writes address bytes old new (Err (stop.Abort abort)) =
    (new ≡ old) × (first_without 2 old.memory address (length bytes) ≡ Some abort.address)
    × (abort.access ≡ Write)
Writes address bytes old new (Err stop.Memory) =
    (new.memory ≡ old.memory) × (first_without 2 old.memory address (length bytes) ≡ None)
    × KeepsOwned old new × (AreOwned old address (length bytes) → ⊥)

-- the same where it is made or all is as it was, and nothing is told of why
abbrev pub WritesNear : ℕ → List ℕ → PageTable → PageTable → Bool → Type 0
WritesNear address bytes old new true =
    (new.memory ≡ record old.memory { mem = set_bytes old.memory.mem address bytes })
    × (first_without 2 old.memory address (length bytes) ≡ None)
WritesNear address bytes old new false = new ≡ old
