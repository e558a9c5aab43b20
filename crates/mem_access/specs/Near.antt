-- Accesses that are made or not, where nothing is told of why.
use Rattle.std.specs.Prelude.{◌≡◌, ℕ, ◌*◌, Bool, true, false, Option, None}
use Rattle.sm_types.specs.declared.insn.Insn.{Insn}
use Rattle.sm_types.specs.declared.scalars.Scalars.{Scalars}
use Rattle.sm_types.specs.declared.stop.Exception.{Exception}
use Rattle.paged_memory.specs.PageTable.{PageTable}
use Rattle.mem_access.specs.Access.{register_size}
use Rattle.mem_access.specs.Runs.{denied_write, with_bytes, with_number}
use Rattle.mem_access.specs.Transfer.{after_access, contents_of, pair_bytes, transfer_fault}

-- the answer of an access that has this fault, if any, and makes this: it is made, or what was stays
abbrev pub Makes : {State : Type 0} → Option Exception → State → State → State → Bool → Type 0
Makes fault made old new true = (fault ≡ None) × (new ≡ made)
Makes fault made old new false = new ≡ old

-- that of the access of an instruction
abbrev pub MakesNear : Insn → Scalars → PageTable → Scalars → PageTable → Bool → Type 0
MakesNear it s pages s' pages' true =
    (transfer_fault it s pages.memory ≡ None) × (contents_of s' pages' ≡ after_access it s pages.memory)
MakesNear it s pages s' pages' false = (s' ≡ s) × (pages' ≡ pages)

-- that of a write of the low n bytes of a value
abbrev pub WritesNumber : ℕ → ℕ → ℕ → PageTable → PageTable → Bool → Type 0
WritesNumber a n value old new true =
    (denied_write old.memory a n ≡ None) × (new.memory ≡ with_number old.memory a n value)
WritesNumber a n value old new false = new ≡ old

-- that of a write of two registers, one after the other
abbrev pub WritesPair : ℕ → Bool → ℕ → ℕ → PageTable → PageTable → Bool → Type 0
WritesPair a wide first second old new true =
    (denied_write old.memory a (2 * register_size wide) ≡ None)
    × (new.memory ≡ with_bytes old.memory a (pair_bytes wide first second))
WritesPair a wide first second old new false = new ≡ old
