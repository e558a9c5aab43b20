-- The places to which calls come back, of which little is kept: which of 64 slots they fall to.
use Rattle.std.specs.Prelude.{ℕ, ◌&&◌, Bool, false, slice_index_or}
use Rattle.abi_checker.specs.Slots.{slot_of}
use Rattle.abi_checker.specs.declared.near.Near.{Near}

-- a call may come back to an address that falls there: there is a call, and one does
abbrev pub is_near : Near → ℕ → Bool
is_near near pc = near.some && slice_index_or near.slots (slot_of pc) false
