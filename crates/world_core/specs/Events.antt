-- The events of a world.
use Rattle.std.specs.Prelude.{ℕ}
use Rattle.sm_types.specs.declared.world_event.WorldEvent.{WorldEvent}
use Rattle.sm_types.specs.declared.world_event.WorldEvent.TheVariants.{Run, Next, Fetch, Offer}

-- the number of the core on which an event is
abbrev pub core_number : WorldEvent → ℕ
core_number (Run core k) = core
core_number (Next core) = core
core_number (Fetch core) = core
core_number (Offer core) = core

-- a run of so many turns in its place
abbrev pub cut_to : WorldEvent → ℕ → WorldEvent
cut_to (Run core k) turns = Run core turns
cut_to (Next core) turns = Next core
cut_to (Fetch core) turns = Fetch core
cut_to (Offer core) turns = Offer core
