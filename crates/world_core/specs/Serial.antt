-- The serial events of a world, all on core 0, until each thread is done: the core is filled from the
-- queue, its first resident runs for a slice, and where it has not stopped it gives way to the queue, or to
-- the next one.
use Rattle.std.specs.Prelude.{◌≡◌, ℕ, nat_lt, nat_le, ◌&&◌, cond, List, [], ◌∷◌, Option, Some}
use Rattle.std.specs.Prelude.{None, length, slice_get}
use Rattle.sm_types.specs.declared.config.Config.{Config}
use Rattle.sm_types.specs.declared.shared_words.Words.{Words}
use Rattle.paged_memory.specs.Image.{Program}
use Rattle.kernel_contexts.specs.declared.context.Context.{Context}
use Rattle.core_unit.specs.CoreState.{places}
use Rattle.kernel_contexts.specs.Guest.{Guest}
use Rattle.core_unit.specs.declared.run.RunWhy.{RunWhy}
use Rattle.core_unit.specs.declared.run.RunWhy.TheVariants as why
use Rattle.world_core.specs.Happens.{happens}
use Rattle.world_core.specs.Finish.{AreThreadsOf}
use Rattle.world_core.specs.World.{World, start_world}
use Rattle.sm_types.specs.declared.world_event.WorldEvent.{WorldEvent}
use Rattle.sm_types.specs.declared.world_event.WorldEvent.TheVariants.{Run, Next, Fetch, Offer}
use Rattle.world_core.specs.declared.event.Applied.{Applied}
use Rattle.world_core.specs.declared.event.Applied.TheVariants as applied
use Rattle.world_core.specs.declared.serial.Phase.{Phase}
use Rattle.world_core.specs.declared.serial.Phase.TheVariants.{Fills, GivesWay}

-- the residents of a core, of which there are none where there is no core
abbrev pub residents_at : Option (List Guest) → List Guest
residents_at None = []
residents_at (Some residents) = residents

-- the event that fills core 0 from the queue, or else runs its first resident for a slice, where so many
-- threads are in the queue and resident
abbrev pub filling : ℕ → ℕ → ℕ → Option WorldEvent
filling slice queued resident =
    cond (nat_lt 0 queued && nat_lt resident places) (Some (Fetch 0))
    (cond (nat_lt 0 resident) (Some (Run 0 slice)) None)

-- the serial event in a phase, where so many threads are in the queue and resident: where the first resident
-- has run and goes on, it gives way before core 0 is filled and runs again
abbrev pub event_in : Phase → ℕ → ℕ → ℕ → Option WorldEvent
event_in Fills slice queued resident = filling slice queued resident
event_in GivesWay slice queued resident =
    cond (nat_lt 0 queued) (Some (Offer 0))
    (cond (nat_le 2 resident) (Some (Next 0)) (filling slice queued resident))

-- the next serial event of a world, if there is one
abbrev pub serial_event : World → Phase → Option WorldEvent
serial_event w phase =
    event_in phase w.config.slice (length w.queue) (length (residents_at (slice_get w.cores 0)))

-- what core 0 is about to do after a run that ended so: a thread that has not stopped gives way
abbrev pub phase_by : RunWhy → Phase
phase_by why.Spent = GivesWay
phase_by why.Yielded = GivesWay
phase_by _ = Fills

-- what core 0 is about to do after an event with this answer
abbrev pub phase_after : Applied → Phase
phase_after applied.Done = Fills
phase_after (applied.Ran run) = phase_by run.why
phase_after (applied.NotEnabled reason) = Fills

-- these are serial events from a world on, and they lead to that one
abbrev pub LeadSerially : World → Phase → List WorldEvent → World → Phase → Type 0
LeadSerially w phase [] last at = (last ≡ w) × (at ≡ phase)
LeadSerially w phase (e ∷ es) last at = (serial_event w phase ≡ Some e)
    × LeadSerially (happens w e).world (phase_after (happens w e).answer) es last at

-- these are all serial events from a world on: they lead to that world, in which there is no further one
pub record AreSerial (w : World) (events : List WorldEvent) (last : World) : Type 0 where
  pub phase : Phase
  pub lead : LeadSerially w Fills events last phase
  pub none : serial_event last phase ≡ None

-- the contexts and the words are those of the world to which the serial events lead from the start
pub record IsSerialRun (program : Program) (config : Config) (contexts : List Context) (words : Words)
    : Type 0 where
  pub events : List WorldEvent
  pub last : World
  pub serial : AreSerial (start_world program config) events last
  pub are : AreThreadsOf last contexts words
