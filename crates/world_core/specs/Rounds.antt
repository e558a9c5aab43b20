-- The serial events of a world as rounds on core 0, without the phases of the code: until each thread is
-- done, the core is filled from the queue, then its first resident runs for a slice, and where that run ended
-- as spent or yielded, the first resident gives way to the queue, else to the next one.
use Rattle.std.specs.Prelude.{◌≡◌, ℕ, ◌<◌, ◌≤◌, ◌++◌, ◌⊎◌, List, [], ◌∷◌, length, replicate, slice_get}
use Rattle.core_unit.specs.CoreState.{places}
use Rattle.core_unit.specs.declared.run.RunWhy.{RunWhy}
use Rattle.core_unit.specs.declared.run.RunWhy.TheVariants as why
use Rattle.world_core.specs.Happens.{happens, world_after}
use Rattle.world_core.specs.Serial.{residents_at}
use Rattle.world_core.specs.World.{World}
use Rattle.sm_types.specs.declared.world_event.WorldEvent.{WorldEvent}
use Rattle.sm_types.specs.declared.world_event.WorldEvent.TheVariants.{Run, Next, Fetch, Offer}
use Rattle.world_core.specs.declared.event.Applied.TheVariants as applied

-- how many threads are in the queue of a world
abbrev pub queued : World → ℕ
queued w = length w.queue

-- how many threads are resident on core 0 of a world
abbrev pub resident : World → ℕ
resident w = length (residents_at (slice_get w.cores 0))

-- core 0 can be filled: a thread is in the queue, and fewer are resident than the core has places
abbrev pub CanFill : World → Type 0
CanFill w = (0 < queued w) × (resident w < places)

-- core 0 is full, or cannot be filled, since no thread is in the queue
abbrev pub IsFilled : World → Type 0
IsFilled w = (queued w ≡ 0) ⊎ (places ≤ resident w)

-- so many fetches on core 0
abbrev pub fetching : ℕ → List WorldEvent
fetching fetches = replicate fetches (Fetch 0)

-- the run of the first resident of core 0 for a slice of the world's options
abbrev pub slice_run : World → WorldEvent
slice_run w = Run 0 w.config.slice

-- the events by which the first resident of core 0 gives way in a world: an offer where a thread is in the
-- queue, else a next where two threads are resident, else none
pub data IsGivingWay (w : World) (events : List WorldEvent) : Type 0 where
  ByOffer : 0 < queued w → events ≡ Offer 0 ∷ [] → IsGivingWay w events
  ByNext : queued w ≡ 0 → 2 ≤ resident w → events ≡ Next 0 ∷ [] → IsGivingWay w events
  Stays : queued w ≡ 0 → resident w < 2 → events ≡ [] → IsGivingWay w events

-- the events that follow a run which ended so, in the world after it: where the run was spent or yielded,
-- those by which the first resident gives way; where its thread stopped, none. The run of a resident of a
-- world ends in no other way: a world has memory for every turn, and its words refuse no operation
abbrev pub FollowRun : RunWhy → World → List WorldEvent → Type 0
FollowRun why.Spent w events = IsGivingWay w events
FollowRun why.Yielded w events = IsGivingWay w events
FollowRun why.Stopped w events = events ≡ []
FollowRun why.Idle w events = ⊥
FollowRun why.TraceEnds w events = ⊥
FollowRun why.TraceDiffers w events = ⊥
FollowRun why.Memory w events = ⊥

-- one round of the serial events of a world: fetches, each of which can fill core 0, until no other one can;
-- then the run of the first resident for a slice, of which there is one; then the events that follow the run
pub record IsRound (w : World) (events : List WorldEvent) : Type 0 where
  pub fetches : ℕ
  pub each_fills : (i : ℕ) → i < fetches → CanFill (world_after w (fetching i))
  pub filled : IsFilled (world_after w (fetching fetches))
  pub some : 0 < resident (world_after w (fetching fetches))
  pub turns : ℕ
  pub reason : RunWhy
  pub ran : (happens (world_after w (fetching fetches)) (slice_run (world_after w (fetching fetches)))).answer
      ≡ applied.Ran (record { turns = turns; why = reason })
  pub rest : List WorldEvent
  pub follow : FollowRun reason
      (happens (world_after w (fetching fetches)) (slice_run (world_after w (fetching fetches)))).world rest
  pub are : events ≡ fetching fetches ++ slice_run (world_after w (fetching fetches)) ∷ rest

-- rounds of a world, one after the other, which lead to that world
abbrev pub RoundsLead : World → List (List WorldEvent) → World → Type 0
RoundsLead w [] last = last ≡ w
RoundsLead w (round ∷ rounds) last = IsRound w round × RoundsLead (world_after w round) rounds last

-- the events of some rounds, one after the other
abbrev pub events_of_rounds : List (List WorldEvent) → List WorldEvent
events_of_rounds [] = []
events_of_rounds (round ∷ rounds) = round ++ events_of_rounds rounds

-- the events are those of rounds of a world, which lead to a world in which no thread is in the queue or
-- resident on core 0
pub record AreRounds (w : World) (events : List WorldEvent) (last : World) : Type 0 where
  pub rounds : List (List WorldEvent)
  pub are : events ≡ events_of_rounds rounds
  pub lead : RoundsLead w rounds last
  pub none_queued : queued last ≡ 0
  pub none_resident : resident last ≡ 0
