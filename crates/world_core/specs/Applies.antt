-- What the code makes of an event: what happens, but that memory may be wanting for a turn.
use Rattle.std.specs.Prelude.{◌≡◌, Bool, true, false, ℕ, ◌<◌, ◌++◌, ◌⊎◌, List, [], ◌∷◌}
use Rattle.core_unit.specs.declared.run.RunWhy.{RunWhy}
use Rattle.core_unit.specs.declared.run.RunWhy.TheVariants as why
use Rattle.world_core.specs.Events.{cut_to}
use Rattle.world_core.specs.World.{World}
use Rattle.world_core.specs.Happens.{Scene, on_core, happens, world_after, answers_after}
use Rattle.sm_types.specs.declared.world_event.WorldEvent.{WorldEvent}
use Rattle.sm_types.specs.declared.world_event.WorldEvent.TheVariants.{Run, Next, Fetch, Offer}
use Rattle.world_core.specs.declared.event.Applied.{Applied}
use Rattle.world_core.specs.declared.event.Applied.TheVariants as applied

-- the event is a run that is let make more turns
abbrev pub LetsMore : WorldEvent → ℕ → Type 0
LetsMore (Run core k) turns = turns < k
LetsMore (Next core) turns = ⊥
LetsMore (Fetch core) turns = ⊥
LetsMore (Offer core) turns = ⊥

-- what a run answers that made so many turns, all that it was let make
abbrev pub spends : ℕ → Applied
spends turns = applied.Ran (record { turns = turns; why = why.Spent })

-- with what a run comes to, by why it ended: the event happened; or memory was wanting after fewer turns
-- than it was let make, and a run of so many happened, which made them all. Plain words refuse nothing else
abbrev pub RunsBy : (happened : Type 0) → (cut : Type 0) → RunWhy → Type 0
RunsBy happened cut why.Idle = ⊥
RunsBy happened cut why.TraceEnds = ⊥
RunsBy happened cut why.TraceDiffers = ⊥
RunsBy happened cut why.Memory = cut
RunsBy happened cut _ = happened

-- an event that comes to this outcome makes of the one scene on a core the other, and answers so
abbrev pub IsOutcome : WorldEvent → Scene → Scene → Applied → Type 0
IsOutcome e old new answer = on_core e old ≡ record { scene = new; answer = answer }

-- the code's event on a core, before and after, with its answer: the event happened, or it was a run that
-- was wanting memory, of which fewer turns happened
abbrev pub AppliesHere : WorldEvent → Scene → Scene → Applied → Type 0
AppliesHere e old new (applied.Ran run) = RunsBy (IsOutcome e old new (applied.Ran run))
    (IsOutcome (cut_to e run.turns) old new (spends run.turns) × LetsMore e run.turns) run.why
AppliesHere e old new answer = IsOutcome e old new answer

-- an event makes of the one world the other, and answers so
abbrev pub Comes : WorldEvent → World → World → Applied → Type 0
Comes e old new answer = happens old e ≡ record { world = new; answer = answer }

-- the code's event in a world, before and after, with its answer: the event happened, or it was a run that
-- was wanting memory, of which fewer turns happened
abbrev pub Applies : WorldEvent → World → World → Applied → Type 0
Applies e old new (applied.Ran run) = RunsBy (Comes e old new (applied.Ran run))
    (Comes (cut_to e run.turns) old new (spends run.turns) × LetsMore e run.turns) run.why
Applies e old new answer = Comes e old new answer

-- a run that ended so was wanting memory
abbrev pub is_wanting : RunWhy → Bool
is_wanting why.Memory = true
is_wanting _ = false

-- an event with this answer was a run that was wanting memory
abbrev pub wants_memory : Applied → Bool
wants_memory (applied.Ran run) = is_wanting run.why
wants_memory _ = false

-- ---- a list of events

-- all of them happened
pub record HaveHappened (events : List WorldEvent) (old new : World) (answers : List Applied) : Type 0 where
  pub world : new ≡ world_after old events
  pub answers_of : answers ≡ answers_after old events

-- the list ended early, with a run that was wanting memory: what stands before it has happened, and a run of
-- fewer turns in its place, which made them all
pub record HasEndedEarly (events : List WorldEvent) (old new : World) (answers : List Applied) : Type 0 where
  pub before : List WorldEvent
  pub last : WorldEvent
  pub others : List WorldEvent
  pub turns : ℕ
  pub is : events ≡ before ++ last ∷ others
  pub fewer : LetsMore last turns
  pub world : new ≡ world_after old (before ++ cut_to last turns ∷ [])
  pub made : (happens (world_after old before) (cut_to last turns)).answer ≡ spends turns
  pub answers_of : answers
      ≡ answers_after old before ++ applied.Ran (record { turns = turns; why = why.Memory }) ∷ []

abbrev pub ApplyAll : List WorldEvent → World → World → List Applied → Type 0
ApplyAll events old new answers = HaveHappened events old new answers ⊎ HasEndedEarly events old new answers
