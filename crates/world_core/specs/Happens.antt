-- What an event makes of the world, and what it answers.
use Rattle.std.specs.Prelude.{ℕ, ◌-◌, ◌++◌, nat_le, cond, List, [], ◌∷◌, Option, Some, None, length}
use Rattle.std.specs.Prelude.{slice_get, slice_set}
use Rattle.sm_types.specs.declared.shared_words.Entry.{Entry}
use Rattle.sm_types.specs.declared.stop.Stop.{Stop}
use Rattle.core_unit.specs.CoreState.{places}
use Rattle.kernel_contexts.specs.Guest.{Guest}
use Rattle.core_unit.specs.declared.run.RunWhy.{RunWhy}
use Rattle.core_unit.specs.declared.run.RunWhy.TheVariants.{Spent, Yielded, Stopped}
use Rattle.world_core.specs.Events.{core_number}
use Rattle.world_core.specs.Serve.{Progress, Service, Going, GaveWay, HasStopped, serve, begins}
use Rattle.world_core.specs.World.{World}
use Rattle.sm_types.specs.declared.world_event.WorldEvent.{WorldEvent}
use Rattle.sm_types.specs.declared.world_event.WorldEvent.TheVariants as event
use Rattle.world_core.specs.declared.event.Applied.{Applied}
use Rattle.world_core.specs.declared.event.Applied.TheVariants as applied
use Rattle.world_core.specs.declared.event.Why.{Why}
use Rattle.world_core.specs.declared.event.Why.TheVariants.{NoCore, NoResident, OneResident, CoreFull}
use Rattle.world_core.specs.declared.event.Why.TheVariants.{QueueEmpty}

-- a world as one of its cores sees it: the residents of the core, and what the cores share
pub record Scene : Type 0 where
  pub residents : List Guest
  pub queue : List Guest
  pub done : List Guest
  pub history : List Entry

-- what an event makes of a scene, and answers
pub record Outcome : Type 0 where
  pub scene : Scene
  pub answer : Applied

-- an event that is not enabled changes nothing
abbrev pub refused : Scene → Why → Outcome
refused s why = record { scene = s; answer = applied.NotEnabled why }

abbrev pub becomes : Scene → Outcome
becomes s = record { scene = s; answer = applied.Done }

-- ---- Run: the first resident makes so many turns, until it gives way or stops; a thread that has stopped
-- leaves the core

-- a thread after turns that came to this, with its stop, if it has stopped
abbrev pub moved : Guest → Progress → Option Stop → Guest
moved g p stop = record g { state = p.state; stop = stop; journal = p.journal }

-- what a run answers: the turns that the thread made, and why it made no more
abbrev pub ran : Guest → Progress → RunWhy → Applied
ran g p why = applied.Ran (record { turns = p.state.turns - g.state.turns; why = why })

-- a thread that goes on or has given way stays the first resident
abbrev pub stays : Scene → Guest → List Guest → Progress → RunWhy → Outcome
stays s g others p why = record {
  scene = record s { residents = moved g p None ∷ others; history = p.history };
  answer = ran g p why;
}

-- a thread that has stopped leaves the core, and is the last of those that are done
abbrev pub leaves : Scene → Guest → List Guest → Progress → Stop → Outcome
leaves s g others p stop = record {
  scene = record s { residents = others; done = s.done ++ moved g p (Some stop) ∷ []; history = p.history };
  answer = ran g p Stopped;
}

-- what a run makes of a scene, by what the turns of the first resident came to
abbrev pub after_service : Scene → Guest → List Guest → Service → Outcome
after_service s g others (Going p) = stays s g others p Spent
after_service s g others (GaveWay p) = stays s g others p Yielded
after_service s g others (HasStopped p stop) = leaves s g others p stop

-- so many turns at most of the first of these residents; without a resident there is no run
abbrev pub run_of : ℕ → Scene → List Guest → Outcome
run_of k s [] = refused s NoResident
run_of k s (g ∷ others) =
    after_service s g others (serve g.config g.number (begins g.state g.stop g.journal s.history) k)

-- ---- Next: the first resident moves last

abbrev pub next_of : Scene → List Guest → Outcome
next_of s [] = refused s NoResident
next_of s (g ∷ []) = refused s OneResident
next_of s (g ∷ other ∷ others) = becomes (record s { residents = other ∷ others ++ g ∷ [] })

-- ---- Fetch: the queue's front becomes the last resident of a core that has a place

abbrev pub fetched : Scene → List Guest → Outcome
fetched s [] = refused s QueueEmpty
fetched s (g ∷ queue) = becomes (record s { residents = s.residents ++ g ∷ []; queue = queue })

abbrev pub fetch_of : Scene → Outcome
fetch_of s = cond (nat_le places (length s.residents)) (refused s (CoreFull (length s.residents)))
    (fetched s s.queue)

-- ---- Offer: the first resident goes to the queue's back

abbrev pub offer_of : Scene → List Guest → Outcome
offer_of s [] = refused s NoResident
offer_of s (g ∷ others) = becomes (record s { residents = others; queue = s.queue ++ g ∷ [] })

-- ---- the world

abbrev pub on_core : WorldEvent → Scene → Outcome
on_core (event.Run core k) s = run_of k s s.residents
on_core (event.Next core) s = next_of s s.residents
on_core (event.Fetch core) s = fetch_of s
on_core (event.Offer core) s = offer_of s s.residents

pub record Happened : Type 0 where
  pub world : World
  pub answer : Applied

-- what a core with these residents sees of a world
abbrev pub scene_of : World → List Guest → Scene
scene_of w residents =
    record { residents = residents; queue = w.queue; done = w.done; history = w.history }

-- a world after the core of that number has come to this scene
abbrev pub with_scene : World → ℕ → Scene → World
with_scene w core s = record {
  config = w.config;
  queue = s.queue;
  cores = slice_set w.cores core s.residents;
  done = s.done;
  history = s.history;
}

abbrev pub comes_to : World → ℕ → Outcome → Happened
comes_to w core o = record { world = with_scene w core o.scene; answer = o.answer }

abbrev pub happens_on : World → WorldEvent → Option (List Guest) → Happened
happens_on w e None = record { world = w; answer = applied.NotEnabled (NoCore (core_number e)) }
happens_on w e (Some residents) = comes_to w (core_number e) (on_core e (scene_of w residents))

unfoldable pub happens : World → WorldEvent → Happened
happens w e = happens_on w e (slice_get w.cores (core_number e))

-- the world after some events, one after the other
unfoldable pub world_after : World → List WorldEvent → World
world_after w [] = w
world_after w (e ∷ es) = world_after (happens w e).world es

-- the answers of some events, one after the other
unfoldable pub answers_after : World → List WorldEvent → List Applied
answers_after w [] = []
answers_after w (e ∷ es) = (happens w e).answer ∷ answers_after (happens w e).world es
