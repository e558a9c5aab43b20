-- Events one after the other, as the code makes them.
use Rattle.std.proofs.Common.{◌≡◌, true, false, ℕ, ◌++◌, List, [], ◌∷◌, refl, ap, sym, ◌∙◌, inr}
use Rattle.core_unit.specs.declared.run.RunWhy.{RunWhy}
use Rattle.core_unit.specs.declared.run.RunWhy.TheVariants as why
use Rattle.world_core.specs.Applies.{Applies, RunsBy, Comes, LetsMore, spends, wants_memory, is_wanting, ApplyAll}
use Rattle.world_core.specs.Events.{cut_to}
use Rattle.world_core.specs.Happens.{Happened, happens, world_after, answers_after}
use Rattle.world_core.specs.World.{World}
use Rattle.sm_types.specs.declared.world_event.WorldEvent.{WorldEvent}
use Rattle.world_core.specs.declared.event.Applied.{Applied}
use Rattle.world_core.specs.declared.event.Applied.TheVariants as applied

pub world_after-snoc : (w : World) (es : List WorldEvent) (e : WorldEvent)
    → world_after w (es ++ e ∷ []) ≡ (happens (world_after w es) e).world
unfolding world_after
world_after-snoc w [] e = refl
world_after-snoc w (x ∷ es) e = world_after-snoc (happens w x).world es e

answers_after-snoc : (w : World) (es : List WorldEvent) (e : WorldEvent)
    → answers_after w (es ++ e ∷ []) ≡ answers_after w es ++ (happens (world_after w es) e).answer ∷ []
unfolding world_after answers_after
answers_after-snoc w [] e = refl
answers_after-snoc w (x ∷ es) e = ap (λ l. (happens w x).answer ∷ l) (answers_after-snoc (happens w x).world es e)

ran_comes : (A B : Type 0) (reason : RunWhy) → is_wanting reason ≡ false → RunsBy A B reason → A
ran_comes A B why.Spent made h = h
ran_comes A B why.Yielded made h = h
ran_comes A B why.Stopped made h = h
ran_comes A B why.Idle made h = absurd h
ran_comes A B why.TraceEnds made h = absurd h
ran_comes A B why.TraceDiffers made h = absurd h
ran_comes A B why.Memory made h = cc

ran_cut : (A B : Type 0) (reason : RunWhy) → is_wanting reason ≡ true → RunsBy A B reason → (reason ≡ why.Memory) × B
ran_cut A B why.Spent wanting h = cc
ran_cut A B why.Yielded wanting h = cc
ran_cut A B why.Stopped wanting h = cc
ran_cut A B why.Idle wanting h = cc
ran_cut A B why.TraceEnds wanting h = cc
ran_cut A B why.TraceDiffers wanting h = cc
ran_cut A B why.Memory wanting h = (refl, h)

-- an event that was not wanting memory happened
pub comes_so : (e : WorldEvent) (old new : World) (answer : Applied) → wants_memory answer ≡ false → Applies e old new answer
    → Comes e old new answer
comes_so e old new applied.Done made h = h
comes_so e old new (applied.Ran run) made h = ran_comes _ _ run.why made h
comes_so e old new (applied.NotEnabled reason) made h = h

-- of one that was, fewer turns happened, and all of these were made
record IsCut (e : WorldEvent) (old new : World) (answer : Applied) : Type 0 where
  pub turns : ℕ
  pub fewer : LetsMore e turns
  pub comes : Comes (cut_to e turns) old new (spends turns)
  pub answers : answer ≡ applied.Ran (record { turns = turns; why = why.Memory })

cut_so : (e : WorldEvent) (old new : World) (answer : Applied) → wants_memory answer ≡ true → Applies e old new answer
    → IsCut e old new answer
cut_so e old new applied.Done wanting h = cc
cut_so e old new (applied.Ran run) wanting h =
    let k = ran_cut _ _ run.why wanting h in
    record {
      turns = run.turns;
      fewer = k.1.1;
      comes = k.1.0;
      answers = ap (λ (w : RunWhy). applied.Ran (record { turns = run.turns; why = w })) k.0;
    }
cut_so e old new (applied.NotEnabled reason) wanting h = cc

module _ (w : World) (before : List WorldEvent) (e : WorldEvent) (old new : World) (answers longer : List Applied) (answer : Applied)
    (world : old ≡ world_after w before) (so_far : answers ≡ answers_after w before) (is : longer ≡ answers ++ answer ∷ [])
    (h : Applies e old new answer) where
  -- one event more
  pub world_more : wants_memory answer ≡ false → new ≡ world_after w (before ++ e ∷ [])
  world_more made =
      sym (ap (λ (x : Happened). x.world) (comes_so e old new answer made h)) ∙ ap (λ (v : World). (happens v e).world) world
      ∙ sym (world_after-snoc w before e)

  pub answers_more : wants_memory answer ≡ false → longer ≡ answers_after w (before ++ e ∷ [])
  answers_more made =
      is ∙ ap (λ (l : List Applied). l ++ answer ∷ []) so_far
      ∙ ap (λ (a : Applied). answers_after w before ++ a ∷ [])
      (sym (ap (λ (x : Happened). x.answer) (comes_so e old new answer made h)) ∙ ap (λ (v : World). (happens v e).answer) world)
      ∙ sym (answers_after-snoc w before e)

  -- the list ends early
  pub ended_early : (events others : List WorldEvent) → wants_memory answer ≡ true → events ≡ before ++ e ∷ others
      → ApplyAll events w new longer
  ended_early events others wanting parts =
      let k = cut_so e old new answer wanting h in
      inr (record {
        before = before;
        last = e;
        others = others;
        turns = k.turns;
        is = parts;
        fewer = k.fewer;
        world = sym (ap (λ (x : Happened). x.world) k.comes) ∙ ap (λ (v : World). (happens v (cut_to e k.turns)).world) world
            ∙ sym (world_after-snoc w before (cut_to e k.turns));
        made = ap (λ (v : World). (happens v (cut_to e k.turns)).answer) (sym world) ∙ ap (λ (x : Happened). x.answer) k.comes;
        answers_of = is ∙ ap (λ (l : List Applied). l ++ answer ∷ []) so_far
            ∙ ap (λ (a : Applied). answers_after w before ++ a ∷ []) k.answers;
      })
