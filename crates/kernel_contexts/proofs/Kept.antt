-- That a context stays a run of its image.
use Rattle.std.proofs.Common.{◌≡◌, inl, inr, ℕ, suc, ◌+◌, ◌++◌, List, [], ◌∷◌, Option, Some, None, length, refl, ap, sym, ◌∙◌}
use Rattle.std.proofs.Common.{Bool, true, false, subst, arith}
use Rattle.std.proofs.lemmas.List.{append-nil}
use Rattle.sm_types.specs.declared.config.Config.{Config}
use Rattle.sm_types.specs.declared.shared_op.Event.{Event}
use Rattle.sm_types.specs.declared.stop.Stop.{Stop}
use Rattle.paged_memory.specs.Image.{Program}
use Rattle.shared_region.specs.Tickets.{Refusals}
use Rattle.kernel_contexts.specs.State.{State, start_state}
use Rattle.kernel_contexts.specs.Call.{Goes, Yields, Ends}
use Rattle.kernel_contexts.specs.Turn.{turn_of}
use Rattle.kernel_contexts.specs.Run.{At, Ended, turned, reach_from, reach}
use Rattle.kernel_contexts.specs.Standing.{turns_to, standing, IsRunOf}
use Rattle.kernel_contexts.specs.Context.{TurnsOver, TurnsUnless, GoesOn}
use Rattle.kernel_contexts.specs.declared.context.Turn.{Turn}
use Rattle.kernel_contexts.specs.declared.context.Turn.TheVariants.{Ran, Yielded, NeedsBank, Stopped, TraceEnds, TraceDiffers, Memory}
use Rattle.kernel_contexts.proofs.Turns.{ends_turned}
use Rattle.kernel_contexts.proofs.Answered.{asked_turned, yielded_turned}
use Rattle.kernel_contexts.proofs.Runs.{next, asks_next}

-- ---- the start

begun : (program : Program) (config : Config) (thread : ℕ) → IsRunOf program config thread [] (start_state program config thread) None
unfolding reach reach_from start_state
begun program config thread = refl

pub run_begins : (program : Program) (config : Config) (thread : ℕ) (journal : List Event) (s : State) (stop : Option Stop)
    → s ≡ start_state program config thread → journal ≡ [] → stop ≡ None → IsRunOf program config thread journal s stop
run_begins program config thread journal s stop same empty runs = rw (same, empty, runs) (begun program config thread)

-- ---- one turn, from any state

-- an end stays
ended_on : (config : Config) (thread : ℕ) (from s : State) (journal : List Event) (stop : Stop) (done n : ℕ)
    → reach_from config thread from 0 journal n ≡ Ended s stop done []
    → reach_from config thread from 0 journal (suc n) ≡ Ended s stop done []
unfolding reach_from
ended_on config thread from s journal stop done n ends = ap (turned config thread) ends

module _ (config : Config) (thread : ℕ) (from old new : State) (journal : List Event)
    (at : reach_from config thread from 0 journal old.turns ≡ At old (length journal) []) where
  -- the thread of that number stands so, with the events of that journal
  abbrev Stands : List Event → Option Stop → Type 0
  Stands events stop = reach_from config thread from 0 events (turns_to new stop) ≡ standing new stop (length events) []

  goes_so : (events : List Event) (stopped : Option Stop) → new.turns ≡ old.turns + 1 → stopped ≡ None
      → reach_from config thread from 0 events (suc old.turns) ≡ At new (length events) [] → Stands events stopped
  goes_so events stopped more runs h =
      let count : new.turns ≡ suc old.turns = omega (arith, more) in
      subst (Stands events) (sym runs) (ap (reach_from config thread from 0 events) count ∙ h)

  ran : (refusals : Refusals) (made : List Event) (stopped : Option Stop)
      → GoesOn refusals (turn_of config thread (length journal) old) new made → stopped ≡ None → Stands (journal ++ made) stopped
  ran refusals [] stopped goes runs =
      subst (λ (l : List Event). Stands l stopped) (sym (append-nil journal))
      (goes_so journal stopped (asked_turned config thread (length journal) old new refusals [] goes) runs
      (next config thread from old journal [] (length journal) old.turns (Goes new) at goes))
  ran refusals (event ∷ []) stopped goes runs =
      goes_so (journal ++ event ∷ []) stopped (asked_turned config thread (length journal) old new refusals (event ∷ []) goes) runs
      (asks_next config thread from old new journal event goes.next old.turns at goes.asks goes.made)
  ran refusals (event ∷ other ∷ made) stopped goes runs = absurd goes

  ended : (stop : Stop) (stopped : Option Stop) → turn_of config thread (length journal) old ≡ Ends new stop → stopped ≡ Some stop
      → Stands journal stopped
  ended stop stopped is stops =
      let h = next config thread from old journal [] (length journal) old.turns (Ends new stop) at is in
      subst (Stands journal) (sym stops) (elim (ends_turned config thread (length journal) old new stop is) [
        | inl same ↦
            let count : new.turns + 1 ≡ suc old.turns = omega (arith, same) in
            ap (reach_from config thread from 0 journal) count ∙ h
        | inr more ↦
            let count : new.turns + 1 ≡ suc (suc old.turns) = omega (arith, more) in
            ap (reach_from config thread from 0 journal) count
            ∙ ended_on config thread from new journal stop (length journal) (suc old.turns) h
      ])

  stayed : (stopped : Option Stop) → new ≡ old → stopped ≡ None → Stands journal stopped
  stayed stopped same runs =
      subst (Stands journal) (sym runs)
      (subst (λ (s : State). reach_from config thread from 0 journal s.turns ≡ At s (length journal) []) (sym same) at)

  no_more : (made : List Event) (stopped : Option Stop) → made ≡ [] → Stands journal stopped → Stands (journal ++ made) stopped
  no_more made stopped none h = rw (none, append-nil journal) h

  pub turn_made : (refusals : Refusals) (made : List Event) (stopped : Option Stop) (turn : Turn)
      → TurnsOver refusals (turn_of config thread (length journal) old) old new made stopped turn → Stands (journal ++ made) stopped
  turn_made refusals made stopped Ran h = ran refusals made stopped h.0 h.1
  turn_made refusals made stopped Yielded h =
      no_more made stopped h.1
      (goes_so journal stopped (yielded_turned config thread (length journal) old new refusals made stopped Yielded h refl) h.2
      (next config thread from old journal [] (length journal) old.turns (Yields new) at h.0))
  turn_made refusals made stopped (Stopped stop) h = no_more made stopped h.1 (ended stop stopped h.0 h.2)
  turn_made refusals made stopped NeedsBank h = absurd h
  turn_made refusals made stopped TraceEnds h = no_more made stopped h.2 (stayed stopped h.1 h.3)
  turn_made refusals made stopped TraceDiffers h = no_more made stopped h.2 (stayed stopped h.1 h.3)
  turn_made refusals made stopped Memory h = no_more made stopped h.1 (stayed stopped h.0 h.2)

-- ---- one turn of a run

pub run_goes_on : (program : Program) (config : Config) (thread : ℕ) (refusals : Refusals) (old new : State)
    (before after made : List Event) (stop stopped : Option Stop) (turn : Turn) → IsRunOf program config thread before old stop
    → stop ≡ None → after ≡ before ++ made
    → TurnsOver refusals (turn_of config thread (length before) old) old new made stopped turn
    → IsRunOf program config thread after new stopped
unfolding reach
run_goes_on program config thread refusals old new before after made stop stopped turn h runs grows turns =
    let from = start_state program config thread in
    let at : reach_from config thread from 0 before old.turns ≡ At old (length before) [] =
    subst (λ (o : Option Stop). reach_from config thread from 0 before (turns_to old o) ≡ standing old o (length before) []) runs h in
    subst (λ (l : List Event). reach_from config thread from 0 l (turns_to new stopped) ≡ standing new stopped (length l) []) (sym grows)
    (turn_made config thread from old new before at refusals made stopped turn turns)

-- and of the options, the number and the program of before it
pub run_kept : (program : Program) (config given : Config) (thread number : ℕ) (journal : List Event) (s : State) (stop : Option Stop)
    → given ≡ config → number ≡ thread → IsRunOf program config thread journal s stop → IsRunOf program given number journal s stop
run_kept program config given thread number journal s stop same is h = rw (same, is) h

-- and of a thread that stands as it did
pub run_same : (program : Program) (config given : Config) (thread number : ℕ) (journal events : List Event) (s t : State)
    (stop stopped : Option Stop) → given ≡ config → number ≡ thread → events ≡ journal → t ≡ s → stopped ≡ stop
    → IsRunOf program config thread journal s stop → IsRunOf program given number events t stopped
run_same program config given thread number journal events s t stop stopped e f j k l h = rw (e, f, j, k, l) h

-- or of one that was kept off its vectors
pub run_unless : (kept : Bool) (program : Program) (config : Config) (thread : ℕ) (refusals : Refusals) (old new : State)
    (before after made : List Event) (stop stopped : Option Stop) (turn : Turn) → IsRunOf program config thread before old stop
    → stop ≡ None → after ≡ before ++ made
    → TurnsUnless kept refusals (turn_of config thread (length before) old) old new made stopped turn
    → IsRunOf program config thread after new stopped
run_unless true program config thread refusals old new before after made stop stopped turn h runs grows t =
    run_same program config config thread thread before after old new stop stopped refl refl
    (grows ∙ ap (λ (l : List Event). before ++ l) t.2 ∙ append-nil before) t.1 (t.3 ∙ sym runs) h
run_unless false program config thread refusals old new before after made stop stopped turn h runs grows t =
    run_goes_on program config thread refusals old new before after made stop stopped turn h runs grows t
