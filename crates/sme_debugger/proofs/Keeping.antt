-- States of a run that are kept while it is made from its start.
use Rattle.std.proofs.Common.{◌≡◌, ℕ, ◌≤◌, List, [], ◌∷◌, ◌++◌, Option, None, drop, refl, ap, sym, ◌∙◌}
use Rattle.std.proofs.Common.{subst, arith, Bool, true, false, if◌then◌else◌}
use Rattle.std.proofs.lemmas.List.Elements.{All-push}
use Rattle.sm_types.specs.declared.shared_op.Event.{Event}
use Rattle.sm_types.specs.declared.stop.Stop.{Stop}
use Rattle.shared_region.specs.Ports.{ReplayEvents}
use Rattle.kernel_contexts.specs.State.{State, start_state}
use Rattle.kernel_contexts.specs.Loose.{loose_state, loose_config, loose_thread, loose_events, loose_stop, IsSameLoose}
use Rattle.kernel_contexts.specs.declared.loose.Loose.{Loose}
use Rattle.lone_runner.specs.Parting.{EndsAt, IsParting}
use Rattle.lone_runner.specs.Rest.{IsPartingFrom}
use Rattle.lone_runner.specs.Resumed.{HasLooseTicket, IsReached, IsResumed}
use Rattle.lone_runner.specs.Ticket.{whole_journal}
use Rattle.lone_runner.specs.declared.fault.AloneFault.{AloneFault}
use Rattle.lone_runner.proofs.Partings.{reach_start}
use Rattle.kept_states.specs.Kept.{Keeps, IsKept, kept_count}
use Rattle.kept_states.specs.declared.kept.KeptState.{KeptState}
use Rattle.kept_states.proofs.OneKept.{one}
use Rattle.sme_debugger.specs.Recording.{Recording}
use Rattle.sme_debugger.specs.Standing.{IsPlace, IsOnRun, AreOnRun, IsKeeping}
use Rattle.sme_debugger.proofs.Joined.{standing, parts_as, ends_as, kept_on_run}

-- ---- at the start

start_place : (r : Recording) → IsPlace r 0 (start_state r.program r.config r.thread) 0
unfolding start_state
start_place r = record {
  at = reach_start r.program r.config r.thread r.journal;
  counts = refl;
  first = λ earlier l. absurd (omega (arith, l));
}

-- a thread that was made of the kept state of the start
pub begun_place : (r : Recording) (k : KeptState) (loose : Loose) → IsKept r.config r.thread 0 (start_state r.program r.config r.thread) k
    → Keeps k (loose_state loose) → IsPlace r 0 (loose_state loose) 0
begun_place r k loose h keeps =
    subst (λ (s : State). IsPlace r 0 s 0) (one k (start_state r.program r.config r.thread) (loose_state loose) h.keeps keeps)
    (start_place r)

pub start_on_run : (r : Recording) (k : KeptState) → IsKept r.config r.thread 0 (start_state r.program r.config r.thread) k → IsOnRun r k
start_on_run r k h = kept_on_run r 0 0 (start_state r.program r.config r.thread) k (start_place r) h

start_count : (r : Recording) → (start_state r.program r.config r.thread).count ≡ 0
unfolding start_state
start_count r = refl

pub start_begins : (r : Recording) (k : KeptState) → IsKept r.config r.thread 0 (start_state r.program r.config r.thread) k
    → kept_count k ≡ 0
start_begins r k h = sym h.keeps.kernel.count ∙ start_count r

-- where it stands is told by its own count
own_count : (r : Recording) (n : ℕ) (s : State) (used : ℕ) → IsPlace r n s used → IsPlace r s.count s used
own_count r n s used p = subst (λ m. IsPlace r m s used) (sym p.counts) p

pub begins_keeping : (r : Recording) (k : KeptState) (later : List KeptState) (loose : Loose) (ticket : ReplayEvents)
    → IsKept r.config r.thread 0 (start_state r.program r.config r.thread) k → Keeps k (loose_state loose) → loose_events loose ≡ 0
    → loose_config loose ≡ r.config → loose_thread loose ≡ r.thread
    → ticket ≡ record { thread = r.thread; answered = []; ahead = r.journal }
    → later ≡ [] → IsKeeping r later loose ticket
begins_keeping r k later loose ticket h keeps events config thread is none = record {
  later_on_run = subst (AreOnRun r) (sym none) (λ i d l. absurd (omega (arith, l)));
  place = own_count r 0 (loose_state loose) (loose_events loose)
      (subst (λ n. IsPlace r 0 (loose_state loose) n) (sym events) (begun_place r k loose h keeps));
  ahead = ap (λ (t : ReplayEvents). t.ahead) is ∙ ap (λ n. drop n r.journal) (sym events);
  whole = ap whole_journal is;
  of_run = record { config_is = config; thread_is = thread; number = ap (λ (t : ReplayEvents). t.thread) is };
}

-- ---- on the way

module _ (r : Recording) (later : List KeptState) (old : Loose) (before : ReplayEvents) (h : IsKeeping r later old before) where
  from_there : (next : ℕ) (new : Loose) (stop : Option Stop) (after : ReplayEvents) → IsReached old before.ahead next new stop after
      → IsReached old (drop (loose_events old) r.journal) next new stop after
  from_there next new stop after q = subst (λ (l : List Event). IsReached old l next new stop after) h.ahead q

  pub keeping_on : (next : ℕ) (new : Loose) (after : ReplayEvents) → (loose_state old).count ≤ next
      → IsReached old before.ahead next new None after → loose_stop new ≡ None → IsSameLoose old new
      → whole_journal after ≡ whole_journal before → HasLooseTicket new after → IsKeeping r later new after
  keeping_on next new after most q runs same whole held =
      let stands =
      standing r (loose_state old).count old h.place h.of_run.config_is h.of_run.thread_is next new None after most
      (from_there next new None after q) runs in
      record {
        later_on_run = h.later_on_run;
        place = own_count r next (loose_state new) (loose_events new) (stands.goes refl);
        ahead = stands.ahead refl;
        whole = whole ∙ h.whole;
        of_run = record {
          config_is = same.config ∙ h.of_run.config_is;
          thread_is = same.thread ∙ h.of_run.thread_is;
          number = held.number ∙ same.thread ∙ h.of_run.thread_is;
        };
      }

  pub kept_more : (k : KeptState) (more : List KeptState)
      → IsKept (loose_config old) (loose_thread old) (loose_events old) (loose_state old) k
      → more ≡ later ++ k ∷ [] → IsKeeping r more old before
  kept_more k more kept grown =
      let its : IsKept r.config r.thread (loose_events old) (loose_state old) k = record {
        config_is = kept.config_is ∙ h.of_run.config_is;
        thread_is = kept.thread_is ∙ h.of_run.thread_is;
        events_are = kept.events_are;
        keeps = kept.keeps;
      } in
      record {
        later_on_run = subst (AreOnRun r) (sym grown)
            (All-push (IsOnRun r) later k h.later_on_run
            (kept_on_run r (loose_state old).count (loose_events old) (loose_state old) k h.place its));
        place = h.place;
        ahead = h.ahead;
        whole = h.whole;
        of_run = h.of_run;
      }

  -- whether it is kept or not
  pub kept_or_not : (k : KeptState) (more : List KeptState) (is : Bool)
      → IsKept (loose_config old) (loose_thread old) (loose_events old) (loose_state old) k
      → more ≡ (if is then later ++ k ∷ [] else later) → IsKeeping r more old before
  kept_or_not k more true kept grown = kept_more k more kept grown
  kept_or_not k more false kept grown = subst (λ (l : List KeptState). IsKeeping r l old before) (sym grown) h

  pub keeping_parts : (last : ℕ) (fault : AloneFault) → (loose_state old).count ≤ last
      → IsPartingFrom (loose_config old) (loose_thread old) (loose_state old) (loose_events old) before.ahead last fault
      → IsParting r.program r.config r.thread r.journal last fault
  keeping_parts last fault most parts =
      parts_as r (loose_state old).count old h.place h.of_run.config_is h.of_run.thread_is last fault most
      (subst (λ (l : List Event). IsPartingFrom (loose_config old) (loose_thread old) (loose_state old) (loose_events old) l last fault)
      h.ahead parts)

  pub keeping_ends : (last : ℕ) (new : Loose) (stop : Stop) → IsResumed old before.ahead last new stop
      → EndsAt r.program r.config r.thread r.journal last
  keeping_ends last new stop ends =
      ends_as r (loose_state old).count old h.place h.of_run.config_is h.of_run.thread_is last new stop
      (subst (λ (l : List Event). IsResumed old l last new stop) h.ahead ends)
