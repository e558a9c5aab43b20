-- Where a thread stands on its recorded run, and where it comes from there.
use Rattle.std.proofs.Common.{◌≡◌, ◌≢◌, ℕ, ◌<◌, ◌≤◌, ◌^◌, List, Option, Some, None, ◌++◌, length, drop, ap, sym, ◌∙◌, subst, arith}
use Rattle.std.proofs.lemmas.List.{length-append}
use Rattle.sm_types.specs.declared.config.Config.{Config}
use Rattle.sm_types.specs.declared.shared_op.Event.{Event}
use Rattle.sm_types.specs.declared.stop.Stop.{Stop}
use Rattle.shared_region.specs.Ports.{ReplayEvents}
use Rattle.paged_memory.specs.Image.{Program}
use Rattle.kernel_contexts.specs.State.{State}
use Rattle.kernel_contexts.specs.Loose.{loose_state, loose_events, loose_stop}
use Rattle.kernel_contexts.specs.declared.loose.Loose.{Loose}
use Rattle.lone_runner.specs.Parting.{IsParting, state_at}
use Rattle.lone_runner.specs.Resumed.{HasLooseTicket, IsToResume, IsReached, IsPartingFromAll}
use Rattle.lone_runner.specs.Ticket.{whole_journal}
use Rattle.lone_runner.specs.declared.fault.AloneFault.{AloneFault}
use Rattle.sme_debugger.specs.Recording.{Recording, Shows, recorded}
use Rattle.sme_debugger.specs.Standing.{IsPlace, IsStanding, IsShowing, IsOnRun, AreOnRun}
use Rattle.sme_debugger.specs.Replayed.{recording_in, IsOnTheWay}
use Rattle.sme_debugger.specs.declared.replay.Replay.{Replay}
use Rattle.sme_debugger.proofs.Joined.{standing, parts_as}

-- ---- the run is the same

-- over a ticket that has the same events
pub same_recording : (program : Program) (config : Config) (thread last : ℕ) (before after : ReplayEvents)
    → whole_journal after ≡ whole_journal before
    → recorded program config thread after last ≡ recorded program config thread before last
same_recording program config thread last before after same =
    λ i. record { program = program; config = config; thread = thread; journal = same i; last = last }

module _ (s : Replay) (after : ReplayEvents) (same : whole_journal after ≡ whole_journal s.ticket) where
  abbrev pub rerecorded : Recording
  rerecorded = recorded s.image s.config s.thread after s.last

  pub same_run : rerecorded ≡ recording_in s
  same_run = same_recording s.image s.config s.thread s.last s.ticket after same

  pub few_still : length (whole_journal after) < 2 ^ 32
  few_still = subst (λ (l : List Event). length l < 2 ^ 32) (sym same) s.few

  pub ends_still : (fault : AloneFault) → IsParting s.image s.config s.thread (whole_journal after) s.last fault → ⊥
  ends_still fault parts = s.ends fault (subst (λ (l : List Event). IsParting s.image s.config s.thread l s.last fault) same parts)

  pub start_still : IsOnRun rerecorded s.start
  start_still = subst (λ (r : Recording). IsOnRun r s.start) (sym same_run) s.start_on_run

  pub later_still : AreOnRun rerecorded s.later.items
  later_still = subst (λ (r : Recording). AreOnRun r s.later.items) (sym same_run) s.later_on_run

  pub shown_still : (count : ℕ) (loose : Loose) (stop : Option Stop) → IsStanding (recording_in s) count loose stop after
      → IsShowing rerecorded (Some count) loose stop after
  shown_still count loose stop stands = λ n is.
      let here : count ≡ n = cc in
      subst (λ m. IsStanding rerecorded m loose stop after) here
      (subst (λ (r : Recording). IsStanding r count loose stop after) (sym same_run) stands)

pub none_shown : (r : Recording) (loose : Loose) (stop : Option Stop) (ticket : ReplayEvents) → IsShowing r None loose stop ticket
none_shown r loose stop ticket = λ n is. absurd (cc)

-- ---- forwards

short_end : (xs ys : List Event) → length (xs ++ ys) < 2 ^ 32 → length ys < 2 ^ 32
short_end xs ys few = omega (arith, few, length-append xs ys)

pub held_in : (s : Replay) → HasLooseTicket s.loose s.ticket
held_in s = record {
  number = s.of_run.number ∙ sym s.of_run.thread_is;
  fits = short_end s.ticket.answered s.ticket.ahead s.few;
}

module _ (s : Replay) (count : ℕ) (way : IsOnTheWay s count) (apart : s.shown ≢ Some count) where
  less : way.shown < count
  less =
      let other : way.shown ≢ count = λ same. apart (way.is ∙ ap (λ n. Some n) same) in
      let most = way.most in omega (arith, other, most)

  stands : IsStanding (recording_in s) way.shown s.loose s.stop s.ticket
  stands = s.shows way.shown way.is

  place : IsPlace (recording_in s) way.shown (loose_state s.loose) (loose_events s.loose)
  place = stands.goes (way.runs less)

  ahead : s.ticket.ahead ≡ drop (loose_events s.loose) (whole_journal s.ticket)
  ahead = stands.ahead (way.runs less)

  pub to_resume : IsToResume s.loose s.ticket count
  to_resume = record {
    held = held_in s;
    runs = stands.stop_is ∙ way.runs less;
    most = let counts = place.counts in let under = less in omega (arith, counts, under);
  }

  pub comes_to : (new : Loose) (stop : Option Stop) (ticket : ReplayEvents) → IsReached s.loose s.ticket.ahead count new stop ticket
      → loose_stop new ≡ stop → IsStanding (recording_in s) count new stop ticket
  comes_to new stop ticket q is =
      standing (recording_in s) way.shown s.loose place s.of_run.config_is s.of_run.thread_is count new stop ticket way.most
      (subst (λ (l : List Event). IsReached s.loose l count new stop ticket) ahead q) is

  pub never_parts : (fault : AloneFault) → count ≤ s.last → IsPartingFromAll s.loose s.ticket.ahead count fault → ⊥
  never_parts fault within parts =
      let most = way.most in
      s.ends fault
      (parts_as (recording_in s) way.shown s.loose place s.of_run.config_is s.of_run.thread_is s.last fault
      (omega (arith, most, within))
      (subst (λ (l : List Event). IsPartingFromAll s.loose l count fault) ahead parts s.last within))

-- ---- from a kept state

pub place_shows : (r : Recording) (n : ℕ) (s : State) (used : ℕ) → IsPlace r n s used → Shows r n s
place_shows r n s used p = record { turns = s.turns; reached = ap state_at p.at; counts = p.counts; first = p.first }

pub stands_at : (r : Recording) (n : ℕ) (loose : Loose) (used : ℕ) (ticket : ReplayEvents) → IsPlace r n (loose_state loose) used
    → loose_events loose ≡ used → loose_stop loose ≡ None → ticket.ahead ≡ drop used r.journal → IsStanding r n loose None ticket
stands_at r n loose used ticket p events runs ahead = record {
  shows = place_shows r n (loose_state loose) used p;
  stop_is = runs;
  goes = λ _. subst (λ m. IsPlace r n (loose_state loose) m) (sym events) p;
  ahead = λ _. ahead ∙ ap (λ m. drop m r.journal) (sym events);
}
