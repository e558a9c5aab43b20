-- A thread that goes on from a place of its recorded run comes to a count as the run does.
use Rattle.std.proofs.Common.{◌≡◌, ◌≢◌, ℕ, ◌+◌, ◌-◌, ◌<◌, ◌≤◌, List, Option, Some, None, inl, inr, drop, ap, sym, ◌∙◌, subst, arith}
use Rattle.plain_lemmas.proofs.Numbers.{cases_lt_eq_gt}
use Rattle.sm_types.specs.declared.config.Config.{Config}
use Rattle.sm_types.specs.declared.shared_op.Event.{Event}
use Rattle.sm_types.specs.declared.stop.Stop.{Stop}
use Rattle.shared_region.specs.Ports.{ReplayEvents}
use Rattle.kernel_contexts.specs.State.{State}
use Rattle.kernel_contexts.specs.Run.{Reached, At, reach_from}
use Rattle.kernel_contexts.specs.Loose.{loose_state, loose_config, loose_thread, loose_events, loose_stop}
use Rattle.kernel_contexts.specs.declared.loose.Loose.{Loose}
use Rattle.lone_runner.specs.Parting.{EndsAt, IsParting, parting_at, state_at}
use Rattle.lone_runner.specs.Rest.{IsPartingFrom, IsRestOfRun}
use Rattle.lone_runner.specs.Resumed.{IsReached, IsResumed, IsPartingFromAll, resumed_at, loose_place}
use Rattle.lone_runner.specs.declared.fault.AloneFault.{AloneFault}
use Rattle.lone_runner.specs.declared.fault.AloneFault.TheVariants.{EndsEarly}
use Rattle.lone_runner.proofs.Partings.{count_later}
use Rattle.lone_runner.proofs.Shown.{early, state_standing}
use Rattle.lone_runner.proofs.Later.{none_later}
use Rattle.lone_runner.proofs.Few.{turns_told}
use Rattle.lone_runner.proofs.Rests.{join, rest_is_rest}
use Rattle.kept_states.specs.Kept.{IsKept, kept_count, kept_events}
use Rattle.kept_states.specs.declared.kept.KeptState.{KeptState}
use Rattle.kept_states.proofs.OneKept.{one}
use Rattle.sme_debugger.specs.Recording.{Recording, Shows, reached_by, counts_by}
use Rattle.sme_debugger.specs.Standing.{IsPlace, IsStanding, IsOnRun}
use Rattle.sme_debugger.proofs.Used.{left_at}

module _ (r : Recording) (n : ℕ) (from : Loose) (p : IsPlace r n (loose_state from) (loose_events from))
    (config : loose_config from ≡ r.config) (thread : loose_thread from ≡ r.thread) where
  abbrev begun : ℕ
  begun = (loose_state from).turns

  abbrev left : List Event
  left = drop (loose_events from) r.journal

  -- so many turns further on
  there : (m : ℕ) → reached_by r (begun + m) ≡ resumed_at from left m
  there m =
      join r.program r.config r.thread r.journal begun (loose_state from) (loose_events from) left p.at m
      ∙ (λ i. reach_from (sym config i) (sym thread i) (loose_state from) (loose_events from) left m)

  counts_there : (m : ℕ) → counts_by r (begun + m) ≡ (state_at (resumed_at from left m)).count
  counts_there m = ap (λ (x : Reached). (state_at x).count) (there m)

  here : counts_by r begun ≡ n
  here = ap (λ (x : Reached). (state_at x).count) p.at ∙ p.counts

  -- ---- to a count

  module _ (count : ℕ) (loose : Loose) (stop : Option Stop) (ticket : ReplayEvents) (most : n ≤ count)
      (q : IsReached from left count loose stop ticket) where
    before : (m : ℕ) → m < begun → counts_by r m ≢ count
    before m l = elim (cases_lt_eq_gt n count) [
      | inl less ↦
          let grown = count_later r.program r.config r.thread r.journal count m begun (omega (arith, l)) in
          let at = here in λ same. omega (arith, grown, at, less, same)
      | inr (inl is) ↦ λ same. p.first m l (same ∙ sym is)
      | inr (inr more) ↦ absurd (omega (arith, more, most))
    ]

    after : (m : ℕ) → begun ≤ m → m < begun + q.turns → counts_by r m ≢ count
    after m l below =
        let further : begun + (m - begun) ≡ m = omega (arith, l) in
        let less = q.below (m - begun) (omega (arith, l, below)) in
        let is = counts_there (m - begun) in
        let same_place = ap (counts_by r) further in
        λ same. omega (arith, less, is, same_place, same)

    first : (m : ℕ) → m < begun + q.turns → counts_by r m ≢ count
    first m l = elim (cases_lt_eq_gt m begun) [
      | inl less ↦ before m less
      | inr (inl is) ↦ after m (omega (arith, is)) l
      | inr (inr more) ↦ after m (omega (arith, more)) l
    ]

    shows : Shows r count (loose_state loose)
    shows = record {
      turns = begun + q.turns;
      reached = ap state_at (there q.turns ∙ q.at) ∙ state_standing (loose_state loose) stop (loose_events loose) ticket.ahead;
      counts = q.counts;
      first = first;
    }

    at_last : stop ≡ None → reached_by r (begun + q.turns) ≡ At (loose_state loose) (loose_events loose) ticket.ahead
    at_last none = there q.turns ∙ q.at ∙ ap (loose_place loose ticket) none

    told : stop ≡ None → (loose_state loose).turns ≡ begun + q.turns
    told none =
        turns_told r.program r.config r.thread r.journal (begun + q.turns) (loose_state loose) (loose_events loose) ticket.ahead
        (at_last none)

    ahead : stop ≡ None → ticket.ahead ≡ drop (loose_events loose) r.journal
    ahead none =
        (left_at r.program r.config r.thread r.journal (begun + q.turns) (loose_state loose) (loose_events loose) ticket.ahead
        (at_last none)).are

    place : stop ≡ None → IsPlace r count (loose_state loose) (loose_events loose)
    place none = record {
      at = ap (reached_by r) (told none) ∙ at_last none ∙ ap (At (loose_state loose) (loose_events loose)) (ahead none);
      counts = q.counts;
      first = λ m l. first m (subst (λ k. m < k) (told none) l);
    }

    pub standing : loose_stop loose ≡ stop → IsStanding r count loose stop ticket
    standing is = record { shows = shows; stop_is = is; goes = place; ahead = ahead }

  -- ---- where it parts

  pub parts_as : (last : ℕ) (fault : AloneFault) → n ≤ last
      → IsPartingFrom (loose_config from) (loose_thread from) (loose_state from) (loose_events from) left last fault
      → IsParting r.program r.config r.thread r.journal last fault
  parts_as last fault most h =
      (rest_is_rest r.program r.config r.thread r.journal begun (loose_state from) (loose_events from) left p.at).parted last fault
      (let counts = p.counts in omega (arith, counts, most))
      (subst (λ t. IsPartingFrom r.config t (loose_state from) (loose_events from) left last fault) thread
      (subst (λ (k : Config). IsPartingFrom k (loose_thread from) (loose_state from) (loose_events from) left last fault) config h))

  pub ends_as : (last : ℕ) (loose : Loose) (stop : Stop) → IsResumed from left last loose stop
      → EndsAt r.program r.config r.thread r.journal last
  ends_as last loose stop h = record {
    state = loose_state loose;
    stop = stop;
    run = (rest_is_rest r.program r.config r.thread r.journal begun (loose_state from) (loose_events from) left p.at).whole
        (loose_state loose) stop
        (subst (λ t. IsRestOfRun r.config t (loose_state from) (loose_events from) left (loose_state loose) stop) thread
        (subst (λ (k : Config). IsRestOfRun k (loose_thread from) (loose_state from) (loose_events from) left (loose_state loose) stop)
        config
        h.run));
    counts = h.counts;
  }

-- one that ended its run when so many instructions were counted parts from each later count
pub ended_before : (from : Loose) (events : List Event) (count last : ℕ) (loose : Loose) (stop : Stop) (ticket : ReplayEvents)
    → IsReached from events count loose (Some stop) ticket → count < last → IsPartingFromAll from events last (EndsEarly count stop)
ended_before from events count last loose stop ticket h less = λ end within.
    let counts = h.counts in
    let early_here : parting_at end (loose_place loose ticket (Some stop)) ≡ Some (EndsEarly (loose_state loose).count stop) =
    early end (loose_state loose) stop (loose_events loose) ticket.ahead (omega (arith, counts, less, within)) in
    record {
      turns = h.turns;
      parts = ap (parting_at end) h.at ∙ early_here ∙ ap (λ k. Some (EndsEarly k stop)) counts;
      first = λ m l. none_later count end (resumed_at from events m) (omega (arith, less, within)) (h.none m l) (h.below m l);
    }

-- a state of the run is kept
pub kept_on_run : (r : Recording) (n used : ℕ) (s : State) (k : KeptState) → IsPlace r n s used → IsKept r.config r.thread used s k
    → IsOnRun r k
kept_on_run r n used s k p h =
    let counts : kept_count k ≡ n = sym h.keeps.kernel.count ∙ p.counts in
    let left = left_at r.program r.config r.thread r.journal s.turns s used (drop used r.journal) p.at in
    let events = h.events_are in
    record {
      config_is = h.config_is;
      thread_is = h.thread_is;
      few = omega (arith, left.within, events);
      place = λ t keeps.
          subst (λ (u : State). IsPlace r (kept_count k) u (kept_events k)) (one k s t h.keeps keeps)
          (subst (λ m. IsPlace r m s (kept_events k)) (sym counts) (subst (λ m. IsPlace r n s m) (sym events) p));
    }
