-- A thread on its way from a state that no run vouches for.
use Rattle.std.proofs.Common.{◌≡◌, ℕ, zero, suc, ◌+◌, ◌-◌, ◌*◌, ◌<◌, ◌≤◌, List, Option, Some, None, refl, ap, sym, ◌∙◌, arith, subst}
use Rattle.std.proofs.Common.{◌++◌}
use Rattle.std.proofs.lemmas.List.{append_assoc}
use Rattle.sm_types.specs.declared.config.Config.{Config}
use Rattle.sm_types.specs.declared.shared_op.Event.{Event}
use Rattle.sm_types.specs.declared.stop.Stop.{Stop}
use Rattle.shared_region.specs.Ports.{ReplayEvents}
use Rattle.kernel_contexts.specs.State.{State}
use Rattle.kernel_contexts.specs.Call.{Goes}
use Rattle.kernel_contexts.specs.Turn.{turn_of}
use Rattle.kernel_contexts.specs.Run.{Reached, At, Ended, turned, after_turn, reach_from}
use Rattle.kernel_contexts.specs.Several.{GoesBy}
use Rattle.kernel_contexts.specs.Standing.{standing}
use Rattle.shared_region.specs.Tickets.{Refusals}
use Rattle.kernel_contexts.specs.Context.{TurnsOver}
use Rattle.kernel_contexts.specs.Loose.{loose_state, loose_config, loose_thread, loose_events, loose_stop, loose_made, loose_turn}
use Rattle.kernel_contexts.specs.Loose.{LooseTurns, IsSameLoose}
use Rattle.kernel_contexts.specs.declared.context.Turn.{Turn}
use Rattle.kernel_contexts.specs.declared.loose.Loose.{Loose}
use Rattle.lone_runner.specs.Parting.{parting_at, parting_when}
use Rattle.lone_runner.specs.Rest.{IsPartingFrom}
use Rattle.lone_runner.specs.Ticket.{whole_journal}
use Rattle.lone_runner.specs.Resumed.{HasLooseTicket, IsLooseAstray, IsResuming, IsResumed, resumed_at, loose_place, loose_next}
use Rattle.lone_runner.specs.declared.fault.AloneFault.{AloneFault}
use Rattle.lone_runner.proofs.Counted.{Counts, turn_counted}
use Rattle.lone_runner.proofs.Partings.{ends_well}
use Rattle.lone_runner.proofs.Shown.{none_yet}
use Rattle.lone_runner.proofs.Ways.{up_to}

-- how it parts goes by few numbers
pub parting_is : (count : ℕ) (s : State) (stop : Option Stop) (used : ℕ) (left : List Event)
    → parting_at count (standing s stop used left) ≡ parting_when count s.count stop left
parting_is count s None used left = refl
parting_is count s (Some stop) used left = refl

-- the same of a thread that goes on and one with other names for its options and its number
pub loose_turned : (config given : Config) (thread number : ℕ) (r s : Reached) → given ≡ config → number ≡ thread
    → turned given number r ≡ s → turned config thread r ≡ s
loose_turned config given thread number r s same is e =
    ap (λ (k : Config). turned k thread r) (sym same) ∙ ap (λ (n : ℕ). turned given n r) (sym is) ∙ e

-- a turn that goes on counts no less
went : (config : Config) (thread used : ℕ) (s t : State) → turn_of config thread used s ≡ Goes t → s.count ≤ t.count
went config thread used s t e = (subst (Counts s) e (turn_counted config thread used s)).least

-- there are fewer turns left
pub rest_turns_fall : (old mid new : Config) (before there after made : ℕ) → mid ≡ old → new ≡ mid → there ≡ before + 1
    → there ≤ 128 * mid.budget → after ≡ there + made → 128 * new.budget - after < 128 * old.budget - before
rest_turns_fall old mid new before there after made same still one few more =
    let first = ap (λ (k : Config). k.budget) same in
    let second = ap (λ (k : Config). k.budget) still in
    omega (arith, first, second, one, few, more)

-- the ticket is the thread's still
pub loose_held_still : (old new : Loose) (ticket : ReplayEvents) → HasLooseTicket old ticket → loose_thread new ≡ loose_thread old
    → HasLooseTicket new ticket
loose_held_still old new ticket h same = record { number = h.number ∙ sym same; fits = h.fits }

-- how it parts, by the count that was told
pub parted_at : (count : ℕ) (loose : Loose) (ticket : ReplayEvents) (stop : Option Stop) (made : ℕ) (o : Option AloneFault)
    → made ≡ (loose_state loose).count → parting_when count made stop ticket.ahead ≡ o
    → parting_at count (loose_place loose ticket stop) ≡ o
parted_at count loose ticket stop made o is h =
    parting_is count (loose_state loose) stop (loose_events loose) ticket.ahead
    ∙ ap (λ (n : ℕ). parting_when count n stop ticket.ahead) (sym is) ∙ h

-- one that had not stopped made its turn
pub loose_turned_over : (stop : Option Stop) (refusals : Refusals) (old new : Loose) (turn : Turn) → stop ≡ None
    → LooseTurns stop refusals old new turn
    → TurnsOver refusals (loose_turn old) (loose_state old) (loose_state new) (loose_made old new) (loose_stop new) turn
loose_turned_over None refusals old new turn e h = h
loose_turned_over (Some stop) refusals old new turn e h = cc

-- the events of a turn go over from those ahead to those that are answered
pub whole_stays : (made : List Event) (t u : ReplayEvents) → t.ahead ≡ made ++ u.ahead → u.answered ≡ t.answered ++ made
    → whole_journal u ≡ whole_journal t
whole_stays made t u ahead answered =
    ap (λ (l : List Event). l ++ u.ahead) answered
    ∙ append_assoc t.answered made u.ahead
    ∙ ap (λ (l : List Event). t.answered ++ l) (sym ahead)

module _ (from : Loose) (events : List Event) (count : ℕ) where
  unfoldable pub resume_begins : (ticket : ReplayEvents) → ticket.ahead ≡ events → (loose_state from).count ≤ count
      → IsResuming from events count from ticket
  unfolding reach_from
  resume_begins ticket all most =
      let at : resumed_at from events 0 ≡ loose_place from ticket None =
      ap (λ (l : List Event). At (loose_state from) (loose_events from) l) (sym all) in
      record {
        turns = 0;
        at = at;
        none = λ m l.
            let zero : m ≡ 0 = omega (arith, l) in
            ap (λ (n : ℕ). parting_at count (resumed_at from events n)) zero ∙ ap (parting_at count) at
            ∙ none_yet count (loose_state from) (loose_events from) ticket.ahead most;
      }

  next_of : (n : ℕ) (here there : Reached) → resumed_at from events n ≡ here → turned (loose_config from) (loose_thread from) here ≡ there
      → resumed_at from events (suc n) ≡ there
  unfolding reach_from
  next_of n here there at next = ap (turned (loose_config from) (loose_thread from)) at ∙ next

  module _ (old : Loose) (before : ReplayEvents) (same : IsSameLoose from old) (h : IsResuming from events count old before) where
    pub place_resumed : (r : Reached) → loose_next old before ≡ r → resumed_at from events (suc h.turns) ≡ r
    place_resumed r e =
        next_of h.turns (loose_place old before None) r h.at
        (loose_turned (loose_config from) (loose_config old) (loose_thread from) (loose_thread old) (loose_place old before None) r
        same.config same.thread e)

    pub resume_parts : (r : Reached) (fault : AloneFault) → loose_next old before ≡ r → parting_at count r ≡ Some fault
        → IsPartingFrom (loose_config from) (loose_thread from) (loose_state from) (loose_events from) events count fault
    resume_parts r fault e parts = record {
      turns = suc h.turns;
      parts = ap (parting_at count) (place_resumed r e) ∙ parts;
      first = λ m less. h.none m (omega (arith, less));
    }

    pub resume_strays : (fault : AloneFault) → IsLooseAstray old before fault
        → IsPartingFrom (loose_config from) (loose_thread from) (loose_state from) (loose_events from) events count fault
    resume_strays fault astray =
        resume_parts _ fault astray.strays (ap (λ (f : AloneFault). Some f) (sym astray.told))

    unfoldable pub resume_on : (new : Loose) (after : ReplayEvents) → loose_next old before ≡ loose_place new after None
        → parting_at count (loose_place new after None) ≡ None → IsResuming from events count new after
    resume_on new after e none = record {
      turns = suc h.turns;
      at = place_resumed (loose_place new after None) e;
      none = up_to (λ m. parting_at count (resumed_at from events m) ≡ None) h.turns h.none
          (ap (parting_at count) (place_resumed (loose_place new after None) e) ∙ none);
    }

    pub resume_ends : (new : Loose) (after : ReplayEvents) (stop : Stop) → loose_next old before ≡ loose_place new after (Some stop)
        → parting_at count (loose_place new after (Some stop)) ≡ None → IsResumed from events count new stop
    resume_ends new after stop e none =
        let end = ends_well count (loose_state new) stop (loose_events new) after.ahead none in
        record {
          run = record {
            turns = suc h.turns;
            used = loose_events new;
            ends = place_resumed (loose_place new after (Some stop)) e
                ∙ ap (λ (l : List Event). Ended (loose_state new) stop (loose_events new) l) end.1;
          };
          counts = end.0;
        }

  -- so many turns further on, which ask nothing
  pub several_at : (turns n used : ℕ) (left : List Event) (s t : State) → resumed_at from events turns ≡ At s used left
      → GoesBy (loose_config from) (loose_thread from) used n s t → resumed_at from events (turns + n) ≡ At t used left
  several_at turns zero used left s t at goes =
      let none : turns + 0 ≡ turns = omega arith in
      rw none (at ∙ ap (λ (u : State). At u used left) (sym goes))
  several_at turns (suc n) used left s t at goes =
      let more : turns + suc n ≡ suc (turns + n) = omega arith in
      rw more (next_of (turns + n) (At goes.0 used left) (At t used left)
      (several_at turns n used left s goes.0 at goes.1) (ap (after_turn goes.0 used left) goes.2))

  -- none of which parts, where the last does not pass the count
  pub several_quiet : (turns n used : ℕ) (left : List Event) (s t : State) → resumed_at from events turns ≡ At s used left
      → ((m : ℕ) → m ≤ turns → parting_at count (resumed_at from events m) ≡ None)
      → GoesBy (loose_config from) (loose_thread from) used n s t → t.count ≤ count
      → (m : ℕ) → m ≤ turns + n → parting_at count (resumed_at from events m) ≡ None
  several_quiet turns zero used left s t at none goes most = λ m l. none m (omega (arith, l))
  several_quiet turns (suc n) used left s t at none goes most =
      let more : turns + suc n ≡ suc (turns + n) = omega arith in
      let grown : goes.0.count ≤ t.count = went (loose_config from) (loose_thread from) used goes.0 t goes.2 in
      rw more (up_to (λ m. parting_at count (resumed_at from events m) ≡ None) (turns + n)
      (several_quiet turns n used left s goes.0 at none goes.1 (omega (arith, grown, most)))
      (ap (parting_at count) (sym (ap (resumed_at from events) more) ∙ several_at turns (suc n) used left s t at goes)
      ∙ none_yet count t used left most))

  unfoldable pub resume_goes_on : (old new : Loose) (ticket : ReplayEvents) (n : ℕ) → IsSameLoose from old
      → GoesBy (loose_config old) (loose_thread old) (loose_events old) n (loose_state old) (loose_state new)
      → loose_events new ≡ loose_events old → (loose_state new).count ≤ count → IsResuming from events count old ticket
      → IsResuming from events count new ticket
  resume_goes_on old new ticket n same goes quiet most h =
      let its : GoesBy (loose_config from) (loose_thread from) (loose_events old) n (loose_state old) (loose_state new) =
      subst (λ (k : ℕ). GoesBy (loose_config from) k (loose_events old) n (loose_state old) (loose_state new)) same.thread
      (subst (λ (k : Config). GoesBy k (loose_thread old) (loose_events old) n (loose_state old) (loose_state new)) same.config goes) in
      record {
        turns = h.turns + n;
        at = several_at h.turns n (loose_events old) ticket.ahead (loose_state old) (loose_state new) h.at its
            ∙ ap (λ (k : ℕ). At (loose_state new) k ticket.ahead) (sym quiet);
        none = several_quiet h.turns n (loose_events old) ticket.ahead (loose_state old) (loose_state new) h.at h.none its most;
      }
