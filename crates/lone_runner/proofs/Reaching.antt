-- A thread that comes from a state that no run vouches for to a count of instructions.
use Rattle.std.proofs.Common.{◌≡◌, ℕ, zero, suc, ◌+◌, ◌-◌, ◌<◌, ◌≤◌, List, Some, None, inl, inr, refl, ap, sym, ◌∙◌, arith}
use Rattle.plain_lemmas.proofs.Numbers.{cases_lt_eq_gt}
use Rattle.sm_types.specs.declared.shared_op.Event.{Event}
use Rattle.sm_types.specs.declared.stop.Stop.{Stop}
use Rattle.shared_region.specs.Ports.{ReplayEvents}
use Rattle.kernel_contexts.specs.Run.{Reached, turned, reach_from}
use Rattle.kernel_contexts.specs.Several.{GoesBy}
use Rattle.kernel_contexts.specs.Loose.{loose_state, loose_config, loose_thread, loose_events, IsSameLoose}
use Rattle.kernel_contexts.specs.declared.loose.Loose.{Loose}
use Rattle.lone_runner.specs.Parting.{parting_at, state_at}
use Rattle.lone_runner.specs.Resumed.{IsComing, IsReached, IsLooseAstray, IsPartingFromAll, resumed_at, loose_place, loose_next}
use Rattle.lone_runner.specs.declared.fault.AloneFault.{AloneFault}
use Rattle.lone_runner.specs.declared.fault.AloneFault.TheVariants.{EndsEarly}
use Rattle.lone_runner.proofs.Places.{counts_next}
use Rattle.lone_runner.proofs.Shown.{none_yet, early}
use Rattle.lone_runner.proofs.Later.{parts_later, none_later}
use Rattle.lone_runner.proofs.Resumes.{resume_begins, resume_on, resume_goes_on, place_resumed}

module _ (from : Loose) (events : List Event) (count : ℕ) where
  abbrev at : ℕ → Reached
  at n = resumed_at from events n

  abbrev counted_at : ℕ → ℕ
  counted_at n = (state_at (at n)).count

  step : (n : ℕ) → at (suc n) ≡ turned (loose_config from) (loose_thread from) (at n)
  unfolding reach_from
  step n = refl

  -- each turn counts one instruction at most
  one_most : (n : ℕ) → counted_at (suc n) ≤ counted_at n + 1
  one_most n = (counts_next (loose_config from) (loose_thread from) at step n).most

  few_more : (n k : ℕ) → counted_at (n + k) ≤ counted_at n + k
  few_more n zero = let none : n + 0 ≡ n = omega arith in rw none (omega arith)
  few_more n (suc k) =
      let more : n + suc k ≡ suc (n + k) = omega arith in
      let one = one_most (n + k) in
      let before = few_more n k in rw more (omega (arith, one, before))

  pub comes_from : (ticket : ReplayEvents) → ticket.ahead ≡ events → (loose_state from).count ≤ count
      → IsComing from events count from ticket
  unfolding resume_begins
  comes_from ticket all most =
      record { way = resume_begins from events count ticket all most; below = λ m l. absurd (omega (arith, l)); most = most }

  -- at the count, before the next turn
  pub reached_here : (loose : Loose) (ticket : ReplayEvents) → IsComing from events count loose ticket → count ≤ (loose_state loose).count
      → IsReached from events count loose None ticket
  reached_here loose ticket h least =
      let most = h.most in
      record {
        turns = h.way.turns;
        at = h.way.at;
        counts = omega (arith, most, least);
        below = h.below;
        none = λ m l. h.way.none m (omega (arith, l));
      }

  module _ (old : Loose) (before : ReplayEvents) (same : IsSameLoose from old) (h : IsComing from events count old before)
      (less : (loose_state old).count < count) where
    here : counted_at h.way.turns ≡ (loose_state old).count
    here = ap (λ (r : Reached). (state_at r).count) h.way.at

    there : (r : Reached) → loose_next old before ≡ r → counted_at (suc h.way.turns) ≡ (state_at r).count
    there r e = ap (λ (r : Reached). (state_at r).count) (place_resumed from events count old before same h.way r e)

    -- all turns so far were before the count
    so_far : (m : ℕ) → m < suc h.way.turns → counted_at m < count
    so_far m l = elim (cases_lt_eq_gt m h.way.turns) [
      | inl earlier ↦ h.below m earlier
      | inr (inl now) ↦ let same_count = ap counted_at now in omega (arith, same_count, here, less)
      | inr (inr later) ↦ absurd (omega (arith, l, later))
    ]

    most_next : (r : Reached) → loose_next old before ≡ r → (state_at r).count ≤ count
    most_next r e =
        let now = here in
        let next = there r e in
        let one = one_most h.way.turns in omega (arith, now, next, one, less)

    pub coming_on : (new : Loose) (after : ReplayEvents) → loose_next old before ≡ loose_place new after None
        → IsComing from events count new after
    unfolding resume_on
    coming_on new after e = record {
      way = resume_on from events count old before same h.way new after e
          (none_yet count (loose_state new) (loose_events new) after.ahead (most_next (loose_place new after None) e));
      below = so_far;
      most = most_next (loose_place new after None) e;
    }

    coming_parts : (r : Reached) (fault : AloneFault) → loose_next old before ≡ r → parting_at count r ≡ Some fault
        → (state_at r).count < count → IsPartingFromAll from events count fault
    coming_parts r fault e parts under = λ last within. record {
      turns = suc h.way.turns;
      parts = ap (parting_at last) (place_resumed from events count old before same h.way r e)
          ∙ parts_later count last fault r within parts under;
      first = λ m l. none_later count last (at m) within (h.way.none m (omega (arith, l))) (so_far m l);
    }

    pub coming_strays : (fault : AloneFault) → IsLooseAstray old before fault → IsPartingFromAll from events count fault
    coming_strays fault astray =
        coming_parts _ fault astray.strays (ap (λ (f : AloneFault). Some f) (sym astray.told)) less

    pub coming_ends : (new : Loose) (after : ReplayEvents) (stop : Stop) → loose_next old before ≡ loose_place new after (Some stop)
        → (loose_state new).count < count → IsPartingFromAll from events count (EndsEarly (loose_state new).count stop)
    coming_ends new after stop e under =
        coming_parts (loose_place new after (Some stop)) (EndsEarly (loose_state new).count stop) e
        (early count (loose_state new) stop (loose_events new) after.ahead under) under

    -- the turn that ended the run was the last one to the count
    pub reached_ended : (new : Loose) (after : ReplayEvents) (stop : Stop) → loose_next old before ≡ loose_place new after (Some stop)
        → count ≤ (loose_state new).count → IsReached from events count new (Some stop) after
    reached_ended new after stop e least =
        let most = most_next (loose_place new after (Some stop)) e in
        record {
          turns = suc h.way.turns;
          at = place_resumed from events count old before same h.way (loose_place new after (Some stop)) e;
          counts = omega (arith, most, least);
          below = so_far;
          none = λ m l. h.way.none m (omega (arith, l));
        }

  -- so many turns further on, each of which counts one instruction
  pub coming_goes_on : (old new : Loose) (ticket : ReplayEvents) (n : ℕ) → IsSameLoose from old
      → GoesBy (loose_config old) (loose_thread old) (loose_events old) n (loose_state old) (loose_state new)
      → loose_events new ≡ loose_events old → (loose_state new).count ≤ count → (loose_state new).count ≡ (loose_state old).count + n
      → IsComing from events count old ticket → IsComing from events count new ticket
  unfolding resume_goes_on
  coming_goes_on old new ticket n same goes quiet most counted h =
      let now : counted_at h.way.turns ≡ (loose_state old).count = ap (λ (r : Reached). (state_at r).count) h.way.at in
      record {
        way = resume_goes_on from events count old new ticket n same goes quiet most h.way;
        below = λ m l. elim (cases_lt_eq_gt m h.way.turns) [
          | inl less ↦ h.below m less
          | inr (inl this) ↦ let is = ap counted_at this in omega (arith, is, now, l, this, counted, most)
          | inr (inr later) ↦
              let further : h.way.turns + (m - h.way.turns) ≡ m = omega (arith, later) in
              let is = ap counted_at further in
              let few = few_more h.way.turns (m - h.way.turns) in
              omega (arith, is, few, now, l, later, counted, most)
        ];
        most = most;
      }
