-- A thread that goes on several turns from a place of its recorded run, each of which counts an instruction.
use Rattle.std.proofs.Common.{◌≡◌, ◌≢◌, ℕ, zero, suc, ◌+◌, ◌-◌, ◌<◌, ◌≤◌, ◌==◌, false, List, drop, inl, inr, eq-eqb}
use Rattle.std.proofs.Common.{Option, Some, None, ap, sym, ◌∙◌, subst, arith}
use Rattle.std.proofs.lemmas.Bool.{both_ways}
use Rattle.plain_lemmas.proofs.Numbers.{cases_lt_eq_gt}
use Rattle.sm_types.specs.declared.config.Config.{Config}
use Rattle.sm_types.specs.declared.shared_op.Event.{Event}
use Rattle.sm_types.specs.declared.stop.Stop.{Stop}
use Rattle.machine_step.specs.declared.several.Made.{Made}
use Rattle.kernel_contexts.specs.Advance.{AdvancesSeveralLoose}
use Rattle.kernel_contexts.specs.Loose.{loose_state, loose_thread, loose_events}
use Rattle.kernel_contexts.specs.declared.loose.Loose.{Loose}
use Rattle.kernel_contexts.specs.State.{State}
use Rattle.kernel_contexts.specs.Call.{Goes}
use Rattle.kernel_contexts.specs.Run.{Reached, At}
use Rattle.kernel_contexts.specs.Several.{GoesApart, halts_before}
use Rattle.kernel_contexts.specs.Turn.{turn_of}
use Rattle.kernel_contexts.proofs.Fetched.{fetched, unhalted}
use Rattle.kernel_contexts.proofs.Several.{halts_let_go}
use Rattle.lone_runner.specs.Parting.{state_at}
use Rattle.lone_runner.proofs.Partings.{count_later}
use Rattle.lone_runner.proofs.Several.{gone_at}
use Rattle.lone_runner.proofs.Several.{counts_by as counts_few}
use Rattle.sme_debugger.specs.AtAddress.{is_at}
use Rattle.sme_debugger.specs.Recording.{Recording, Shows, reached_by, counts_by}
use Rattle.sme_debugger.specs.Standing.{IsPlace, IsStanding, IsShowing}
use Rattle.sme_debugger.specs.Answers.{NoneBetween}
use Rattle.sme_debugger.specs.Replayed.{recording_in, NoneFrom}
use Rattle.sme_debugger.specs.declared.replay.Replay.{Replay}
use Rattle.sme_debugger.proofs.Standings.{place_shows, stands_at}
use Rattle.sme_debugger.proofs.Recorded.{one_state}

module _ (r : Recording) (count used : ℕ) (s : State) (p : IsPlace r count s used) (address : ℕ) where
  abbrev left : List Event
  left = drop used r.journal

  -- so many turns, none of which begins at the address
  abbrev GoesTo : ℕ → State → Type 0
  GoesTo n t = GoesApart (is_at address) false r.config r.thread used n s t

  pub ahead_at : (n : ℕ) (t : State) → GoesTo n t → reached_by r (s.turns + n) ≡ At t used left
  ahead_at n t goes =
      gone_at r.program r.config r.thread r.journal 0 s.turns n used left s t p.at
      (halts_let_go (is_at address) false r.config r.thread used n s t goes)

  here : counts_by r s.turns ≡ count
  here = ap (λ (x : Reached). (state_at x).count) p.at ∙ p.counts

  counts_at : (n : ℕ) (t : State) → GoesTo n t → counts_by r (s.turns + n) ≡ t.count
  counts_at n t goes = ap (λ (x : Reached). (state_at x).count) (ahead_at n t goes)

  few : (n : ℕ) → counts_by r (s.turns + n) ≤ count + n
  few n =
      let most : counts_by r (s.turns + n) ≤ counts_by r s.turns + n = counts_few r.program r.config r.thread r.journal 0 s.turns n in
      let at = here in omega (arith, most, at)

  -- each of them counts an instruction, so that no turn before the last comes to its count
  first : (n m : ℕ) → m < s.turns + n → counts_by r m ≢ count + n
  first n m l = elim (cases_lt_eq_gt m s.turns) [
    | inl less ↦
        let grown : counts_by r m ≤ counts_by r s.turns =
        count_later r.program r.config r.thread r.journal 0 m s.turns (omega (arith, less)) in
        let at = here in
        let other = p.first m less in λ same. omega (arith, grown, at, other, same)
    | inr (inl is) ↦
        let at = here in
        let same_place = ap (counts_by r) is in λ same. omega (arith, at, same_place, same, l, is)
    | inr (inr more) ↦
        let further : s.turns + (m - s.turns) ≡ m = omega (arith, more) in
        let most = few (m - s.turns) in
        let same_place = ap (counts_by r) further in λ same. omega (arith, most, same_place, same, l, more)
  ]

  pub shows_at : (n : ℕ) (t : State) → GoesTo n t → t.count ≡ count + n → Shows r (count + n) t
  shows_at n t goes counts = record { turns = s.turns + n; reached = ap state_at (ahead_at n t goes); counts = counts; first = first n }

  pub place_at : (n : ℕ) (t : State) → GoesTo n t → t.count ≡ count + n → t.turns ≡ s.turns + n → IsPlace r (count + n) t used
  place_at n t goes counts turns = record {
    at = ap (reached_by r) turns ∙ ahead_at n t goes;
    counts = counts;
    first = λ m l. first n m (subst (λ k. m < k) turns l);
  }

  -- where the last but one is
  counts_before : (n : ℕ) (t : State) (goes : GoesTo (suc n) t) → t.count ≡ count + suc n → goes.0.count ≡ count + n
  counts_before n t goes counts =
      let one : counts_by r (s.turns + n + 1) ≤ counts_by r (s.turns + n) + 1 =
      counts_few r.program r.config r.thread r.journal 0 (s.turns + n) 1 in
      let before = counts_at n goes.0 goes.1 in
      let next : s.turns + n + 1 ≡ s.turns + suc n = omega arith in
      let after : counts_by r (s.turns + n + 1) ≡ t.count = ap (counts_by r) next ∙ counts_at (suc n) t goes in
      let most = few n in omega (arith, one, before, after, most, counts)

  away : (u t : State) → turn_of r.config r.thread used u ≡ Goes t → t.count ≡ suc u.count
      → halts_before (is_at address) u ≡ false → u.core.scalars.pc ≢ address
  away u t turn one h = λ there.
      let word = fetched r.config r.thread used u t turn one in
      both_ways (u.core.scalars.pc == address) (unhalted (is_at address) u word.0 word.1 h) (eq-eqb u.core.scalars.pc address there)

  pub none_on_the_way : (n : ℕ) (t : State) → GoesTo n t → t.count ≡ count + n
      → (m : ℕ) (u : State) → count ≤ m → m < count + n → Shows r m u → u.core.scalars.pc ≢ address
  none_on_the_way zero t goes counts m u low high shows = absurd (omega (arith, low, high))
  none_on_the_way (suc n) t goes counts m u low high shows = elim (cases_lt_eq_gt m (count + n)) [
    | inl less ↦ none_on_the_way n goes.0 goes.1 (counts_before n t goes counts) m u low less shows
    | inr (inl same) ↦
        let here_shown : Shows r (count + n) u = subst (λ k. Shows r k u) same shows in
        let is = one_state r (count + n) u goes.0 here_shown (shows_at n goes.0 goes.1 (counts_before n t goes counts)) in
        let before = counts_before n t goes counts in
        subst (λ (v : State). v.core.scalars.pc ≢ address) (sym is)
        (away goes.0 t goes.2 (omega (arith, before, counts)) goes.4)
    | inr (inr more) ↦ absurd (omega (arith, more, high))
  ]

-- ---- of a replay

module _ (s : Replay) (count address most : ℕ) (new : Loose) (end : Made) (shown : s.shown ≡ Some count) (none : s.stop ≡ None)
    (e : AdvancesSeveralLoose (is_at address) most s.loose new end) where
  abbrev r : Recording
  r = recording_in s

  stands : IsStanding r count s.loose s.stop s.ticket
  stands = s.shows count shown

  place : IsPlace r count (loose_state s.loose) (loose_events s.loose)
  place = stands.goes none

  goes : GoesApart (is_at address) false r.config r.thread (loose_events s.loose) end.count (loose_state s.loose) (loose_state new)
  goes =
      subst (λ k. GoesApart (is_at address) false r.config k (loose_events s.loose) end.count (loose_state s.loose) (loose_state new))
      s.of_run.thread_is
      (subst (λ (k : Config).
      GoesApart (is_at address) false k (loose_thread s.loose) (loose_events s.loose) end.count (loose_state s.loose) (loose_state new))
      s.of_run.config_is e.turns)

  counts : (loose_state new).count ≡ count + end.count
  counts = let counted = e.count in let at = place.counts in omega (arith, counted, at)

  there : IsPlace r (count + end.count) (loose_state new) (loose_events s.loose)
  there = place_at r count (loose_events s.loose) (loose_state s.loose) place address end.count (loose_state new) goes counts e.made

  pub shows_ahead : Shows r (count + end.count) (loose_state new)
  shows_ahead = place_shows r (count + end.count) (loose_state new) (loose_events s.loose) there

  pub none_ahead : NoneFrom r count (count + end.count) address
  none_ahead =
      none_on_the_way r count (loose_events s.loose) (loose_state s.loose) place address end.count (loose_state new) goes counts

  pub stands_ahead : IsShowing r (Some (count + end.count)) new s.stop s.ticket
  stands_ahead = λ n is.
      let same : count + end.count ≡ n = cc in
      subst (λ m. IsStanding r m new s.stop s.ticket) same
      (subst (λ (o : Option Stop). IsStanding r (count + end.count) new o s.ticket) (sym none)
      (stands_at r (count + end.count) new (loose_events s.loose) s.ticket there e.events e.stop (stands.ahead none)))

-- one that stands already
pub none_yet : (r : Recording) (count address : ℕ) → NoneFrom r count count address
none_yet r count address = λ n s low high. absurd (omega (arith, low, high))

-- so there is none between
pub none_so_far : (r : Recording) (above count below address : ℕ) → NoneBetween r above count address → NoneFrom r count below address
    → NoneBetween r above below address
none_so_far r above count below address before ahead = λ n s over under shows. elim (cases_lt_eq_gt n count) [
  | inl less ↦ before n s over less shows
  | inr (inl same) ↦ ahead n s (omega (arith, same)) under shows
  | inr (inr more) ↦ ahead n s (omega (arith, more)) under shows
]
