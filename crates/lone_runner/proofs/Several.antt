-- Turns that go on, one after the other, and ask nothing: the run is on its way still, as far as the count.
use Rattle.std.proofs.Common.{◌≡◌, ℕ, zero, suc, ◌+◌, ◌-◌, ◌*◌, ◌^◌, ◌≤◌, ◌<◌, ◌++◌, true, cond, List, length, ap, sym, ◌∙◌, arith, subst}
use Rattle.std.proofs.Common.{Some, None, inl, inr}
use Rattle.std.specs.Prelude.{nat_lt}
use Rattle.std.proofs.lemmas.Bool.{cases_Bool}
use Rattle.std.proofs.lemmas.Bool.Decides.{nat_tests}
use Rattle.std.proofs.lemmas.Option.{none-some}
use Rattle.plain_lemmas.proofs.Numbers.{cases_lt_eq_gt}
use Rattle.sm_types.specs.declared.config.Config.{Config}
use Rattle.sm_types.specs.declared.shared_op.Event.{Event}
use Rattle.shared_region.specs.Ports.{ReplayEvents}
use Rattle.paged_memory.specs.Image.{Program}
use Rattle.kernel_contexts.specs.State.{State}
use Rattle.kernel_contexts.specs.Run.{Reached, At, after_turn, reach}
use Rattle.kernel_contexts.specs.Several.{GoesBy}
use Rattle.kernel_contexts.specs.Context.{state_of, config_of, thread_of, journal_of, is_home}
use Rattle.kernel_contexts.specs.declared.context.Context.{Context}
use Rattle.lone_runner.specs.Parting.{parting_at, state_at}
use Rattle.lone_runner.specs.Replayed.{HasTicket}
use Rattle.lone_runner.specs.Way.{IsOnItsWay, IsBefore}
use Rattle.lone_runner.specs.declared.fault.AloneFault.TheVariants.{GoesOn}
use Rattle.lone_runner.proofs.Partings.{reach_next, reach_counts, count_later}
use Rattle.lone_runner.proofs.Shown.{none_yet}
use Rattle.lone_runner.proofs.Ways.{up_to}

-- a thread that goes on and has not parted has not passed the count
pub not_passed : (count : ℕ) (s : State) (used : ℕ) (left : List Event) → parting_at count (At s used left) ≡ None → s.count ≤ count
not_passed count s used left none = elim (cases_Bool (nat_lt count s.count)) [
  | inl over ↦
      absurd (none-some (GoesOn count) (sym none ∙ ap (λ b. cond b (Some (GoesOn count)) None) over))
  | inr within ↦ grind (arith, nat_tests)
]

-- no more than are left up to the count
pub up_to_count : (before after count made told : ℕ) → before ≤ count → told ≡ before → after ≡ before + made → made ≤ count - told
    → after ≤ count
up_to_count before after count made told most is counted few = omega (arith, most, is, counted, few)

-- there are fewer turns left
pub turns_fall : (old mid new : Config) (before there after made : ℕ) → mid ≡ old → new ≡ mid → there ≡ before + 1
    → there ≤ 64 * mid.budget → after ≡ there + made → 64 * new.budget - after < 64 * old.budget - before
turns_fall old mid new before there after made same still one few more =
    let first = ap (λ (k : Config). k.budget) same in
    let second = ap (λ (k : Config). k.budget) still in
    omega (arith, first, second, one, few, more)

-- the ticket is the context's still
pub held_still : (old new : Context) (ticket : ReplayEvents) → HasTicket old ticket → is_home new ≡ true → thread_of new ≡ thread_of old
    → journal_of new ≡ journal_of old → HasTicket new ticket
held_still old new ticket h home same journal = record {
  home = home;
  number = h.number ∙ sym same;
  events = h.events ∙ sym journal;
  fits = subst (λ (l : List Event). length l + length ticket.ahead < 2 ^ 32) (sym journal) h.fits;
}

module _ (program : Program) (config : Config) (thread : ℕ) (journal : List Event) (count : ℕ) where
  abbrev reached : ℕ → Reached
  reached n = reach program config thread journal n

  abbrev counted_at : ℕ → ℕ
  counted_at n = (state_at (reached n)).count

  -- so many turns further on
  pub gone_at : (turns n used : ℕ) (left : List Event) (s t : State) → reached turns ≡ At s used left → GoesBy config thread used n s t
      → reached (turns + n) ≡ At t used left
  gone_at turns zero used left s t at goes =
      let none : turns + 0 ≡ turns = omega arith in
      rw none (at ∙ ap (λ (u : State). At u used left) (sym goes))
  gone_at turns (suc n) used left s t at goes =
      let more : turns + suc n ≡ suc (turns + n) = omega arith in
      rw more (reach_next program config thread journal (turns + n) (At goes.0 used left) (At t used left)
      (gone_at turns n used left s goes.0 at goes.1) (ap (after_turn goes.0 used left) goes.2))

  -- none of which parted, where the last did not pass the count
  pub gone_on : (turns n used : ℕ) (left : List Event) (s t : State) → reached turns ≡ At s used left
      → ((m : ℕ) → m ≤ turns → parting_at count (reached m) ≡ None) → GoesBy config thread used n s t → t.count ≤ count
      → (m : ℕ) → m ≤ turns + n → parting_at count (reached m) ≡ None
  gone_on turns zero used left s t at none goes most = λ m l. none m (omega (arith, l))
  gone_on turns (suc n) used left s t at none goes most =
      let more : turns + suc n ≡ suc (turns + n) = omega arith in
      let here = ap (λ (r : Reached). (state_at r).count) (gone_at turns n used left s goes.0 at goes.1) in
      let there = ap (λ (r : Reached). (state_at r).count) (gone_at turns (suc n) used left s t at goes) in
      let grown = count_later program config thread journal count (turns + n) (turns + suc n) (omega arith) in
      rw more (up_to (λ m. parting_at count (reached m) ≡ None) (turns + n)
      (gone_on turns n used left s goes.0 at none goes.1 (omega (arith, here, there, grown, most)))
      (ap (parting_at count) (sym (ap reached more) ∙ gone_at turns (suc n) used left s t at goes) ∙ none_yet count t used left most))

  -- each turn counts one instruction at most
  pub counts_by : (turns n : ℕ) → counted_at (turns + n) ≤ counted_at turns + n
  counts_by turns zero = let none : turns + 0 ≡ turns = omega arith in rw none (omega arith)
  counts_by turns (suc n) =
      let more : turns + suc n ≡ suc (turns + n) = omega arith in
      let one = reach_counts program config thread journal count (turns + n) in
      let before = counts_by turns n in
      rw more (omega (arith, one.most, before))

module _ (program : Program) (config : Config) (thread : ℕ) (journal : List Event) (count : ℕ) (old new : Context)
    (ticket : ReplayEvents) (same : config_of old ≡ config) (is : thread_of old ≡ thread) (n : ℕ)
    (goes : GoesBy (config_of old) (thread_of old) (length (journal_of old)) n (state_of old) (state_of new))
    (quiet : journal_of new ≡ journal_of old) (most : (state_of new).count ≤ count) where
  pub by_own : GoesBy config thread (length (journal_of old)) n (state_of old) (state_of new)
  by_own =
      subst (λ (k : ℕ). GoesBy config k (length (journal_of old)) n (state_of old) (state_of new)) is
      (subst (λ (k : Config). GoesBy k (thread_of old) (length (journal_of old)) n (state_of old) (state_of new)) same goes)

  unfoldable pub way_goes_on : IsOnItsWay program config thread journal count old ticket
      → IsOnItsWay program config thread journal count new ticket
  way_goes_on h = record {
    turns = h.turns + n;
    at = gone_at program config thread journal count h.turns n (length (journal_of old)) ticket.ahead (state_of old) (state_of new) h.at
        by_own
        ∙ ap (λ (l : List Event). At (state_of new) (length l) ticket.ahead) (sym quiet);
    whole = h.whole ∙ ap (λ (l : List Event). l ++ ticket.ahead) (sym quiet);
    none = gone_on program config thread journal count h.turns n (length (journal_of old)) ticket.ahead (state_of old) (state_of new) h.at
        h.none by_own most;
  }

  -- where each of them counted one instruction, all but the last were before the count
  pub before_goes_on : (state_of new).count ≡ (state_of old).count + n → IsBefore program config thread journal count old ticket
      → IsBefore program config thread journal count new ticket
  unfolding way_goes_on
  before_goes_on counted h =
      let at : counted_at program config thread journal count h.way.turns ≡ (state_of old).count =
      ap (λ (r : Reached). (state_at r).count) h.way.at in
      record {
        way = way_goes_on h.way;
        below = λ m l. elim (cases_lt_eq_gt m h.way.turns) [
          | inl less ↦ h.below m less
          | inr (inl here) ↦
              let now = ap (counted_at program config thread journal count) here in omega (arith, now, at, l, here, counted, most)
          | inr (inr later) ↦
              let further : h.way.turns + (m - h.way.turns) ≡ m = omega arith in
              let now = ap (counted_at program config thread journal count) further in
              let few = counts_by program config thread journal count h.way.turns (m - h.way.turns) in
              omega (arith, now, few, at, l, later, counted, most)
        ];
        most = most;
      }
