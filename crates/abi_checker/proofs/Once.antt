-- At most one thing is told of a run.
use Rattle.std.proofs.Common.{inl, inr, ◌≡◌, ℕ, zero, suc, ◌<◌, List, [], refl, ap, sym, ◌∙◌, arith, subst}
use Rattle.plain_lemmas.proofs.Numbers.{cases_lt_eq_gt}
use Rattle.sm_types.specs.declared.config.Config.{Config}
use Rattle.sm_types.specs.declared.shared_op.Event.{Event}
use Rattle.sm_types.specs.declared.stop.Stop.{Stop}
use Rattle.paged_memory.specs.Image.{Program}
use Rattle.kernel_contexts.specs.State.{State}
use Rattle.kernel_contexts.specs.Run.{Reached, At, Ended}
use Rattle.lone_runner.specs.Parting.{EndsAt}
use Rattle.abi_checker.specs.Numbers.{NumberOf}
use Rattle.abi_checker.specs.Faults.{HasReturned, IsOpen, IsFirstFault, order_of}
use Rattle.abi_checker.specs.Checked.{IsChecked, IsTold, states_of}
use Rattle.abi_checker.specs.declared.abi.Abi.{Abi}
use Rattle.abi_checker.specs.declared.abi.Abi.TheVariants.{Yes, No}
use Rattle.abi_checker.specs.declared.abi.AbiKind.{AbiKind}
use Rattle.abi_checker.specs.declared.abi.AbiKind.TheVariants.{NotDormant, NotLawful, TooDeep}

pub one_number : (P : ℕ → Type 0) (n a b : ℕ) → NumberOf P n a → NumberOf P n b → a ≡ b
one_number P zero a b h k = h ∙ sym k
one_number P (suc n) a b (inl h) (inl k) =
    h.3 ∙ ap (λ i. suc i) (one_number P n h.1 k.1 h.2 k.2) ∙ sym k.3
one_number P (suc n) a b (inl h) (inr k) = absurd (k.0 h.0)
one_number P (suc n) a b (inr h) (inl k) = absurd (h.0 k.0)
one_number P (suc n) a b (inr h) (inr k) = one_number P n a b h.1 k.1

module _ (run : ℕ → State) where
  one_kind : (a b : AbiKind) → order_of run a ≡ order_of run b → a ≡ b
  one_kind NotDormant NotDormant e = refl
  one_kind NotDormant NotLawful e = absurd (omega (arith, e))
  one_kind NotDormant TooDeep e = absurd (omega (arith, e))
  one_kind NotLawful NotDormant e = absurd (omega (arith, e))
  one_kind NotLawful NotLawful e = refl
  one_kind NotLawful TooDeep e = absurd (omega (arith, e))
  one_kind TooDeep NotDormant e = absurd (omega (arith, e))
  one_kind TooDeep NotLawful e = absurd (omega (arith, e))
  one_kind TooDeep TooDeep e = refl

  one_place : (m n : ℕ) (a b : AbiKind) → IsFirstFault run m a → IsFirstFault run n b → m ≡ n
  one_place m n a b h k = elim (cases_lt_eq_gt m n) [
    | inl less ↦ absurd (k.earlier m a less h.fault)
    | inr (inl same) ↦ same
    | inr (inr more) ↦ absurd (h.earlier n b more k.fault)
  ]

  one_first : (n : ℕ) (a b : AbiKind) → IsFirstFault run n a → IsFirstFault run n b → a ≡ b
  one_first n a b h k = elim (cases_lt_eq_gt (order_of run a) (order_of run b)) [
    | inl less ↦ absurd (k.sooner a less h.fault)
    | inr (inl same) ↦ one_kind a b same
    | inr (inr more) ↦ absurd (h.sooner b more k.fault)
  ]

  one_told : (n : ℕ) (a b : Abi) → IsTold run n a → IsTold run n b → a ≡ b
  one_told n (Yes calls left) (Yes others rest) h k =
      ap (λ i. Yes i left) (one_number (HasReturned run n) (suc n) calls others h.back k.back)
      ∙ ap (Yes others) (one_number (IsOpen run n) (suc n) left rest h.out k.out)
  one_told n (Yes calls left) (No count pc kind) h k = absurd (h.none k.at kind k.within k.first.fault)
  one_told n (No count pc kind) (Yes calls left) h k = absurd (k.none h.at kind h.within h.first.fault)
  one_told n (No count pc kind) (No others place other) h k =
      let e = one_place h.at k.at kind other h.first k.first in
      let same : kind ≡ other =
      one_first k.at kind other (subst (λ i. IsFirstFault run i kind) e h.first) k.first in
      ap (λ i. No i pc kind) (h.counts ∙ ap (λ i. (run i).count) e ∙ sym k.counts)
      ∙ ap (λ i. No others i kind) (h.place ∙ ap (λ i. (run i).core.scalars.pc) e ∙ sym k.place)
      ∙ ap (No others place) same

not_both : (s t : State) (stop : Stop) (used done : ℕ) (left : List Event)
    → ◌≡◌ {A = Reached} (Ended s stop used []) (At t done left) → ⊥
not_both s t stop used done left e = cc

module _ (program : Program) (config : Config) (thread : ℕ) (journal : List Event) (count : ℕ) where
  later : (a b : Abi) (h : IsChecked program config thread journal count a)
      (k : IsChecked program config thread journal count b) → h.turns < k.turns → ⊥
  later a b h k less =
      let on = k.first h.turns less in
      not_both h.state on.0 h.stop h.used on.1 on.2 (sym h.ends ∙ on.3)

  pub one_checked : (a b : Abi) → IsChecked program config thread journal count a
      → IsChecked program config thread journal count b → a ≡ b
  one_checked a b h k = elim (cases_lt_eq_gt h.turns k.turns) [
    | inl less ↦ absurd (later a b h k less)
    | inr (inl same) ↦
        one_told (states_of program config thread journal) k.turns a b
        (subst (λ n. IsTold (states_of program config thread journal) n a) same h.told) k.told
    | inr (inr more) ↦ absurd (later b a k h more)
  ]

  pub checked_ends : (abi : Abi) → IsChecked program config thread journal count abi
      → EndsAt program config thread journal count
  checked_ends abi h = record {
    state = h.state;
    stop = h.stop;
    run = record { turns = h.turns; used = h.used; ends = h.ends };
    counts = h.counts;
  }
