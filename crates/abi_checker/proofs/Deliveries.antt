-- The states of a run in which a delivery is due.
use Rattle.std.proofs.Common.{◌≡◌, inl, inr, ℕ, suc, ◌+◌, ◌-◌, ◌<◌, ◌==◌, true, cond, ap, sym, ◌∙◌, subst, arith}
use Rattle.std.specs.FinMap.{get}
use Rattle.plain_lemmas.proofs.Numbers.{cases_le}
use Rattle.sm_types.specs.declared.config.Config.{Config}
use Rattle.sm_types.specs.declared.stop.Stop.TheVariants.{Budget}
use Rattle.kernel_contexts.specs.State.{State}
use Rattle.kernel_contexts.specs.Call.{Goes, Ends}
use Rattle.kernel_contexts.specs.Turn.{turn_of, instruction_of, is_poll_due, poll_of, is_delivery_due, delivery_of, lowest_signal}
use Rattle.kernel_contexts.specs.HandlerRun.{IsPlain}
use Rattle.abi_checker.specs.Whole.{ArePlainBefore}
use Rattle.abi_checker.proofs.Counted.{goes_where, poll_asks, delivered_counts}
use Rattle.abi_checker.proofs.Quiet.{AreCounted}

-- where a turn counts an instruction, none is
undue : (config : Config) (thread events : ℕ) (s t : State) → turn_of config thread events s ≡ Goes t → t.count ≡ suc s.count
    → is_delivery_due config s ≡ true → ⊥
unfolding turn_of
undue config thread events s t e one due =
    let rest : cond (is_delivery_due config s) (delivery_of config s) (instruction_of config thread events s) ≡ Goes t =
    goes_where (is_poll_due config s) (poll_of thread events s) _ t
    (goes_where (s.count == config.budget) (Ends s Budget) _ t e (λ h. cc))
    (λ h. poll_asks config thread events s t h) in
    let is : delivery_of config s ≡ Goes t =
    sym (ap (λ b. cond b (delivery_of config s) (instruction_of config thread events s)) due) ∙ rest in
    let same = delivered_counts config (lowest_signal s) s t (get s.handlers (lowest_signal s)) is in omega (arith, one, same)

module _ (config : Config) (run : ℕ → State) where
  pub plain_first : ArePlainBefore run config 0
  plain_first m l due = absurd (omega (arith, l))

  -- and of the state before the next one
  pub plain_next : (n : ℕ) → ArePlainBefore run config n → IsPlain config (run n) → ArePlainBefore run config (suc n)
  plain_next n before here m l due = elim (cases_le n m) as (λ _. IsPlain config (run m)) [
    | inl later ↦ let same : n ≡ m = omega (arith, l, later) in subst (λ i. IsPlain config (run i)) same here
    | inr less ↦ before m less due
  ]

  -- over turns of which each counts an instruction
  pub plain_over : (thread events here n : ℕ) → AreCounted config thread events run here n → ArePlainBefore run config here
      → ArePlainBefore run config (here + n)
  plain_over thread events here n c before m l due = elim (cases_le here m) as (λ _. IsPlain config (run m)) [
    | inl later ↦
        let j : ℕ = m - here in
        let there : m ≡ here + j = omega (arith, later) in
        let less : j < n = omega (arith, later, l) in
        absurd (undue config thread events (run (here + j)) (run (here + suc j)) (c.goes j less) (c.counts j less)
        (subst (λ i. is_delivery_due config (run i) ≡ true) there due))
    | inr less ↦ before m less due
  ]
