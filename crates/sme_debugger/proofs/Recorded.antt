-- What a recorded run shows at a count is one state, and the next count with a PC is sought among these.
use Rattle.std.proofs.Common.{◌≡◌, ◌≢◌, ℕ, ◌+◌, inl, inr, ap, sym, ◌∙◌, arith, subst}
use Rattle.plain_lemmas.proofs.Numbers.{cases_lt_eq_gt}
use Rattle.kernel_contexts.specs.State.{State}
use Rattle.lone_runner.specs.Parting.{state_at}
use Rattle.sme_debugger.specs.Recording.{Recording, Shows, reached_by, counts_by}
use Rattle.sme_debugger.specs.Answers.{NoneBetween}

counts_there : (r : Recording) (count : ℕ) (s : State) (h : Shows r count s) → counts_by r h.turns ≡ count
counts_there r count s h = ap (λ (t : State). t.count) h.reached ∙ h.counts

pub one_state : (r : Recording) (count : ℕ) (s t : State) → Shows r count s → Shows r count t → s ≡ t
one_state r count s t h k = elim (cases_lt_eq_gt h.turns k.turns) [
  | inl less ↦ absurd (k.first h.turns less (counts_there r count s h))
  | inr (inl same) ↦ sym h.reached ∙ ap (λ m. state_at (reached_by r m)) same ∙ k.reached
  | inr (inr more) ↦ absurd (h.first k.turns more (counts_there r count t k))
]

pub none_at_first : (r : Recording) (above address : ℕ) → NoneBetween r above (above + 1) address
none_at_first r above address = λ count s over under. absurd (omega (arith, over, under))

pub none_more : (r : Recording) (above count address : ℕ) (s : State) → NoneBetween r above count address → Shows r count s
    → s.core.scalars.pc ≢ address → NoneBetween r above (count + 1) address
none_more r above count address s before here other = λ n t over under shows. elim (cases_lt_eq_gt n count) [
  | inl less ↦ before n t over less shows
  | inr (inl same) ↦
      let shown : Shows r count t = subst (λ k. Shows r k t) same shows in
      λ there. other (ap (λ (u : State). u.core.scalars.pc) (one_state r count s t here shown) ∙ there)
  | inr (inr more) ↦ absurd (omega (arith, more, under))
]
