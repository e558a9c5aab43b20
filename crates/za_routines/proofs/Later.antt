-- The turns by which a thread comes from instruction to instruction.
use Rattle.std.proofs.Common.{◌≡◌, ℕ, zero, suc, ◌+◌, Bool, List, [], ◌∷◌, refl, ap, sym, ◌∙◌, subst, arith}
use Rattle.sm_types.specs.declared.config.Config.{Config}
use Rattle.sm_types.specs.declared.shared_op.Event.{Event}
use Rattle.kernel_contexts.specs.State.{State}
use Rattle.kernel_contexts.specs.Call.{Goes}
use Rattle.kernel_contexts.specs.Turn.{turn_of}
use Rattle.kernel_contexts.specs.Run.{At, turned, reach_from, after_turn}
use Rattle.za_routines.specs.Ways.{Place, Step, Polls, Handles, Executes, IsHandling, IsStep, AreSteps, IsLater}

module _ (config : Config) (thread : ℕ) where
  joined : (s t : State) (used done : ℕ) (left rest : List Event) (m : ℕ) → reach_from config thread s used left m ≡ At t done rest
      → (n : ℕ) → reach_from config thread s used left (m + n) ≡ reach_from config thread t done rest n
  unfolding reach_from
  joined s t used done left rest m at zero = let z : m + 0 ≡ m = omega arith in rw z at
  joined s t used done left rest m at (suc n) =
      let z : m + suc n ≡ suc (m + n) = omega arith in
      rw z (ap (turned config thread) (joined s t used done left rest m at n))

  pub later_self : (p : Place) → IsLater config thread p p
  unfolding reach_from
  later_self p = (0, refl)

  pub later_later : (p q r : Place) → IsLater config thread p q → IsLater config thread q r → IsLater config thread p r
  later_later p q r first next =
      (first.0 + next.0, joined p.state q.state p.used q.used p.left q.left first.0 first.1 next.0 ∙ next.1)

  goes_later : (s t : State) (used : ℕ) (left : List Event) → turn_of config thread used s ≡ Goes t
      → reach_from config thread s used left 1 ≡ At t used left
  unfolding reach_from
  goes_later s t used left h = ap (after_turn s used left) h

  -- a delivery, the turns between, and a return
  handling_later : (area : ℕ → Bool) (p q : Place) → IsHandling config thread area p q → IsLater config thread p q
  handling_later area p q h =
      let begun : Place = record { state = h.begun; used = p.used; left = p.left } in
      let last : Place = record { state = h.last; used = q.used; left = q.left } in
      later_later p begun q (1, goes_later p.state h.begun p.used p.left h.first)
      (later_later begun last q (h.turns, h.between) (1, goes_later h.last q.state q.used q.left h.made))

  module _ (area : ℕ → Bool) where
    -- a step
    pub step_later : (step : Step) (p q : Place) → IsStep config thread area step p q → IsLater config thread p q
    step_later Polls p q h = (1, h.turn)
    step_later Handles p q h = handling_later area p q h
    step_later Executes p q h = (1, h.turn)

    -- and some
    pub steps_later : (steps : List Step) (p q : Place) → AreSteps config thread area steps p q → IsLater config thread p q
    steps_later [] p q h = subst (λ (r : Place). IsLater config thread p r) (sym h) (later_self p)
    steps_later (step ∷ steps) p q h =
        later_later p h.0 q (step_later step p h.0 h.1) (steps_later steps h.0 q h.2)
