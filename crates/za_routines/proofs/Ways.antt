-- A thread that comes from instruction to instruction so makes instructions between which memory outside the area
-- changes, and nothing else.
use Rattle.std.proofs.Common.{◌≡◌, ℕ, suc, ◌+◌, ◌<◌, ◌≤◌, Bool, true, false, cond, List, [], ◌∷◌}
use Rattle.std.proofs.Common.{refl, ap, sym, ◌∙◌, arith, subst}
use Rattle.std.specs.Prelude.{nat_le}
use Rattle.std.proofs.lemmas.Bool.{ne_eqb}
use Rattle.sm_types.specs.SharedOps.{is_same_op}
use Rattle.sm_types.specs.declared.config.Config.{Config}
use Rattle.sm_types.specs.declared.shared_op.SharedOp.{SharedOp}
use Rattle.sm_types.specs.declared.shared_op.Event.{Event}
use Rattle.sm_types.specs.declared.stop.Stop.TheVariants.{TraceFull}
use Rattle.machine_step.specs.ProcessorState.{ProcessorState, vector_bytes}
use Rattle.machine_step.specs.Effect.{Becomes, effect_of}
use Rattle.kernel_contexts.specs.State.{State}
use Rattle.kernel_contexts.specs.Call.{Goes, Asks, Ends, counted, asking}
use Rattle.kernel_contexts.specs.Turn.{turn_of, poll_of, poll_op, polled_with}
use Rattle.kernel_contexts.specs.Run.{Reached, At, Strays, reach_from, after_turn, answered_by}
use Rattle.kernel_contexts.specs.HandlerRun.{IsPlain, HandlerRun, IsKeptOver}
use Rattle.lazy_saving.specs.Interleaved.{SameBut, IsOver}
use Rattle.lazy_saving.proofs.Interleaved.{same_itself, over_and_same, one_over}
use Rattle.za_routines.specs.Ways.{Place, IsTurn, IsPollTurn, IsOwnTurn, Step, Polls, Handles, Executes, AreSteps}
use Rattle.za_routines.specs.Ways.{own_instructions, IsLater, ArePlainBetween}
use Rattle.za_routines.proofs.Later.{later_self, later_later, step_later, steps_later}

-- ---- one turn

one_turn : (config : Config) (thread : ℕ) (p q : Place) → IsTurn config thread p q
    → after_turn p.state p.used p.left (turn_of config thread p.used p.state) ≡ At q.state q.used q.left
unfolding reach_from
one_turn config thread p q h = h

same_place : (s t : State) (k n : ℕ) (l m : List Event) → ◌≡◌ {A = Reached} (At s k l) (At t n m) → s ≡ t
same_place s t k n l m e = cc

-- an operation that is answered leads to the state for its answer
answered_state : (s t : State) (op : SharedOp) (next : ℕ → State) (used used' : ℕ) (left left' : List Event)
    → answered_by s op next used left ≡ At t used' left' → (answer : ℕ) × (next answer ≡ t)
answered_state s t op next used used' [] left' h = (let none : ⊥ = cc in absurd none)
answered_state s t op next used used' (event ∷ events) left' h = choose (is_same_op op event.op) h
  where
    choose : (same : Bool) → cond same (At (next event.answer) (used + 1) events) (Strays s used (event ∷ events)) ≡ At t used' left'
        → (answer : ℕ) × (next answer ≡ t)
    choose true h = (event.answer, same_place (next event.answer) t (used + 1) used' events left' h)
    choose false h = (let none : ⊥ = cc in absurd none)

asked_state : (before s t : State) (events : ℕ) (op : SharedOp) (next : ℕ → State) (used used' : ℕ) (left left' : List Event)
    → after_turn s used left (asking events before op next) ≡ At t used' left' → (answer : ℕ) × (next answer ≡ t)
asked_state before s t events op next used used' left left' h = choose (nat_le 262144 events) h
  where
    choose : (full : Bool) → after_turn s used left (cond full (Ends before TraceFull) (Asks op next)) ≡ At t used' left'
        → (answer : ℕ) × (next answer ≡ t)
    choose true h = (let none : ⊥ = cc in absurd none)
    choose false h = answered_state s t op next used used' left left' h

-- a poll leaves what an instruction sees
poll_turn : (config : Config) (thread : ℕ) (p q : Place) → IsPollTurn config thread p q → q.state.core ≡ p.state.core
unfolding turn_of
poll_turn config thread p q h =
    let polls : turn_of config thread p.used p.state ≡ poll_of thread p.used p.state =
    rw (ne_eqb p.state.count config.budget h.within, h.due) refl in
    let it = asked_state p.state p.state q.state p.used (poll_op thread) (polled_with p.state) p.used q.used p.left q.left
    (sym (ap (after_turn p.state p.used p.left) polls) ∙ one_turn config thread p q h.turn) in
    ap (λ (s : State). s.core) (sym it.1)

-- an instruction that is executed
own_turn : (config : Config) (thread : ℕ) (p q : Place) (u : ProcessorState) → IsOwnTurn config thread p q
    → effect_of (vector_bytes config.vl) p.state.core ≡ Becomes u → q.state.core ≡ u
unfolding turn_of
own_turn config thread p q u h is =
    let goes : turn_of config thread p.used p.state ≡ Goes (counted p.state u) =
    rw (ne_eqb p.state.count config.budget h.next.left, h.next.unpolled, h.undue, is) refl in
    let same = same_place (counted p.state u) q.state p.used q.used p.left q.left
    (sym (ap (after_turn p.state p.used p.left) goes) ∙ one_turn config thread p q h.turn) in
    ap (λ (s : State). s.core) (sym same)

same_but : (area : ℕ → Bool) (s t : State) → IsKeptOver area s t → SameBut area s.core t.core
same_but area s t h = record { is = h.core; memory = record { bytes = h.bytes; perm = h.pages } }

-- that handlers bring back what their frames save
abbrev pub BringsBack : Type 0
BringsBack = (config : Config) (thread : ℕ) (over : ℕ → Bool) (from to : State) (used done : ℕ) (left rest : List Event)
    → IsPlain config from → HandlerRun config thread over from used left to done rest → IsKeptOver over from to

module _ (brings : BringsBack) (config : Config) (thread : ℕ) (area : ℕ → Bool) (x : ProcessorState) (n : ℕ)
    (goes : (j : ℕ) (z : ProcessorState) → j < n → IsOver (vector_bytes config.vl) area j x z
    → (u : ProcessorState) × (effect_of (vector_bytes config.vl) z ≡ Becomes u)) where
  abbrev Over : ℕ → ProcessorState → Type 0
  Over k y = IsOver (vector_bytes config.vl) area k x y

  module _ (from to : Place) (plain : ArePlainBetween config thread from to) where
    steps_on : (steps : List Step) (k : ℕ) (p : Place) → IsLater config thread from p → Over k p.state.core
        → AreSteps config thread area steps p to → k + own_instructions steps ≤ n → Over (k + own_instructions steps) to.state.core
    steps_on [] k p later o h le =
        let same : k ≡ k + 0 = omega arith in
        subst (λ i. Over i to.state.core) same (subst (λ (r : Place). Over k r.state.core) (sym h) o)
    steps_on (Polls ∷ steps) k p later o h le =
        steps_on steps k h.0 (later_later config thread from p h.0 later (step_later config thread area Polls p h.0 h.1))
        (subst (λ (c : ProcessorState). Over k c) (sym (poll_turn config thread p h.0 h.1)) o) h.2 le
    steps_on (Handles ∷ steps) k p later o h le =
        let run = h.1 in
        let here = plain p later (steps_later config thread area (Handles ∷ steps) p to h) run.due in
        let kept = brings config thread area p.state h.0.state p.used h.0.used p.left h.0.left here run in
        steps_on steps k h.0 (later_later config thread from p h.0 later (step_later config thread area Handles p h.0 run))
        (over_and_same (vector_bytes config.vl) area k x p.state.core h.0.state.core o (same_but area p.state h.0.state kept)) h.2 le
    steps_on (Executes ∷ steps) k p later o h le =
        let it = goes k p.state.core (omega (arith, le)) o in
        let here : h.0.state.core ≡ it.0 = own_turn config thread p h.0 it.0 h.1 it.1 in
        let more : Over (suc k) h.0.state.core =
        subst (λ (c : ProcessorState). Over (suc k) c) (sym here) (one_over (vector_bytes config.vl) area k x p.state.core it.0 o it.1) in
        let count : suc k + own_instructions steps ≡ k + suc (own_instructions steps) = omega arith in
        subst (λ i. Over i to.state.core) count
        (steps_on steps (suc k) h.0 (later_later config thread from p h.0 later (step_later config thread area Executes p h.0 h.1)) more
        h.2 (omega (arith, le)))

    -- so many instructions of its own, from the first on
    pub steps_over : (steps : List Step) → from.state.core ≡ x → AreSteps config thread area steps from to
        → own_instructions steps ≤ n → Over (own_instructions steps) to.state.core
    steps_over steps first h le =
        let count : 0 + own_instructions steps ≡ own_instructions steps = omega arith in
        subst (λ i. Over i to.state.core) count
        (steps_on steps 0 from (later_self config thread from) (subst (λ (c : ProcessorState). Over 0 c) (sym first) (same_itself area x)) h
        (omega (arith, le)))
