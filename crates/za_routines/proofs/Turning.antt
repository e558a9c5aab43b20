-- A turn in which nothing but an instruction is due.
use Rattle.std.proofs.Common.{◌≡◌, ℕ, suc, ◌+◌, ◌-◌, ◌%◌, ◌<◌, ◌≤◌, ◌==◌, ◌&&◌, Bool, true, false}
use Rattle.std.proofs.Common.{List, [], ◌∷◌, length, Option, Some, None, refl, ap, ap₂, sym, ◌∙◌, arith, subst}
use Rattle.std.specs.Prelude.{IsSome, option_and_then, nat_lt}
use Rattle.std.proofs.lemmas.Bool.Decides.{nat_tests}
use Rattle.sm_types.specs.declared.config.Config.{Config}
use Rattle.sm_types.specs.declared.shared_op.SharedOp.{SharedOp}
use Rattle.sm_types.specs.declared.shared_op.Event.{Event}
use Rattle.sm_types.specs.declared.shared_words.Entry.{Entry}
use Rattle.sm_types.specs.declared.stop.Stop.{Stop}
use Rattle.shared_region.specs.Tickets.{Refusals}
use Rattle.shared_region.specs.Chain.{Chain}
use Rattle.shared_region.specs.History.{entries_of}
use Rattle.machine_step.specs.ProcessorState.{ProcessorState, vector_bytes}
use Rattle.machine_step.specs.Effect as instruction
use Rattle.machine_step.specs.Effect.{Effect, Raises, Calls, Becomes, effect_of}
use Rattle.kernel_contexts.specs.State.{State}
use Rattle.kernel_contexts.specs.Call.{TurnEnd, Goes, Yields, Asks, Ends, counted}
use Rattle.kernel_contexts.specs.Turn.{turn_of}
use Rattle.kernel_contexts.specs.Stance.{TurnsOrStays}
use Rattle.kernel_contexts.specs.Context.{TurnsOver, AsksFor, GoesOn, turn_at, state_of, stop_of, made_by, config_of, thread_of, journal_of}
use Rattle.kernel_contexts.specs.declared.context.Context.{Context}
use Rattle.kernel_contexts.specs.declared.context.Turn.{Turn}
use Rattle.kernel_contexts.specs.declared.context.Turn.TheVariants as turns
use Rattle.lazy_saving.specs.Instructions.{after_instructions, becomes_of}
use Rattle.za_routines.specs.Turns.{IsQuiet, IsAfter, core_after, has_run}
use Rattle.lazy_saving.proofs.Running.{none_run, one_runs, both_run}

-- ---- the first of some instructions

is_executed : (vl n : ℕ) (s : ProcessorState) (e : Effect) → effect_of vl s ≡ e
    → IsSome (option_and_then (after_instructions vl n) (becomes_of e))
    → (t : ProcessorState) × (effect_of vl s ≡ Becomes t) × IsSome (after_instructions vl n t)
is_executed vl n s (Raises exception) is h = (let none : ⊥ = cc in absurd none)
is_executed vl n s (Calls number) is h = (let none : ⊥ = cc in absurd none)
is_executed vl n s (Becomes t) is h = (t, is, h)
is_executed vl n s (instruction.Asks op next) is h = (let none : ⊥ = cc in absurd none)

first_executed : (vl n : ℕ) (s : ProcessorState) → IsSome (after_instructions vl (suc n) s)
    → (t : ProcessorState) × (effect_of vl s ≡ Becomes t) × IsSome (after_instructions vl n t)
unfolding after_instructions
first_executed vl n s h = is_executed vl n s (effect_of vl s) refl h

-- ---- the turn

within : (count n budget : ℕ) → count + suc n ≤ budget → (count == budget) ≡ false
within count n budget l = grind (arith, nat_tests)

turn_goes : (config : Config) (thread events n : ℕ) (s : State) (t : ProcessorState) → IsQuiet config s (suc n)
    → effect_of (vector_bytes config.vl) s.core ≡ Becomes t → turn_of config thread events s ≡ Goes (counted s t)
unfolding turn_of
turn_goes config thread events n s t q is =
    rw (within s.count n config.budget q.budget, q.poll (omega arith), q.delivery (omega arith), is) refl

and_false : (a b c : Bool) → b ≡ false → (a && b && c) ≡ false
and_false true true c e = cc
and_false true false c e = refl
and_false false b c e = refl

quiet_on : (config : Config) (n : ℕ) (s : State) (t : ProcessorState) → IsQuiet config s (suc n) → IsQuiet config (counted s t) n
quiet_on config n s t q = record {
  poll = λ lt. and_false (nat_lt 0 (s.count + 1)) ((s.count + 1) % config.slice == 0) true (q.later 1 (omega arith) (omega (arith, lt)));
  delivery = λ lt. refl;
  later = λ k some lt.
      let e : s.count + 1 + k ≡ s.count + (k + 1) = omega arith in
      ap (λ i. (i % config.slice == 0)) e ∙ q.later (k + 1) (omega arith) (omega (arith, lt));
  budget = (let b = q.budget in omega (arith, b));
}

after_more : (config : Config) (n : ℕ) (s t : State) (u : ProcessorState) → IsAfter config n s t
    → effect_of (vector_bytes config.vl) t.core ≡ Becomes u → IsAfter config (n + 1) s (counted t u)
after_more config n s t u a is =
    let count : s.count + n + 1 ≡ s.count + (n + 1) = omega arith in
    let turns : s.turns + n + 1 ≡ s.turns + (n + 1) = omega arith in
    record {
      core = both_run (vector_bytes config.vl) n 1 s.core t.core u a.core (one_runs (vector_bytes config.vl) t.core u is);
      rest = ap (λ (w : State). counted w u) a.rest ∙ ap₂ (λ c k. record s { core = u; polled = false; count = c; turns = k }) count turns;
      polled = λ lt. refl;
    }

-- so many turns of all are made, and the others will be
pub record IsGoing (config : Config) (made all : ℕ) (s t : State) : Type 0 where
  pub few : made ≤ all
  pub quiet : IsQuiet config t (all - made)
  pub executed : IsSome (core_after config (all - made) t)
  pub after : IsAfter config made s t

pub going_first : (config : Config) (all : ℕ) (s : State) → IsQuiet config s all → IsSome (core_after config all s)
    → IsGoing config 0 all s s
going_first config all s quiet executed = record {
  few = omega arith;
  quiet = (let e : all ≡ all - 0 = omega arith in subst (λ n. IsQuiet config s n) e quiet);
  executed = (let e : all ≡ all - 0 = omega arith in subst (λ n. IsSome (core_after config n s)) e executed);
  after = (let count : s.count ≡ s.count + 0 = omega arith in let turns : s.turns ≡ s.turns + 0 = omega arith in record {
    core = none_run (vector_bytes config.vl) s.core;
    rest = ap₂ (λ c k. record s { count = c; turns = k }) count turns;
    polled = λ lt. absurd (omega (arith, lt));
  });
}

pub going_on : (config : Config) (thread events made all : ℕ) (s t : State) → IsGoing config made all s t → made < all
    → (u : State) × (turn_of config thread events t ≡ Goes u) × IsGoing config (made + 1) all s u
going_on config thread events made all s t g lt =
    let n = all - made - 1 in
    let e : all - made ≡ suc n = omega (arith, lt) in
    let same : n ≡ all - (made + 1) = omega arith in
    let quiet : IsQuiet config t (suc n) = subst (λ k. IsQuiet config t k) e g.quiet in
    let first = first_executed (vector_bytes config.vl) n t.core (subst (λ k. IsSome (core_after config k t)) e g.executed) in (
      counted t first.0,
      turn_goes config thread events n t first.0 quiet first.1,
      record {
        few = omega (arith, lt);
        quiet = subst (λ k. IsQuiet config (counted t first.0) k) same (quiet_on config n t first.0 quiet);
        executed = subst (λ k. IsSome (after_instructions (vector_bytes config.vl) k first.0)) same first.2;
        after = after_more config made s t first.0 g.after first.1;
      },
    )

-- ---- what a turn that goes on is answered

same_state : (u v : State) → ◌≡◌ {A = TurnEnd} (Goes u) (Goes v) → v ≡ u
same_state u v e = cc

run_goes : (refusals : Refusals) (end : TurnEnd) (new u : State) (made : List Event) → GoesOn refusals end new made → end ≡ Goes u
    → (new ≡ u) × (made ≡ [])
run_goes refusals end new u [] h is = (same_state u new (sym is ∙ h), refl)
run_goes refusals end new u (event ∷ []) h is = (let asks = h.asks in let none : ⊥ = cc in absurd none)
run_goes refusals end new u (event ∷ other ∷ more) h is = absurd h

pub turned : (refusals : Refusals) (end : TurnEnd) (old new u : State) (made : List Event) (stopped : Option Stop) (turn : Turn)
    → TurnsOver refusals end old new made stopped turn → end ≡ Goes u → has_run turn ≡ true
    → (new ≡ u) × (made ≡ []) × (stopped ≡ None)
turned refusals end old new u made stopped turns.Ran h is run =
    let goes = run_goes refusals end new u made h.0 is in (goes.0, goes.1, h.1)
turned refusals end old new u made stopped turns.Yielded h is run = (let none : ⊥ = cc in absurd none)
turned refusals end old new u made stopped turns.NeedsBank h is run = absurd h
turned refusals end old new u made stopped (turns.Stopped stop) h is run = (let none : ⊥ = cc in absurd none)
turned refusals end old new u made stopped turns.TraceEnds h is run = (let none : ⊥ = cc in absurd none)
turned refusals end old new u made stopped turns.TraceDiffers h is run = (let none : ⊥ = cc in absurd none)
turned refusals end old new u made stopped turns.Memory h is run = (let none : ⊥ = cc in absurd none)

no_asking : (end : TurnEnd) (u : State) (holds : SharedOp → Type 0) → AsksFor end holds → end ≡ Goes u → ⊥
no_asking (Goes s) u holds h is = h
no_asking (Yields s) u holds h is = h
no_asking (Asks op next) u holds h is = cc
no_asking (Ends s stop) u holds h is = h

not_yields : (u v : State) → ◌≡◌ {A = TurnEnd} (Goes u) (Yields v) → ⊥
not_yields u v e = cc

not_ends : (u v : State) (stop : Stop) → ◌≡◌ {A = TurnEnd} (Goes u) (Ends v stop) → ⊥
not_ends u v stop e = cc

pub stayed : (refusals : Refusals) (end : TurnEnd) (old new u : State) (made : List Event) (stopped : Option Stop) (turn : Turn)
    → TurnsOver refusals end old new made stopped turn → end ≡ Goes u → has_run turn ≡ false
    → (new ≡ old) × (made ≡ []) × (stopped ≡ None)
stayed refusals end old new u made stopped turns.Ran h is run = (let none : ⊥ = cc in absurd none)
stayed refusals end old new u made stopped turns.Yielded h is run = absurd (not_yields u new (sym is ∙ h.0))
stayed refusals end old new u made stopped turns.NeedsBank h is run = absurd h
stayed refusals end old new u made stopped (turns.Stopped stop) h is run = absurd (not_ends u new stop (sym is ∙ h.0))
stayed refusals end old new u made stopped turns.TraceEnds h is run = absurd (no_asking end u _ h.0 is)
stayed refusals end old new u made stopped turns.TraceDiffers h is run = absurd (no_asking end u _ h.0 is)
stayed refusals end old new u made stopped turns.Memory h is run = h

pub is_turn : (stopped : Option Stop) (refusals : Refusals) (old new : Context) (turn : Turn) → stopped ≡ None
    → TurnsOrStays stopped refusals old new turn
    → TurnsOver refusals (turn_at old) (state_of old) (state_of new) (made_by old new) (stop_of new) turn
is_turn None refusals old new turn e h = h
is_turn (Some stop) refusals old new turn e h = (let none : ⊥ = cc in absurd none)

-- where no event was made, port and ticket stay
pub same_place : {P T : Type 0} (gives : P → T → Entry → P → T → Type 0) (p q : P) (t u : T) (thread : ℕ) (made : List Event)
    → made ≡ [] → Chain gives p t (entries_of thread made) q u → (p ≡ q) × (t ≡ u)
same_place gives p q t u thread [] is h = h
same_place gives p q t u thread (event ∷ events) is h = (let none : ⊥ = cc in absurd none)

-- ---- a turn of a context that goes so

-- what a turn made of a context
pub record HasTurned (config : Config) (made all : ℕ) (first : State) (old new : Context) : Type 0 where
  pub going : IsGoing config (made + 1) all first (state_of new)
  pub runs : stop_of new ≡ None
  pub none : made_by old new ≡ []

pub record HasStayed (old new : Context) : Type 0 where
  pub state : state_of new ≡ state_of old
  pub runs : stop_of new ≡ None
  pub none : made_by old new ≡ []

module _ (config : Config) (made all : ℕ) (first : State) (refusals : Refusals) (old new : Context) (turn : Turn)
    (same : config_of old ≡ config) (going : IsGoing config made all first (state_of old)) (lt : made < all)
    (runs : stop_of old ≡ None) (h : TurnsOrStays (stop_of old) refusals old new turn) where
  next : (u : State) × (turn_at old ≡ Goes u) × IsGoing config (made + 1) all first u
  next =
      let g = going_on config (thread_of old) (length (journal_of old)) made all first (state_of old) going lt in
      (g.0, ap (λ k. turn_of k (thread_of old) (length (journal_of old)) (state_of old)) same ∙ g.1, g.2)

  pub has_turned : has_run turn ≡ true → HasTurned config made all first old new
  has_turned run =
      let r = turned refusals (turn_at old) (state_of old) (state_of new) next.0 (made_by old new) (stop_of new) turn
      (is_turn (stop_of old) refusals old new turn runs h) next.1 run in
      record { going = subst (λ (u : State). IsGoing config (made + 1) all first u) (sym r.0) next.2; runs = r.2; none = r.1 }

  pub has_stayed : has_run turn ≡ false → HasStayed old new
  has_stayed run =
      let r = stayed refusals (turn_at old) (state_of old) (state_of new) next.0 (made_by old new) (stop_of new) turn
      (is_turn (stop_of old) refusals old new turn runs h) next.1 run in
      record { state = r.0; runs = r.2; none = r.1 }
