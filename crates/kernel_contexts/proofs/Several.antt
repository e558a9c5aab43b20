-- Instructions that are executed before the watched count are turns that go on.
use Rattle.std.proofs.Common.{◌≡◌, ℕ, zero, suc, min, ◌+◌, ◌-◌, ◌≤◌, ◌<◌, Bool, false, Option, None, List, [], length, ap, sym, ◌∙◌}
use Rattle.std.proofs.Common.{subst, refl, arith}
use Rattle.std.specs.Prelude.{◌&&◌, Some}
use Rattle.std.proofs.lemmas.Grind.{common_steps}
use Rattle.std.proofs.lemmas.List.{append-nil}
use Rattle.sm_types.specs.declared.config.Config.{Config}
use Rattle.sm_types.specs.declared.length.VecLen.{VecLen}
use Rattle.sm_types.specs.declared.shared_op.Event.{Event}
use Rattle.sm_types.specs.declared.stop.Stop.{Stop}
use Rattle.paged_memory.specs.Image.{Program}
use Rattle.paged_memory.specs.Memory.{word_at}
use Rattle.mem_access.specs.declared.bank.Bank.{Bank}
use Rattle.shared_region.specs.Tickets.{Refusals}
use Rattle.machine_step.specs.ProcessorState.{ProcessorState, vector_bytes}
use Rattle.machine_step.specs.Effect.{Becomes, effect_of}
use Rattle.machine_step.specs.Needs.{needs_bank, is_call_at, is_calls}
use Rattle.machine_step.specs.Several.{AreExecuted, halts_at}
use Rattle.machine_step.proofs.Calls.{call_told}
use Rattle.kernel_contexts.specs.Owner.{owns, is_owner}
use Rattle.kernel_contexts.specs.State.{State}
use Rattle.kernel_contexts.specs.Call.{Goes}
use Rattle.kernel_contexts.specs.Turn.{turn_of, after_effect}
use Rattle.kernel_contexts.specs.Watch.{IsWatched}
use Rattle.kernel_contexts.specs.Needs.{needs_vectors}
use Rattle.kernel_contexts.specs.Several.{GoesApart, counted_by, halts_before, never}
use Rattle.kernel_contexts.specs.Standing.{IsRunOf}
use Rattle.kernel_contexts.specs.declared.context.Turn.TheVariants.{Ran}
use Rattle.kernel_contexts.proofs.Apart.{kept_no, needs_executes}
use Rattle.kernel_contexts.proofs.Kept.{run_goes_on}
use Rattle.kernel_contexts.proofs.Turns.{turn_executes}
use Rattle.kernel_contexts.proofs.Watched.{no_poll, no_delivery, unpolled}

-- a state by what counting changes of it
same_counted : (s : State) (core : ProcessorState) (polled : Bool) (a b c d : ℕ) → s.polled ≡ polled → a ≡ b → c ≡ d
    → record s { core = core; count = a; turns = c } ≡ record s { core = core; polled = polled; count = b; turns = d }
same_counted s core polled a b c d p e f = λ i. record s { core = core; polled = p i; count = e i; turns = f i }

-- the watch still holds further on, before the watched count
watched_on : (config : Config) (count watch : ℕ) (polled : Bool) (n : ℕ) → IsWatched config count watch polled → count + n ≤ watch
    → IsWatched config (count + n) watch polled
watched_on config count watch polled n h l = record {
  within = l;
  budget = h.budget;
  quiet = λ c low high. h.quiet c (omega (arith, low)) high;
  here = λ is. let at = h.here is in omega (arith, at, l);
}

module _ (config : Config) (thread events watch : ℕ) (s : State) (h : IsWatched config s.count watch s.polled) where
  -- one instruction more, before the watched count
  one_executed : (n : ℕ) (before core : ProcessorState) → s.count + suc n ≤ watch
      → effect_of (vector_bytes config.vl) before ≡ Becomes core
      → turn_of config thread events (counted_by n s before) ≡ Goes (counted_by (suc n) s core)
  one_executed n before core l e =
      let t = counted_by n s before in
      let here : IsWatched config t.count watch t.polled = watched_on config s.count watch s.polled n h (omega (arith, l)) in
      let low : t.count < watch = omega (arith, l) in
      turn_executes config thread events t (λ is. omega (arith, is, h.budget, l)) (no_poll config t watch here low)
      (no_delivery config t watch here low)
      ∙ ap (after_effect config thread events t) e
      ∙ ap Goes (sym (same_counted s core false (s.count + suc n) (s.count + n + 1) (s.turns + suc n) (s.turns + n + 1)
      (unpolled s.polled s.count watch h.here (omega (arith, l))) (omega arith) (omega arith)))

  -- which needs vectors where it needs a bank
  one_unneeded : (apart : Bool) (n : ℕ) (before core : ProcessorState) → s.count + suc n ≤ watch
      → effect_of (vector_bytes config.vl) before ≡ Becomes core → (apart && needs_bank before) ≡ false
      → (apart && needs_vectors config (counted_by n s before)) ≡ false
  one_unneeded apart n before core l e kept =
      let t = counted_by n s before in
      let here : IsWatched config t.count watch t.polled = watched_on config s.count watch s.polled n h (omega (arith, l)) in
      let low : t.count < watch = omega (arith, l) in
      ap (λ b. apart && b) (needs_executes config t (λ is. omega (arith, is, h.budget, l)) (no_poll config t watch here low)
      (no_delivery config t watch here low))
      ∙ kept_no apart (needs_bank before) (is_call_at before) _ kept (sym (call_told (vector_bytes config.vl) before) ∙ ap is_calls e)

  pub executed_goes : (halts : ℕ → ℕ → Bool) (apart : Bool) (n : ℕ) (core : ProcessorState) → s.count + n ≤ watch
      → AreExecuted halts apart (vector_bytes config.vl) n s.core core
      → GoesApart halts apart config thread events n s (counted_by n s core)
  executed_goes halts apart zero core l e =
      let none : s.count + 0 ≡ s.count = omega arith in
      let still : s.turns + 0 ≡ s.turns = omega arith in
      λ i. record s { core = e i; count = none i; turns = still i }
  executed_goes halts apart (suc n) core l e = (
    counted_by n s e.0,
    executed_goes halts apart n e.0 (omega (arith, l)) e.1,
    one_executed n e.0 core l e.2,
    one_unneeded apart n e.0 core l e.2 e.3,
    e.4,
  )

-- the same with VL of another name, from a core and a state that are known by their parts
pub executed_as : (halts : ℕ → ℕ → Bool) (apart : Bool) (vl given : VecLen) (n : ℕ) (old new : ProcessorState) → given ≡ vl
    → AreExecuted halts apart (vector_bytes vl) n old new → AreExecuted halts apart (vector_bytes given) n old new
executed_as halts apart vl given n old new is h = subst (λ (l : VecLen). AreExecuted halts apart (vector_bytes l) n old new) (sym is) h

-- nothing to halt before is none at any address
never_at : (pc : ℕ) (word : Option ℕ) → halts_at never pc word ≡ false
never_at pc None = refl
never_at pc (Some word) = refl

never_halts : (s : State) → halts_before never s ≡ false
never_halts s = never_at s.core.scalars.pc (word_at s.core.memory s.core.scalars.pc)

-- no port is asked
pub nothing_refused : Refusals
nothing_refused = record { ends = λ op. ⊥; strays = λ op. ⊥; takes_memory = ⊥ }

-- a run of a program goes on by them
pub run_goes_by : (halts : ℕ → ℕ → Bool) (apart : Bool) (program : Program) (config : Config) (thread : ℕ) (old new : State)
    (journal : List Event) (stop : Option Stop) (n : ℕ) → stop ≡ None → IsRunOf program config thread journal old stop
    → GoesApart halts apart config thread (length journal) n old new → IsRunOf program config thread journal new stop
run_goes_by halts apart program config thread old new journal stop zero runs h goes =
    subst (λ (s : State). IsRunOf program config thread journal s stop) (sym goes) h
run_goes_by halts apart program config thread old new journal stop (suc n) runs h goes =
    run_goes_on program config thread nothing_refused goes.0 new journal journal [] stop stop Ran
    (run_goes_by halts apart program config thread old goes.0 journal stop n runs h goes.1) runs (sym (append-nil journal))
    (goes.2, runs)

-- where nothing is asked of the words, the turns are the same
pub halts_let_go : (halts : ℕ → ℕ → Bool) (apart : Bool) (config : Config) (thread events n : ℕ) (old new : State)
    → GoesApart halts apart config thread events n old new → GoesApart never apart config thread events n old new
halts_let_go halts apart config thread events zero old new goes = goes
halts_let_go halts apart config thread events (suc n) old new goes =
    (goes.0, halts_let_go halts apart config thread events n old goes.0 goes.1, goes.2, goes.3, never_halts goes.0)

-- the thread owns the bank still, or does not own it
pub owned_on : (bank after : Bank) (thread number : ℕ) (owned : Bool) → after.owner ≡ bank.owner → number ≡ thread
    → owns bank thread ≡ owned → owns after number ≡ owned
owned_on bank after thread number owned owner same h =
    ap (λ (n : ℕ). owns after n) same ∙ ap (λ (o : Option ℕ). is_owner o thread) owner ∙ h

-- no more than are left up to the watched count
pub up_to : (most watch count made low : ℕ) → count ≤ watch → low ≡ min most (watch - count) → made ≤ low → count + made ≤ watch
up_to most watch count made low within least few = grind (arith, common_steps)
