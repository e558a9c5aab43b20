-- Turns of a thread that is kept off its vectors.
use Rattle.std.proofs.Common.{◌≡◌, ℕ, ◌==◌, Bool, true, false, List, [], Option, None, refl, sym, ◌∙◌, subst, arith}
use Rattle.std.specs.Prelude.{◌&&◌, ◌||◌, slice_index}
use Rattle.std.proofs.lemmas.Bool.Decides.{nat_tests}
use Rattle.sm_types.specs.declared.config.Config.{Config}
use Rattle.sm_types.specs.declared.shared_op.Event.{Event}
use Rattle.sm_types.specs.declared.stop.Stop.{Stop}
use Rattle.shared_region.specs.Tickets.{Refusals}
use Rattle.paged_memory.specs.PageTable.{PageTable, KeepsOwned}
use Rattle.machine_step.specs.ProcessorState.{ProcessorState}
use Rattle.machine_step.specs.Effect.{effect_of}
use Rattle.machine_step.specs.Needs.{needs_bank, is_call_at}
use Rattle.machine_step.specs.Step.{Tells, TellsUnless}
use Rattle.machine_step.specs.declared.step.StepEnd.{StepEnd}
use Rattle.machine_step.specs.declared.step.StepEnd.TheVariants as answer
use Rattle.machine_step.proofs.Calls.{call_told, tells_call, is_call_end}
use Rattle.kernel_contexts.specs.State.{State}
use Rattle.kernel_contexts.specs.Call.{TurnEnd}
use Rattle.kernel_contexts.specs.Turn.{is_poll_due, is_delivery_due}
use Rattle.kernel_contexts.specs.KernelCall.{return_number}
use Rattle.kernel_contexts.specs.Needs.{needs_vectors, instruction_needs}
use Rattle.kernel_contexts.specs.Context.{TurnsOver, TurnsUnless, LacksUnless}
use Rattle.kernel_contexts.specs.Owned.{TurnOwns}
use Rattle.kernel_contexts.specs.declared.context.Turn.{Turn}
use Rattle.kernel_contexts.specs.declared.context.Turn.TheVariants as turns

pub kept_no : (apart needs call ret : Bool) → (apart && needs) ≡ false → call ≡ false → (apart && (needs || (call && ret))) ≡ false
kept_no false needs call ret h k = refl
kept_no true true call ret h k = cc
kept_no true false true ret h k = cc
kept_no true false false ret h k = refl

kept_call : (apart needs call ret : Bool) → (apart && needs) ≡ false → call ≡ true
    → (apart && (needs || (call && ret))) ≡ (apart && ret)
kept_call false needs call ret h k = refl
kept_call true true call ret h k = cc
kept_call true false true ret h k = refl
kept_call true false false ret h k = cc

kept_yes : (apart needs call ret : Bool) → (apart && needs) ≡ true → (apart && (needs || (call && ret))) ≡ true
kept_yes false needs call ret h = cc
kept_yes true true call ret h = refl
kept_yes true false call ret h = cc

-- ---- what a step says that may have been kept off

module _ (apart : Bool) (vl : ℕ) (s : ProcessorState) (refusals : Refusals) (room : Bool) (new : ProcessorState) where
  abbrev ret : Bool
  ret = slice_index s.scalars.x 8 == return_number

  stepped : (wants : Bool) (end : StepEnd) → (end ≡ answer.NeedsBank → ⊥) → TellsUnless wants refusals room (effect_of vl s) s new end
      → (wants ≡ false) × Tells refusals room (effect_of vl s) s new end
  stepped true end not h = absurd (not h.0)
  stepped false end not h = (refl, h)

  -- an instruction that is no call
  pub not_kept : (end : StepEnd) → (end ≡ answer.NeedsBank → ⊥) → is_call_end end ≡ false
      → TellsUnless (apart && needs_bank s) refusals room (effect_of vl s) s new end
      → ((apart && instruction_needs s) ≡ false) × Tells refusals room (effect_of vl s) s new end
  not_kept end not quiet h =
      let t = stepped (apart && needs_bank s) end not h in
      let none = sym (call_told vl s) ∙ tells_call refusals room (effect_of vl s) s new end t.1 ∙ quiet in
      (kept_no apart (needs_bank s) (is_call_at s) ret t.0 none, t.1)

  -- a call, which may be a return
  pub call_kept : (number : ℕ) → TellsUnless (apart && needs_bank s) refusals room (effect_of vl s) s new (answer.Call number)
      → ((apart && instruction_needs s) ≡ (apart && ret)) × Tells refusals room (effect_of vl s) s new (answer.Call number)
  call_kept number h =
      let t = stepped (apart && needs_bank s) (answer.Call number) (λ e. cc) h in
      let called = sym (call_told vl s) ∙ tells_call refusals room (effect_of vl s) s new (answer.Call number) t.1 in
      (kept_call apart (needs_bank s) (is_call_at s) ret t.0 called, t.1)

  waited : (wants : Bool) → TellsUnless wants refusals room (effect_of vl s) s new answer.NeedsBank → (wants ≡ true) × (new ≡ s)
  waited true h = (refl, h.1)
  waited false h = absurd h

  -- one that is kept off
  pub is_kept : TellsUnless (apart && needs_bank s) refusals room (effect_of vl s) s new answer.NeedsBank
      → ((apart && instruction_needs s) ≡ true) × (new ≡ s)
  is_kept h =
      let t = waited (apart && needs_bank s) h in
      (kept_yes apart (needs_bank s) (is_call_at s) ret t.0, t.1)

-- ---- turns

pub unless_so : (kept : Bool) (refusals : Refusals) (end : TurnEnd) (old new : State) (made : List Event) (stopped : Option Stop)
    (turn : Turn)
    → kept ≡ false → TurnsOver refusals end old new made stopped turn → TurnsUnless kept refusals end old new made stopped turn
unless_so true refusals end old new made stopped turn is h = cc
unless_so false refusals end old new made stopped turn is h = h

pub needed_so : (kept : Bool) (refusals : Refusals) (end : TurnEnd) (old new : State) (made : List Event) (stopped : Option Stop)
    → kept ≡ true → new ≡ old → made ≡ [] → stopped ≡ None → TurnsUnless kept refusals end old new made stopped turns.NeedsBank
needed_so true refusals end old new made stopped is same none runs = (refl, same, none, runs)
needed_so false refusals end old new made stopped is same none runs = cc

pub lacks_so : (kept found : Bool) → found ≡ kept → found ≡ true → LacksUnless kept turns.NeedsBank
lacks_so true found same is = refl
lacks_so false found same is = let clash : true ≡ false = sym is ∙ same in cc

pub lacks_memory : (kept found : Bool) → found ≡ kept → found ≡ false → LacksUnless kept turns.Memory
lacks_memory false found same is = refl
lacks_memory true found same is = let clash : false ≡ true = sym is ∙ same in cc

-- there was no memory for the event
pub lacked : (kept : Bool) (refusals : Refusals) (end : TurnEnd) (old new : State) (made : List Event) (stopped : Option Stop) (turn : Turn)
    → LacksUnless kept turn → new ≡ old → made ≡ [] → stopped ≡ None → TurnsUnless kept refusals end old new made stopped turn
lacked true refusals end old new made stopped turn h same none runs = (h, same, none, runs)
lacked false refusals end old new made stopped turn h same none runs =
    subst (TurnsOver refusals end old new made stopped) (sym h) (same, none, runs)

pub lacked_owns : (kept : Bool) (written : List ℕ) (old new : PageTable) (turn : Turn) → LacksUnless kept turn → new ≡ old
    → TurnOwns written old new turn
lacked_owns true written old new turn h same = subst (TurnOwns written old new) (sym h) same
lacked_owns false written old new turn h same =
    subst (TurnOwns written old new) (sym h) (subst (KeepsOwned old) (sym same) (λ n owned. owned))

-- the same turn, by another name
pub unless_as : (kept other : Bool) (refusals : Refusals) (end end' : TurnEnd) (old new : State) (made : List Event) (stopped : Option Stop)
    (turn : Turn) → other ≡ kept → end' ≡ end → TurnsUnless kept refusals end old new made stopped turn
    → TurnsUnless other refusals end' old new made stopped turn
unless_as kept other refusals end end' old new made stopped turn same is h =
    subst (λ (e : TurnEnd). TurnsUnless other refusals e old new made stopped turn) (sym is)
    (subst (λ (b : Bool). TurnsUnless b refusals end old new made stopped turn) (sym same) h)

pub over_as : (refusals : Refusals) (end end' : TurnEnd) (old before new : State) (made events : List Event) (stopped : Option Stop)
    (turn : Turn) → end' ≡ end → before ≡ old → events ≡ made → TurnsOver refusals end old new made stopped turn
    → TurnsOver refusals end' before new events stopped turn
over_as refusals end end' old before new made events stopped turn is same more h =
    subst (λ (e : TurnEnd). TurnsOver refusals e before new events stopped turn) (sym is)
    (subst (λ (s : State). TurnsOver refusals end s new events stopped turn) (sym same)
    (subst (λ (l : List Event). TurnsOver refusals end old new l stopped turn) (sym more) h))

-- an instruction is due
pub needs_executes : (config : Config) (s : State) → (s.count ≡ config.budget → ⊥) → is_poll_due config s ≡ false
    → is_delivery_due config s ≡ false → needs_vectors config s ≡ instruction_needs s.core
unfolding needs_vectors
needs_executes config s not none other =
    let test : (s.count == config.budget) ≡ false = grind (arith, nat_tests) in rw (test, none, other) refl

pub over_made : (kept : Bool) (refusals : Refusals) (end : TurnEnd) (old new : State) (made : List Event) (stopped : Option Stop)
    (turn : Turn)
    → (turn ≡ turns.NeedsBank → ⊥) → TurnsUnless kept refusals end old new made stopped turn
    → TurnsOver refusals end old new made stopped turn
over_made true refusals end old new made stopped turn not h = absurd (not h.0)
over_made false refusals end old new made stopped turn not h = h
