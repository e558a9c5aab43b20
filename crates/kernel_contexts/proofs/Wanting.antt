-- Turns for which memory was wanting.
use Rattle.std.proofs.Common.{◌≡◌, ℕ, Bool, false, Option, Some, refl, ap, sym, ◌∙◌, subst}
use Rattle.std.specs.Prelude.{nat_le}
use Rattle.sm_types.specs.declared.shared_op.SharedOp.{SharedOp}
use Rattle.sm_types.specs.declared.stop.Stop.{Stop}
use Rattle.shared_region.specs.Tickets.{Refusals}
use Rattle.shared_region.specs.declared.port.PortStop.TheVariants as stop
use Rattle.machine_step.specs.Effect.{Effect, Raises, Calls, Becomes, Asks}
use Rattle.machine_step.specs.Step as step
use Rattle.kernel_contexts.specs.State.{State}
use Rattle.kernel_contexts.specs.Call.{TurnEnd, Goes, Yields, Ends, asking, journal_limit}
use Rattle.kernel_contexts.specs.Call as call
use Rattle.kernel_contexts.proofs.Turns.{asks_with_room}
use Rattle.kernel_contexts.specs.Asked.{Refuses}
use Rattle.kernel_contexts.specs.Context.{Turns, GoesOrAsks}
use Rattle.sm_types.specs.declared.config.Config.{Config}
use Rattle.mem_access.specs.Bank.{bank_state}
use Rattle.mem_access.specs.declared.bank.Bank.{Bank}
use Rattle.machine_step.specs.ProcessorState.{vector_bytes}
use Rattle.machine_step.specs.Effect.{effect_of}
use Rattle.machine_step.specs.Machine.{HasRoomToStep}
use Rattle.machine_step.specs.declared.machine.Machine.{Machine}
use Rattle.kernel_contexts.specs.GuestThread.{held_state, bare_state}
use Rattle.kernel_contexts.specs.Turn.{is_poll_due, is_delivery_due}
use Rattle.kernel_contexts.specs.declared.guest.GuestThread.{GuestThread}
use Rattle.kernel_contexts.proofs.Bare.{with_vectors}
use Rattle.kernel_contexts.specs.Wanting.{EffectWants, CallWants, FrameWants, TurnWants, Polls, Delivers, Executes}
use Rattle.kernel_contexts.specs.declared.guest.asking.Refusal.{Refusal}
use Rattle.kernel_contexts.specs.declared.guest.asking.Refusal.TheVariants.{Full, Port}
use Rattle.kernel_contexts.specs.declared.context.Turn.{Turn}
use Rattle.kernel_contexts.specs.declared.context.Turn.TheVariants.{Memory}

-- the turn is another, of the same kind
pub goes_so : (takes : Type 0) (end end' : TurnEnd) → end' ≡ end → GoesOrAsks takes end → GoesOrAsks takes end'
goes_so takes end end' is h = subst (GoesOrAsks takes) (sym is) h

goes_alone : (takes : Type 0) (end : TurnEnd) → GoesOrAsks ⊥ end → GoesOrAsks takes end
goes_alone takes (Goes s) h = tt
goes_alone takes (Yields s) h = absurd h
goes_alone takes (call.Asks op next) h = absurd h
goes_alone takes (Ends s stop) h = absurd h

-- an operation for whose event the journal has room
pub asking_goes : (takes : Type 0) (events : ℕ) (before : State) (op : SharedOp) (next : ℕ → State)
    → nat_le journal_limit events ≡ false → takes → GoesOrAsks takes (asking events before op next)
asking_goes takes events before op next left h = goes_so takes (call.Asks op next) _ (asks_with_room events before op next left) h

-- a turn that asks no operation
pub quiet_wants : (wants : Type 0) (end : TurnEnd) (old new : State) (stopped : Option Stop) (turn : Turn)
    → Turns wants end old new stopped turn → turn ≡ Memory → wants
quiet_wants wants end old new stopped Memory h e = h.0
quiet_wants wants end old new stopped turn h e = cc

pub quiet_goes : (wants takes : Type 0) (end : TurnEnd) (old new : State) (stopped : Option Stop) (turn : Turn)
    → Turns wants end old new stopped turn → turn ≡ Memory → GoesOrAsks takes end
quiet_goes wants takes end old new stopped Memory h e = goes_alone takes end h.1
quiet_goes wants takes end old new stopped turn h e = cc

-- an instruction for which a step wanted memory
pub effect_wants : (refusals : Refusals) (has_room calls : Type 0) (room : Bool) (effect : Effect)
    → step.MayWantMemory refusals room effect → (has_room → step.AsksFor effect (λ op. refusals.takes_memory))
    → EffectWants refusals.takes_memory has_room calls effect
effect_wants refusals has_room calls room (Raises exception) h asks = absurd h
effect_wants refusals has_room calls room (Calls number) h asks = absurd h
effect_wants refusals has_room calls room (Becomes core) h asks = asks
effect_wants refusals has_room calls room (Asks op next) h asks = h.1

-- the turn of an operation that was not made for want of memory
pub refusal_wants : (refusal : Refusal) (old new : State) (stopped : Option Stop) (turn : Turn)
    → Refuses refusal old new stopped turn → turn ≡ Memory → refusal ≡ Port stop.Memory
refusal_wants Full old new stopped turn h e = cc (h.0, e)
refusal_wants (Port stop.TraceEnds) old new stopped turn h e = cc (h.0, e)
refusal_wants (Port stop.TraceDiffers) old new stopped turn h e = cc (h.0, e)
refusal_wants (Port stop.Memory) old new stopped turn h e = refl

-- the same turn, of a guest thread of which nothing has changed that a turn sees
module _ (takes : Type 0) (bank : Bank) where
  abbrev instruction_at : Config → State → Machine → Type 0
  instruction_at config s m =
      EffectWants takes (HasRoomToStep m (Some bank)) (CallWants takes s) (effect_of (vector_bytes config.vl) s.core)

  pub wants_as : (free free' : Type 0) (g g' : GuestThread) → (free → free') → bare_state g' ≡ bare_state g
      → g'.config ≡ g.config → g'.machine ≡ g.machine → TurnWants free' takes g' bank → TurnWants free takes g bank
  wants_as free free' g g' so state config machine (Polls spent due wants) =
      Polls (λ e. spent (ap (λ (s : State). s.count) state ∙ e ∙ ap (λ (k : Config). k.budget) (sym config)))
      (sym (λ i. is_poll_due (config i) (with_vectors (bank_state bank) (state i))) ∙ due) (λ free. wants (so free))
  wants_as free free' g g' so state config machine (Delivers spent due wants) =
      Delivers (λ e. spent (ap (λ (s : State). s.count) state ∙ e ∙ ap (λ (k : Config). k.budget) (sym config)))
      (sym (λ i. is_delivery_due (config i) (with_vectors (bank_state bank) (state i))) ∙ due)
      (subst (λ (m : Machine). FrameWants g.config (held_state g bank) m.pages) machine
      (subst (λ (s : State). FrameWants g.config (with_vectors (bank_state bank) s) g'.machine.pages) state
      (subst (λ (k : Config). FrameWants k (held_state g' bank) g'.machine.pages) config wants)))
  wants_as free free' g g' so state config machine (Executes spent poll delivery wants) =
      Executes (λ e. spent (ap (λ (s : State). s.count) state ∙ e ∙ ap (λ (k : Config). k.budget) (sym config)))
      (sym (λ i. is_poll_due (config i) (with_vectors (bank_state bank) (state i))) ∙ poll)
      (sym (λ i. is_delivery_due (config i) (with_vectors (bank_state bank) (state i))) ∙ delivery)
      (λ free. subst (λ (m : Machine). instruction_at g.config (held_state g bank) m) machine
      (subst (λ (s : State). instruction_at g.config (with_vectors (bank_state bank) s) g'.machine) state
      (subst (λ (k : Config). instruction_at k (held_state g' bank) g'.machine) config (wants (so free)))))
