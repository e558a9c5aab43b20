-- Which pages are owned after a turn.
use Rattle.std.proofs.Common.{◌≡◌, ℕ, Bool, true, false, cond, List, [], Option, Some, None, ap, sym, ◌∙◌, subst}
use Rattle.sm_types.specs.declared.length.VecLen.{VecLen}
use Rattle.sm_types.specs.declared.shared_op.Event.{Event}
use Rattle.sm_types.specs.declared.stop.Stop.{Stop}
use Rattle.shared_region.specs.Tickets.{Refusals}
use Rattle.paged_memory.specs.PageTable.{PageTable, OwnsAlso, KeepsOwned, IsRefused}
use Rattle.mem_access.specs.declared.bank.Bank.{Bank}
use Rattle.machine_step.specs.ProcessorState.{ProcessorState, vector_bytes}
use Rattle.machine_step.specs.Effect.{Effect, effect_of}
use Rattle.machine_step.specs.Owned.{StepOwns, step_writes}
use Rattle.machine_step.specs.Step.{Tells}
use Rattle.machine_step.proofs.Owned.{also_same}
use Rattle.machine_step.specs.declared.step.StepEnd.TheVariants.{Next}
use Rattle.signal_frames.specs.Frame.{frame_addresses, byte_of}
use Rattle.signal_frames.specs.declared.delivery.FrameStop.{FrameStop}
use Rattle.signal_frames.specs.declared.delivery.FrameStop.TheVariants.{BadFrame, Memory}
use Rattle.sm_types.specs.declared.version.Version.{Version}
use Rattle.sm_types.specs.Options.{version_of}
use Rattle.kernel_contexts.specs.GuestThread.{held_state}
use Rattle.kernel_contexts.specs.Turn.{is_poll_due, is_delivery_due}
use Rattle.kernel_contexts.specs.Owned.{TurnOwns, effect_writes, instruction_writes, frame_writes, turn_writes}
use Rattle.kernel_contexts.specs.declared.guest.GuestThread.{GuestThread}
use Rattle.kernel_contexts.specs.declared.context.Turn.{Turn}
use Rattle.kernel_contexts.specs.declared.context.Turn.TheVariants as turn

-- what writes no byte
pub same_owns : (written : List ℕ) (old new : PageTable) (end : Turn) → new ≡ old → written ≡ [] → TurnOwns written old new end
same_owns written old new turn.Ran same none = also_same written old new same none
same_owns written old new turn.Yielded same none = same
same_owns written old new turn.NeedsBank same none = same
same_owns written old new (turn.Stopped stop) same none = same
same_owns written old new turn.TraceEnds same none = same
same_owns written old new turn.TraceDiffers same none = same
same_owns written old new turn.Memory same none = λ n owned. rw same owned

-- a thread that stops
pub stops_owned : (written : List ℕ) (old new : PageTable) (end : Turn) (stop : Stop) → end ≡ turn.Stopped stop → new ≡ old
    → TurnOwns written old new end
stops_owned written old new end stop is same = subst (λ (e : Turn). TurnOwns written old new e) (sym is) same

-- one that goes on
pub ran_owned : (written : List ℕ) (old mid new : PageTable) (end : Turn) → end ≡ turn.Ran → new ≡ mid → OwnsAlso old mid written
    → TurnOwns written old new end
ran_owned written old mid new end is same owns =
    subst (λ (e : Turn). TurnOwns written old new e) (sym is) (subst (λ (p : PageTable). OwnsAlso old p written) (sym same) owns)

-- the same bytes, said otherwise
pub turn_as : (xs ys : List ℕ) (old new : PageTable) (end : Turn) → xs ≡ ys → TurnOwns ys old new end → TurnOwns xs old new end
turn_as xs ys old new end same owns = subst (λ (bytes : List ℕ). TurnOwns bytes old new end) (sym same) owns

-- what is due
pub polls_write : (g : GuestThread) (bank : Bank) → is_poll_due g.config (held_state g bank) ≡ true → turn_writes g bank ≡ []
polls_write g bank due =
    ap (λ b. cond b [] (cond (is_delivery_due g.config (held_state g bank)) (frame_writes g bank) (instruction_writes g bank))) due

after_poll : (g : GuestThread) (bank : Bank) → is_poll_due g.config (held_state g bank) ≡ false
    → turn_writes g bank ≡ cond (is_delivery_due g.config (held_state g bank)) (frame_writes g bank) (instruction_writes g bank)
after_poll g bank none =
    ap (λ b. cond b [] (cond (is_delivery_due g.config (held_state g bank)) (frame_writes g bank) (instruction_writes g bank))) none

pub deliveries_write : (g : GuestThread) (bank : Bank) → is_poll_due g.config (held_state g bank) ≡ false
    → is_delivery_due g.config (held_state g bank) ≡ true → turn_writes g bank ≡ frame_writes g bank
deliveries_write g bank none due =
    after_poll g bank none ∙ ap (λ b. cond b (frame_writes g bank) (instruction_writes g bank)) due

pub instructions_write : (g : GuestThread) (bank : Bank) → is_poll_due g.config (held_state g bank) ≡ false
    → is_delivery_due g.config (held_state g bank) ≡ false → turn_writes g bank ≡ instruction_writes g bank
instructions_write g bank none other =
    after_poll g bank none ∙ ap (λ b. cond b (frame_writes g bank) (instruction_writes g bank)) other

-- VL of the options is that of the bank
pub writes_at_length : (g : GuestThread) (bank : Bank) → bank.vectors.vl ≡ g.config.vl
    → instruction_writes g bank
    ≡ effect_writes (step_writes g.machine (Some bank)) (effect_of (vector_bytes bank.vectors.vl) (held_state g bank).core)
writes_at_length g bank same =
    ap (λ (l : VecLen). effect_writes (step_writes g.machine (Some bank)) (effect_of (vector_bytes l) (held_state g bank).core)) (sym same)

-- an instruction that is executed
pub next_owns : (refusals : Refusals) (room : Bool) (effect : Effect) (before after : ProcessorState) (written : List ℕ)
    (old new : PageTable) (event : Option Event) → Tells refusals room effect before after (Next event)
    → StepOwns written old new (Next event) → OwnsAlso old new (effect_writes written effect)
next_owns refusals room effect before after written old new None h owns =
    subst (λ (e : Effect). OwnsAlso old new (effect_writes written e)) (sym h) owns
next_owns refusals room effect before after written old new (Some event) h owns =
    also_same (effect_writes written effect) old new owns (ap (effect_writes written) h.asks)

-- the frame of a signal
pub frames_at_length : (g : GuestThread) (bank : Bank) (version : Version) → version ≡ version_of g.config
    → bank.vectors.vl ≡ g.config.vl
    → frame_writes g bank ≡ frame_addresses version (vector_bytes bank.vectors.vl) (held_state g bank).core
frames_at_length g bank version is same =
    ap (λ (l : VecLen). frame_addresses (version_of g.config) (vector_bytes l) (held_state g bank).core) (sym same)
    ∙ ap (λ (v : Version). frame_addresses v (vector_bytes bank.vectors.vl) (held_state g bank).core) (sym is)

pub bad_stays : (old new : PageTable) (stop : FrameStop) (address : ℕ) → stop ≡ BadFrame address → IsRefused old new (byte_of stop)
    → new ≡ old
bad_stays old new stop address is refused = subst (λ (s : FrameStop). IsRefused old new (byte_of s)) is refused

pub wants_keep : (old new : PageTable) (stop : FrameStop) → stop ≡ Memory → IsRefused old new (byte_of stop) → KeepsOwned old new
wants_keep old new stop is refused = subst (λ (s : FrameStop). IsRefused old new (byte_of s)) is refused
