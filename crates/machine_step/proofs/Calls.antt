-- An instruction calls the kernel exactly where its effect is a call.
use Rattle.std.proofs.Common.{◌≡◌, ℕ, Bool, true, false, Option, Some, None, cond, refl, ap, sym, ◌∙◌}
use Rattle.std.specs.Prelude.{◌&&◌, option_and_then}
use Rattle.std.specs.Option.{option_or}
use Rattle.sm_types.specs.declared.insn.Insn.{Insn}
use Rattle.sm_types.specs.declared.insn.Insn.TheVariants as insn
use Rattle.sm_types.specs.declared.insn.System.{System}
use Rattle.sm_types.specs.declared.insn.System.TheVariants.{Svc, Brk, Udf, Hint, Dmb, Dsb, Isb}
use Rattle.sm_types.specs.declared.shared_op.SharedOp.{SharedOp}
use Rattle.sm_types.specs.declared.stop.Exception.{Exception}
use Rattle.shared_region.specs.Tickets.{Refusals}
use Rattle.mem_access.specs.SharedAccess.{touched}
use Rattle.machine_step.specs.ProcessorState.{ProcessorState}
use Rattle.machine_step.specs.Effect.{Effect, Raises, Calls, Becomes, Asks, accesses, system_effect, next_of, perform, unless_fault, memory_fault}
use Rattle.machine_step.specs.Effect.{data_fault, early_fault, fault_of, effect_of, insn_at}
use Rattle.machine_step.specs.Needs.{is_call, is_call_insn, is_call_where, calls_unless, is_call_at, is_calls}
use Rattle.machine_step.specs.Execution.{unless_refused}
use Rattle.machine_step.specs.Step.{Tells, TellsUnless, AsksFor, MayWantMemory}
use Rattle.machine_step.specs.declared.step.StepEnd.{StepEnd}
use Rattle.machine_step.specs.declared.step.StepEnd.TheVariants as end

accesses_call : (op : Option SharedOp) (it : Insn) (s : ProcessorState) → is_calls (accesses op it s) ≡ false
accesses_call None it s = refl
accesses_call (Some op) it s = refl

system_calls : (x : System) (s : ProcessorState) → is_calls (system_effect x s) ≡ is_call x
system_calls (Svc imm) s = refl
system_calls (Brk imm) s = refl
system_calls (Udf imm) s = refl
system_calls (Hint imm) s = refl
system_calls (Dmb imm) s = refl
system_calls (Dsb imm) s = refl
system_calls (Isb imm) s = refl

next_calls : (vl : ℕ) (it : Insn) (s : ProcessorState) → is_calls (next_of vl it s) ≡ is_call_insn it
next_calls vl (insn.System x) s = system_calls x s
next_calls vl (insn.LoadStore x) s = accesses_call (touched (insn.LoadStore x) s.scalars) (insn.LoadStore x) s
next_calls vl (insn.LoadLiteral x) s = accesses_call (touched (insn.LoadLiteral x) s.scalars) (insn.LoadLiteral x) s
next_calls vl (insn.LoadStorePair x) s = accesses_call (touched (insn.LoadStorePair x) s.scalars) (insn.LoadStorePair x) s
next_calls vl (insn.Atomic x) s = accesses_call (touched (insn.Atomic x) s.scalars) (insn.Atomic x) s
next_calls vl other s = refl

-- a call of the kernel makes no access
no_access : (vl : ℕ) (it : Insn) (s : ProcessorState) → is_call_insn it ≡ true → memory_fault vl it s ≡ None
no_access vl (insn.System x) s h = refl
no_access vl other s h = cc

module _ (vl : ℕ) (s : ProcessorState) where
  abbrev after : Option Exception → Option Insn → Effect
  after (Some exception) found = Raises exception
  after None found = perform vl found s

  as_after : (fault : Option Exception) → unless_fault vl fault s ≡ after fault (insn_at s)
  as_after (Some exception) = refl
  as_after None = refl

  found_calls : (it : Insn) (fault : Option Exception) (call : Bool) → is_call_insn it ≡ call → (call ≡ true → fault ≡ None)
      → is_calls (after (option_or fault None) (Some it)) ≡ call
  found_calls it None call is none = next_calls vl it s ∙ is
  found_calls it (Some exception) true is none = let clash = none refl in cc
  found_calls it (Some exception) false is none = refl

  where_calls : (found : Option Insn)
      → is_calls (after (option_or (option_and_then (λ it. memory_fault vl it s) found) None) found) ≡ is_call_where found
  where_calls None = refl
  where_calls (Some it) = found_calls it (memory_fault vl it s) (is_call_insn it) refl (no_access vl it s)

  by_early : (early : Option Exception)
      → is_calls (unless_fault vl (option_or early (option_or (data_fault vl s) None)) s) ≡ calls_unless early s
  by_early (Some exception) = refl
  by_early None = ap is_calls (as_after (option_or (data_fault vl s) None)) ∙ where_calls (insn_at s)

  pub call_told : is_calls (effect_of vl s) ≡ is_call_at s
  unfolding effect_of fault_of is_call_at
  call_told = by_early (early_fault s)

-- an answer that tells a call, of an effect that is one
abbrev pub is_call_end : StepEnd → Bool
is_call_end (end.Next event) = false
is_call_end (end.Call number) = true
is_call_end (end.Raise exception) = false
is_call_end end.NeedsBank = false
is_call_end end.NoRoom = false
is_call_end end.TraceEnds = false
is_call_end end.TraceDiffers = false
is_call_end end.Memory = false

asks_no_call : (effect : Effect) (holds : SharedOp → Type 0) → AsksFor effect holds → is_calls effect ≡ false
asks_no_call (Raises exception) holds h = absurd h
asks_no_call (Calls number) holds h = absurd h
asks_no_call (Becomes core) holds h = absurd h
asks_no_call (Asks op next) holds h = refl

wants_no_call : (refusals : Refusals) (room : Bool) (effect : Effect) → MayWantMemory refusals room effect → is_calls effect ≡ false
wants_no_call refusals room (Raises exception) h = refl
wants_no_call refusals room (Calls number) h = absurd h
wants_no_call refusals room (Becomes core) h = refl
wants_no_call refusals room (Asks op next) h = refl

pub tells_call : (refusals : Refusals) (room : Bool) (effect : Effect) (old new : ProcessorState) (end : StepEnd)
    → Tells refusals room effect old new end → is_calls effect ≡ is_call_end end
tells_call refusals room effect old new (end.Next None) h = ap is_calls h
tells_call refusals room effect old new (end.Next (Some event)) h = ap is_calls h.asks
tells_call refusals room effect old new (end.Call number) h = ap is_calls h.0
tells_call refusals room effect old new (end.Raise exception) h = ap is_calls h.0
tells_call refusals room effect old new end.NeedsBank h = absurd h
tells_call refusals room effect old new end.NoRoom h = asks_no_call effect _ h.2
tells_call refusals room effect old new end.TraceEnds h = asks_no_call effect _ h.2
tells_call refusals room effect old new end.TraceDiffers h = asks_no_call effect _ h.2
tells_call refusals room effect old new end.Memory h = wants_no_call refusals room effect h.1

-- ---- a step that may want a bank of its own

pub tells_so : (wants : Bool) (refusals : Refusals) (room : Bool) (effect : Effect) (old new : ProcessorState) (end : StepEnd)
    → wants ≡ false → Tells refusals room effect old new end → TellsUnless wants refusals room effect old new end
tells_so true refusals room effect old new end not h = cc
tells_so false refusals room effect old new end not h = h

pub tells_need : (wants : Bool) (refusals : Refusals) (room : Bool) (effect : Effect) (old : ProcessorState)
    → wants ≡ true → TellsUnless wants refusals room effect old old end.NeedsBank
tells_need true refusals room effect old is = (refl, refl)
tells_need false refusals room effect old is = cc

-- an instruction that uses the bank needs it where it is allowed
pub needs_allowed : (executed : Bool) (mode : Option Exception) (uses : Bool) → uses ≡ true
    → cond executed (unless_refused mode true) false ≡ cond executed (unless_refused mode uses) false
needs_allowed executed mode uses is = ap (λ b. cond executed (unless_refused mode b) false) (sym is)

pub and_true : (a b : Bool) → a ≡ true → b ≡ (a && b)
and_true true b e = refl
and_true false b e = cc
