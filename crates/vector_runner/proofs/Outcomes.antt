-- What an instruction came to, and its line.
use Rattle.std.proofs.Common.{◌≡◌, ℕ, List, Result, Ok, Err, Vec, Global, refl, sym, ap, ◌∙◌, subst}
use Rattle.std.specs.Prelude.{IfOk, codes}
use Rattle.sm_types.specs.declared.Memory.{Memory}
use Rattle.sm_types.specs.declared.length.VecLen.{VecLen}
use Rattle.za_array.specs.Array.{ArrayState, zero_array}
use Rattle.machine_step.specs.Effect.{Effect, Raises, Calls, Becomes, Asks}
use Rattle.machine_step.specs.Machine.{IsInMode}
use Rattle.machine_step.specs.Step.{AsksFor}
use Rattle.vector_runner.specs.declared.state.State.{State}
use Rattle.vector_runner.specs.declared.vector.Modes.{Modes}
use Rattle.vector_runner.specs.Prepared.{IsFor}
use Rattle.vector_runner.specs.Answer.{effect_text}

-- the line of an access to a shared word
shared_text : (effect : Effect) → AsksFor effect (λ op. Unit {0}) → effect_text effect ≡ codes "shared"
unfolding effect_text
shared_text (Raises exception) h = absurd h
shared_text (Calls number) h = absurd h
shared_text (Becomes s) h = absurd h
shared_text (Asks op next) h = refl

-- a line that was made
pub made_text : {E : Type 0} (given : Result (Vec ℕ Global) E) (made : Result (Vec ℕ Global) Memory) (text : List ℕ)
    → IfOk given (λ line. line.items ≡ text) → IfOk made (λ line. given ≡ Ok line) → IfOk made (λ line. line.items ≡ text)
made_text given (Err it) text h is = tt
made_text {E} given (Ok line) text h is =
    let P : Result (Vec ℕ Global) E → Type 0 = λ r. IfOk r (λ line. line.items ≡ text) in subst P is h

pub as_effect : (made : Result (Vec ℕ Global) Memory) (effect other : Effect) → effect ≡ other
    → IfOk made (λ line. line.items ≡ effect_text other) → IfOk made (λ line. line.items ≡ effect_text effect)
as_effect (Err it) effect other e h = tt
as_effect (Ok line) effect other e h = h ∙ ap effect_text (sym e)

pub as_shared : (made : Result (Vec ℕ Global) Memory) (effect : Effect) → AsksFor effect (λ op. Unit {0})
    → IfOk made (λ line. line.items ≡ codes "shared") → IfOk made (λ line. line.items ≡ effect_text effect)
as_shared (Err it) effect asks h = tt
as_shared (Ok line) effect asks h = h ∙ sym (shared_text effect asks)

-- a state of a vector is in the mode of its machine
pub in_mode : (vl svl : VecLen) (modes : Modes) (s : State) → IsFor vl svl modes s → IsInMode s.bank s.machine
in_mode vl svl modes s h = record {
  streaming = h.streaming ∙ sym h.machine;
  off = λ e. (
      let zero = h.off (sym h.za_on ∙ e) in
      zero ∙ ap zero_array (sym (ap (λ (z : ArrayState). z.svl) zero)));
}
