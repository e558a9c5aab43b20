use Rattle.std.proofs.Common.{◌≡◌, Bool, true, false, refl, sym, ap, ◌∙◌}
use Rattle.sm_types.specs.declared.length.VecLen.{VecLen}
use Rattle.sve_vectors.specs.State.{SveState, with_streaming, zero_state}
use Rattle.za_array.specs.Array.{ArrayState}
use Rattle.vector_runner.proofs.state.State.blank.Goals as goal

-- zeros stay zeros
fresh : (vl svl : VecLen) (on : Bool) → with_streaming (zero_state vl svl false) on ≡ zero_state vl svl on
fresh vl svl true = refl
fresh vl svl false = refl

pub invariant_of-bank : goal.invariant_of-bank
invariant_of-bank c =
    let set = c.set_streaming.ensures ∙ ap (λ s. with_streaming s c.args.modes.streaming) c.in_ok-bank.ensures.vectors
    ∙ fresh c.args.vl c.args.svl c.args.modes.streaming in
    record { one_length = ap (λ (z : ArrayState). z.svl) c.in_ok-bank.ensures.za ∙ sym (ap (λ (s : SveState). s.svl) set) }

pub returns-clause-modes : goal.returns-clause-modes
returns-clause-modes c =
    let set = c.set_streaming.ensures ∙ ap (λ s. with_streaming s c.args.modes.streaming) c.in_ok-bank.ensures.vectors
    ∙ fresh c.args.vl c.args.svl c.args.modes.streaming in
    record {
      vl = ap (λ (s : SveState). s.vl) set;
      svl = ap (λ (s : SveState). s.svl) set;
      streaming = ap (λ (s : SveState). s.streaming) set;
      machine = refl;
      za_on = refl;
      off = λ e. c.in_ok-bank.ensures.za;
    }
