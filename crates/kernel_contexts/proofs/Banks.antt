-- A bank of zeros, as a thread begins with.
use Rattle.std.proofs.Common.{◌≡◌, false, None, Bool, ap, sym, ◌∙◌}
use Rattle.sm_types.specs.declared.config.Config.{Config}
use Rattle.sm_types.specs.declared.length.VecLen.{VecLen}
use Rattle.sve_vectors.specs.State.{SveState, zero_state}
use Rattle.za_array.specs.Array.{ArrayState, zero_array}
use Rattle.mem_access.specs.Bank.{bank_state}
use Rattle.mem_access.specs.VectorState.{zero_bank}
use Rattle.mem_access.specs.declared.bank.Bank.{Bank}
use Rattle.machine_step.specs.declared.machine.Machine.{Machine}
use Rattle.machine_step.specs.ProcessorState.{VectorState}
use Rattle.kernel_contexts.specs.SaveArea.{IsSaveArea}

-- what vectors and an array hold
abbrev with_registers : SveState → ArrayState → VectorState
with_registers v a = record { registers = v.registers; za = a.vectors }

module _ (config : Config) (bank : Bank) (vectors : bank.vectors ≡ zero_state config.vl config.svl false)
    (za : bank.za ≡ zero_array config.svl) where
  pub zero_held : bank_state bank ≡ zero_bank config.vl config.svl
  unfolding zero_bank
  zero_held =
      ap (λ (v : SveState). with_registers v (bank.za)) vectors ∙ ap
      (λ (a : ArrayState). with_registers (zero_state config.vl config.svl false) a) za

  pub zero_fits : (home : Bool) (given : Config) (m : Machine) → given ≡ config → m.streaming ≡ false → bank.owner ≡ None
      → IsSaveArea home given m bank
  zero_fits home given m same mode owner = record {
    lengths = record {
      vl = ap (λ (v : SveState). v.vl) vectors ∙ ap (λ (k : Config). k.vl) (sym same);
      svl = ap (λ (v : SveState). v.svl) vectors ∙ ap (λ (k : Config). k.svl) (sym same);
    };
    mode = λ _. record {
      streaming = ap (λ (v : SveState). v.streaming) vectors ∙ sym mode;
      off = λ off. za ∙ ap (λ (l : VecLen). zero_array l) (sym (ap (λ (a : ArrayState). a.svl) za));
    };
    owner = owner;
  }
