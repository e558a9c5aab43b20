-- States but for their vectors, and with them.
use Rattle.std.proofs.Common.{◌≡◌, ap, ◌∙◌, sym}
use Rattle.sm_types.specs.declared.config.Config.{Config}
use Rattle.mem_access.specs.declared.bank.Bank.{Bank}
use Rattle.machine_step.specs.declared.machine.Machine.{Machine}
use Rattle.kernel_contexts.specs.SaveArea.{ComesBack}
use Rattle.machine_step.specs.ProcessorState.{VectorState}
use Rattle.kernel_contexts.specs.State.{State}
use Rattle.kernel_contexts.specs.GuestThread.{guest_state, bare_state}
use Rattle.kernel_contexts.specs.declared.guest.GuestThread.{GuestThread}

-- with other vectors
abbrev pub with_vectors : VectorState → State → State
with_vectors v s = record s { core = record s.core { bank = v } }

pub same_with : (old new : GuestThread) (v : VectorState) → bare_state new ≡ bare_state old → guest_state new v ≡ guest_state old v
same_with old new v is = ap (with_vectors v) is

-- a bank that came back, and a machine that has changed since, but for its modes
pub back_with : (config given : Config) (m other : Machine) (old new : Bank) → ComesBack config m old new → given ≡ config
    → other.streaming ≡ m.streaming → other.za_on ≡ m.za_on → ComesBack given other old new
back_with config given m other old new h same streaming za_on = record {
  same = h.same;
  fit = record {
    lengths = record {
      vl = h.fit.lengths.vl ∙ ap (λ (k : Config). k.vl) (sym same);
      svl = h.fit.lengths.svl ∙ ap
          (λ (k : Config). k.svl) (sym same);
    };
    mode = record { streaming = h.fit.mode.streaming ∙ sym streaming; off = λ off. h.fit.mode.off (sym za_on ∙ off) };
  };
}
