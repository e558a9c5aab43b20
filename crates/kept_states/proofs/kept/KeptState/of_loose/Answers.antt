use Rattle.std.proofs.Common.{◌≤◌, ◌<◌, length, refl, ap, sym, ◌∙◌, subst, arith}
use Rattle.sm_types.specs.Options.{version_of}
use Rattle.sm_types.specs.declared.config.Config.{Config}
use Rattle.mem_access.specs.declared.bank.Bank.{Bank}
use Rattle.machine_step.specs.Machine.{IsInMode}
use Rattle.machine_step.specs.declared.machine.Machine.{Machine}
use Rattle.kernel_contexts.specs.Kernel.{depth_limit}
use Rattle.kernel_contexts.specs.SaveArea.{HasLengths}
use Rattle.kernel_contexts.specs.Watch.{AreOfSignals}
use Rattle.kept_states.proofs.kept.KeptState.of_loose.Goals as goal

pub keep-requires : goal.keep-requires
keep-requires c =
    let loose = c.args.loose.now in
    record {
      number = subst (λ n. n < c.config.result.now.threads) (sym c.thread.ensures)
          (subst (λ (k : Config). loose.guest.number < k.threads) (sym c.config.ensures) loose.guest.number_within);
      few = c.events.ensures.within;
      depth = subst (λ n. n ≤ depth_limit (version_of c.config.result.now)) (sym c.depth.ensures)
          (subst (λ (k : Config). loose.guest.depth ≤ depth_limit (version_of k)) (sym c.config.ensures) loose.guest.depth_within);
      unmasked = λ one. c.mask.ensures ∙ loose.guest.unmasked_at_first (ap version_of (sym c.config.ensures) ∙ one);
      table = c.handlers.ensures.count;
      signals = subst AreOfSignals (sym c.handlers.ensures.value) loose.guest.handlers_of_signals;
      output = omega (arith, ap length c.output.ensures, loose.guest.output_within, loose.guest.output.ok.0);
      lengths = subst (λ (b : Bank). HasLengths c.config.result.now b) (sym c.bank.ensures.value)
          (subst (λ (k : Config). HasLengths k loose.bank) (sym c.config.ensures) loose.fits.lengths);
      mode = subst (λ (b : Bank). IsInMode b c.machine.result.now) (sym c.bank.ensures.value)
          (subst (λ (m : Machine). IsInMode loose.bank m) (sym c.machine.ensures) (loose.fits.mode refl));
    }
