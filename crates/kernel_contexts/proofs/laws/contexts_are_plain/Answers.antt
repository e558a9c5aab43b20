use Rattle.std.proofs.Common.{subst, arith}
use Rattle.sve_vectors.specs.Lengths.{vector_bytes}
use Rattle.mem_access.specs.Bank.{bank_state}
use Rattle.mem_access.specs.declared.bank.Bank.{Bank}
use Rattle.machine_step.specs.Machine.{core_of}
use Rattle.machine_step.specs.declared.machine.Machine.{Machine}
use Rattle.signal_frames.specs.Law.{IsInRange}
use Rattle.kernel_contexts.specs.Context.{save_area_of, state_of}
use Rattle.kernel_contexts.proofs.laws.contexts_are_plain.Goals as goal

pub returns : goal.returns
returns c =
    let context = c.args.context.now in
    let bank = save_area_of context in
    record {
      range = subst (λ vl. IsInRange (vector_bytes vl) (state_of context).core) context.fits.lengths.vl
          (subst (λ (m : Machine). IsInRange (vector_bytes bank.vectors.vl) (core_of m (bank_state bank))) c.machine.ensures
          (subst (λ (b : Bank). IsInRange (vector_bytes b.vectors.vl) (core_of c.machine.result.now (bank_state b)))
          c.bank.ensures.value c.machines_are_in_range.ensures));
      mask = omega (arith, c.mask-mask.ensures);
      unmasked = context.guest.unmasked_at_first;
    }
