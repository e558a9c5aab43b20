use Rattle.std.proofs.Common.{rules, ◌≢◌, List, subst}
use Rattle.sm_types.specs.declared.shared_op.Event.{Event}
use Rattle.lone_runner.specs.Parting.{IsPartingBefore}
use Rattle.lone_runner.specs.declared.fault.AloneFault.TheVariants.{Memory}
use Rattle.smemu.proofs.checkpoint.run_block_to.Goals as goal

pub returns-in-Err : goal.returns-in-Err
returns-in-Err c =
    let other : c.in-Err.fault ≢ Memory = search rules in
    record {
      image = tt;
      config = tt;
      shown = tt;
      before =
          subst (λ (journal : List Event).
          IsPartingBefore c.args.image.now c.args.config.now c.args.thread journal c.args.count c.in-Err.fault)
          c.as_slice.ensures.value (c.in-Err.ensures.parts other);
    }
