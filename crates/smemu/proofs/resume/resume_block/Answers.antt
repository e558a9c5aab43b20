use Rattle.std.proofs.Common.{rules, ◌≢◌, List, subst}
use Rattle.sm_types.specs.declared.shared_op.Event.{Event}
use Rattle.kernel_contexts.specs.Loose.{loose_config, loose_events, loose_state, loose_thread}
use Rattle.lone_runner.specs.Rest.{IsPartingFrom}
use Rattle.lone_runner.specs.Resumed.{IsResumed}
use Rattle.lone_runner.specs.declared.fault.AloneFault.TheVariants.{Memory}
use Rattle.smemu.proofs.Resumes.{rest_left}
use Rattle.smemu.proofs.resume.resume_block.Goals as goal

pub returns-in-Ok-clause-run : goal.returns-in-Ok-clause-run
returns-in-Ok-clause-run c =
    let left =
    rest_left c.as_slice.result.now c.args.block.now.journal.items c.events-used.result (loose_events c.args.loose) c.as_slice.ensures.value
    c.events-used.ensures.value in
    subst (λ (rest : List Event). IsResumed c.args.loose rest c.args.block.now.count c.in-Ok.end.0 c.in-Ok.end.1) left c.in-Ok.ensures.run

pub returns-in-Err : goal.returns-in-Err
returns-in-Err c =
    let other : c.in-Err.fault ≢ Memory = search rules in
    let left =
    rest_left c.as_slice.result.now c.args.block.now.journal.items c.events-used.result (loose_events c.args.loose) c.as_slice.ensures.value
    c.events-used.ensures.value in
    record {
      run = tt;
      same = tt;
      parted =
          subst (λ (rest : List Event). IsPartingFrom (loose_config c.args.loose) (loose_thread c.args.loose) (loose_state c.args.loose)
          (loose_events c.args.loose) rest c.args.block.now.count c.in-Err.fault) left (c.in-Err.ensures.parts other);
    }
