use Rattle.std.proofs.Common.{◌≢◌, ◌<◌, ◌^◌, List, length, ap, sym, ◌∙◌, subst}
use Rattle.sm_types.specs.declared.shared_op.Event.{Event}
use Rattle.shared_region.specs.Ports.{ReplayEvents}
use Rattle.kernel_contexts.specs.Loose.{loose_state, loose_config, loose_thread, loose_events}
use Rattle.lone_runner.specs.Rest.{IsPartingFrom}
use Rattle.lone_runner.specs.Resumed.{IsResumed}
use Rattle.lone_runner.specs.declared.fault.AloneFault.{AloneFault}
use Rattle.lone_runner.specs.declared.fault.AloneFault.TheVariants.{Memory}
use Rattle.lone_runner.proofs.Given.{passed_on}
use Rattle.lone_runner.proofs.resume.resume_alone.Goals as goal

pub resume_to_end-requires : goal.resume_to_end-requires
resume_to_end-requires c =
    let ahead = ap (λ (t : ReplayEvents). t.ahead) c.new-ticket.ensures ∙ c.in_ok-events.ensures.items in
    record {
      held = record {
        number = ap (λ (t : ReplayEvents). t.thread) c.new-ticket.ensures ∙ c.thread.ensures;
        fits = subst (λ (l : List Event). length l < 2 ^ 32) (sym ahead) c.requires.events;
      };
      runs = c.requires.runs;
      most = c.requires.count;
    }

pub returns-clause-run : goal.returns-clause-run
returns-clause-run c =
    let ahead = ap (λ (t : ReplayEvents). t.ahead) c.new-ticket.ensures ∙ c.in_ok-events.ensures.items in
    subst (λ (l : List Event). IsResumed c.args.loose l c.args.count c.resume_to_end.new.loose c.in_ok-stop.stop) ahead
    c.in_ok-stop.ensures.run

pub returns-in_err-stop-clause-parts : goal.returns-in_err-stop-clause-parts
returns-in_err-stop-clause-parts c =
    let from = c.args.loose in
    let ahead = ap (λ (t : ReplayEvents). t.ahead) c.new-ticket.ensures ∙ c.in_ok-events.ensures.items in
    let fault = c.in_err-stop.field-0.0 in
    passed_on c.from_residual-in_err-stop.result fault
    (λ (f : AloneFault). f ≢ Memory → IsPartingFrom (loose_config from) (loose_thread from) (loose_state from) (loose_events from)
    c.args.rest.now c.args.count f)
    c.from_residual-in_err-stop.ensures.1
    (λ told. subst (λ (l : List Event). IsPartingFrom (loose_config from) (loose_thread from) (loose_state from) (loose_events from) l
    c.args.count fault) ahead (c.in_err-stop.ensures.parts told))
