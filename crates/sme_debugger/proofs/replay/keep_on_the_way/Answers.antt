use Rattle.std.proofs.Common.{◌≢◌, ◌+◌, ◌<◌, ◌≤◌, Option, ◌∙◌, subst, arith}
use Rattle.sm_types.specs.declared.stop.Stop.{Stop}
use Rattle.lone_runner.specs.Parting.{IsParting}
use Rattle.lone_runner.specs.Resumed.{IsReached}
use Rattle.lone_runner.specs.declared.fault.AloneFault.{AloneFault}
use Rattle.lone_runner.specs.declared.fault.AloneFault.TheVariants.{Memory, EndsEarly}
use Rattle.lone_runner.proofs.Given.{passed_on}
use Rattle.sme_debugger.proofs.Joined.{ended_before}
use Rattle.sme_debugger.proofs.Keeping.{keeping_on, keeping_parts}
use Rattle.sme_debugger.proofs.replay.keep_on_the_way.Goals as goal

pub states-init : goal.states-init
states-init c = record {
  keeping = λ r h. h;
  held = c.requires.held;
  runs = c.requires.runs;
  most = c.requires.most;
  within = omega arith;
}

pub returns-in_err-stop-clause-parts : goal.returns-in_err-stop-clause-parts
returns-in_err-stop-clause-parts c = λ r h.
    let inv = c.states.invariant in
    let most = inv.most in
    let within = inv.within in
    let under : c.states.next + c.from-distance.result ≤ c.args.count = omega (arith, c.if-next-from.false, c.from.ensures) in
    passed_on c.from_residual.result c.in_err-stop.field-0.0
    (λ (f : AloneFault). f ≢ Memory → IsParting r.program r.config r.thread r.journal c.args.count f) c.from_residual.ensures.1
    (λ told. keeping_parts r c.states.later.items c.states.loose c.states.ticket (inv.keeping r h) c.args.count c.in_err-stop.field-0.0
    (omega (arith, most, within)) (c.in_err-stop.ensures.parts told c.args.count under))

pub returns-in-Some-clause-parts : goal.returns-in-Some-clause-parts
returns-in-Some-clause-parts c = λ r h told.
    let inv = c.states.invariant in
    let most = inv.most in
    let within = inv.within in
    let next = c.states.next + c.from-distance.result in
    let less : next < c.args.count = omega (arith, c.if-next-from.false, c.from.ensures) in
    keeping_parts r c.states.later.items c.states.loose c.states.ticket (inv.keeping r h) c.args.count (EndsEarly next c.in-Some.stop)
    (omega (arith, most, within))
    (ended_before c.states.loose c.states.ticket.ahead next c.args.count c.resume_to.new.loose c.in-Some.stop c.resume_to.new.ticket
    (subst (λ (o : Option Stop). IsReached c.states.loose c.states.ticket.ahead next c.resume_to.new.loose o c.resume_to.new.ticket)
    c.in-Some.is c.in_ok-stop.ensures.reached)
    less c.args.count (omega arith))

pub states-preserved : goal.states-preserved
states-preserved c =
    let inv = c.states.invariant in
    let most = inv.most in
    let next = c.states.next + c.from-distance.result in
    let e = c.in_ok-stop.ensures in
    let reached = subst (λ (o : Option Stop).
    IsReached c.states.loose c.states.ticket.ahead next c.resume_to.new.loose o c.resume_to.new.ticket)
    c.in-None.is e.reached in
    let counts = reached.counts in
    record {
      keeping = λ r h. c.keep_state.ensures r c.resume_to.new.ticket
          (keeping_on r c.states.later.items c.states.loose c.states.ticket (inv.keeping r h) next c.resume_to.new.loose
          c.resume_to.new.ticket
          (omega (arith, most)) reached (e.stop ∙ c.in-None.is) e.same e.whole e.ticket);
      held = e.ticket;
      runs = e.stop ∙ c.in-None.is;
      most = omega (arith, counts);
      within = omega (arith, c.if-next-from.false, c.from.ensures);
    }

pub returns-then-not-keep_state-clause-keeps : goal.returns-then-not-keep_state-clause-keeps
returns-then-not-keep_state-clause-keeps c = λ r h.
    let inv = c.states.invariant in
    let most = inv.most in
    let next = c.states.next + c.from-distance.result in
    let e = c.in_ok-stop.ensures in
    let reached = subst (λ (o : Option Stop).
    IsReached c.states.loose c.states.ticket.ahead next c.resume_to.new.loose o c.resume_to.new.ticket)
    c.in-None.is e.reached in
    c.keep_state.ensures r c.resume_to.new.ticket
    (keeping_on r c.states.later.items c.states.loose c.states.ticket (inv.keeping r h) next c.resume_to.new.loose c.resume_to.new.ticket
    (omega (arith, most)) reached (e.stop ∙ c.in-None.is) e.same e.whole e.ticket)
