use Rattle.std.proofs.Common.{◌≢◌, ◌≤◌, ◌<◌, ◌∙◌, sym, ap, refl, subst, arith}
use Rattle.std.specs.Prelude.{Ok}
use Rattle.kernel_contexts.specs.Loose.{loose_state, loose_config, IsSameLoose}
use Rattle.lone_runner.specs.Resumed.{loose_place, IsPartingFromAll}
use Rattle.lone_runner.specs.declared.fault.AloneFault.{AloneFault}
use Rattle.lone_runner.specs.declared.fault.AloneFault.TheVariants.{Memory, EndsEarly}
use Rattle.lone_runner.proofs.Given.{passed_on}
use Rattle.lone_runner.proofs.Several.{up_to_count}
use Rattle.lone_runner.proofs.Resumes.{rest_turns_fall, loose_held_still}
use Rattle.lone_runner.proofs.Reaching.{comes_from, coming_on, coming_strays, coming_ends, coming_goes_on, reached_here, reached_ended}
use Rattle.lone_runner.proofs.resume.resume_to.Goals as goal

pub turns-init : goal.turns-init
turns-init c = record {
  coming = comes_from c.args.loose.now c.args.ticket.now.ahead c.args.count c.args.ticket.now refl c.requires.most;
  held = c.requires.held;
  runs = c.requires.runs;
  whole = refl;
  same = record { config = refl; thread = refl };
}

pub returns-in_err-stop-clause-parts : goal.returns-in_err-stop-clause-parts
returns-in_err-stop-clause-parts c =
    let h = c.turns.invariant in
    let fault = c.in_err-stop.field-0.0 in
    let less : (loose_state c.turns.loose).count < c.args.count = subst (λ n. n < c.args.count) c.count.ensures c.turns-test.true in
    passed_on c.from_residual.result fault
    (λ (f : AloneFault). f ≢ Memory → IsPartingFromAll c.args.loose.now c.args.ticket.now.ahead c.args.count f) c.from_residual.ensures.1
    (λ told. coming_strays c.args.loose.now c.args.ticket.now.ahead c.args.count c.turns.loose c.turns.ticket h.same h.coming less fault
    (c.in_err-stop.ensures.astray told))

pub turns-preserved : goal.turns-preserved
turns-preserved c =
    let h = c.turns.invariant in
    let e = c.in_ok-stop.ensures in
    let f = c.advance_several.ensures in
    let mid = c.make_turn.new.loose in
    let last = c.advance_several.new.self in
    let ticket = c.make_turn.new.ticket in
    let less : (loose_state c.turns.loose).count < c.args.count = subst (λ n. n < c.args.count) c.count.ensures c.turns-test.true in
    let same : IsSameLoose c.args.loose.now mid = record {
      config = e.same.config ∙ h.same.config;
      thread = e.same.thread ∙ h.same.thread;
    } in
    let coming = coming_on c.args.loose.now c.args.ticket.now.ahead c.args.count c.turns.loose c.turns.ticket h.same h.coming less mid
    ticket
    (e.turn ∙ ap (loose_place mid ticket) c.in_default.is) in
    record {
      coming = coming_goes_on c.args.loose.now c.args.ticket.now.ahead c.args.count mid last ticket c.advance_several.result.count same f.turns
          f.events
          (up_to_count (loose_state mid).count (loose_state last).count c.args.count c.advance_several.result.count _ coming.most
          c.count-now.ensures f.count f.few)
          f.count coming;
      held = loose_held_still mid last ticket e.ticket f.same.thread;
      runs = f.stop;
      whole = e.whole ∙ h.whole;
      same = record {
        config = f.same.config ∙ same.config;
        thread = f.same.thread ∙ same.thread;
      };
    }

pub returns-then-made-count-clause-parts : goal.returns-then-made-count-clause-parts
returns-then-made-count-clause-parts c = λ _.
    let h = c.turns.invariant in
    let e = c.in_ok-stop.ensures in
    let mid = c.make_turn.new.loose in
    let ticket = c.make_turn.new.ticket in
    let less : (loose_state c.turns.loose).count < c.args.count = subst (λ n. n < c.args.count) c.count.ensures c.turns-test.true in
    subst (λ n. IsPartingFromAll c.args.loose.now c.args.ticket.now.ahead c.args.count (EndsEarly n c.in-Some.stop))
    (sym c.count-made.ensures)
    (coming_ends c.args.loose.now c.args.ticket.now.ahead c.args.count c.turns.loose c.turns.ticket h.same h.coming less mid ticket
    c.in-Some.stop
    (e.turn ∙ ap (loose_place mid ticket) c.in-Some.is)
    (subst (λ n. n < c.args.count) c.count-made.ensures c.if-made-count.true))

pub returns-in-turns-clause-reached : goal.returns-in-turns-clause-reached
returns-in-turns-clause-reached c =
    let h = c.turns.invariant in
    let e = c.in_ok-stop.ensures in
    let mid = c.make_turn.new.loose in
    let ticket = c.make_turn.new.ticket in
    let less : (loose_state c.turns.loose).count < c.args.count = subst (λ n. n < c.args.count) c.count.ensures c.turns-test.true in
    reached_ended c.args.loose.now c.args.ticket.now.ahead c.args.count c.turns.loose c.turns.ticket h.same h.coming less mid ticket
    c.in-Some.stop
    (e.turn ∙ ap (loose_place mid ticket) c.in-Some.is)
    (subst (λ n. c.args.count ≤ n) c.count-made.ensures c.if-made-count.false)

pub returns-clause-reached : goal.returns-clause-reached
returns-clause-reached c =
    let h = c.turns.invariant in
    reached_here c.args.loose.now c.args.ticket.now.ahead c.args.count c.turns.loose c.turns.ticket h.coming
    (subst (λ n. c.args.count ≤ n) c.count.ensures c.turns-test.false)

pub turns-smaller : goal.turns-smaller
turns-smaller c =
    let e = c.in_ok-stop.ensures in
    let f = c.advance_several.ensures in
    rest_turns_fall (loose_config c.turns.loose) (loose_config c.make_turn.new.loose) (loose_config c.advance_several.new.self) _ _ _
    c.advance_several.result.count e.same.config f.same.config (e.made (ap Ok c.in_default.is)) e.few f.made

pub overflow_sub-count : goal.overflow_sub-count
overflow_sub-count c =
    let h = c.turns.invariant in
    let e = c.in_ok-stop.ensures in
    let mid = c.make_turn.new.loose in
    let ticket = c.make_turn.new.ticket in
    let less : (loose_state c.turns.loose).count < c.args.count = subst (λ n. n < c.args.count) c.count.ensures c.turns-test.true in
    let coming = coming_on c.args.loose.now c.args.ticket.now.ahead c.args.count c.turns.loose c.turns.ticket h.same h.coming less mid
    ticket
    (e.turn ∙ ap (loose_place mid ticket) c.in_default.is) in
    omega (arith, coming.most, c.count-now.ensures)
