use Rattle.std.proofs.Common.{rules, ◌≡◌, ◌≢◌, ◌≤◌, ◌<◌, ◌∙◌, ◌++◌, List, sym, ap, refl, subst, arith}
use Rattle.sm_types.specs.declared.shared_op.Event.{Event}
use Rattle.std.specs.Prelude.{Ok, Err}
use Rattle.kernel_contexts.specs.Context.{state_of, config_of, image_of, thread_of, journal_of}
use Rattle.lone_runner.specs.Parting.{IsPartingBefore}
use Rattle.lone_runner.specs.Replayed.{place_of, WantsOnTheWay}
use Rattle.lone_runner.specs.declared.fault.AloneFault.TheVariants.{Memory, EndsEarly}
use Rattle.lone_runner.proofs.Several.{before_goes_on, held_still, turns_fall, up_to_count}
use Rattle.lone_runner.proofs.Shown.{before_on, before_strays, before_ends, shown_here, shown_ended}
use Rattle.lone_runner.proofs.alone.run_on.Goals as goal

pub turns-init : goal.turns-init
turns-init c = record {
  before = c.requires.before;
  held = c.requires.ticket;
  runs = c.requires.runs;
  journal = refl;
  same = record { config = refl; thread = refl; image = refl };
}

pub returns-in_err-stop-clause-parts : goal.returns-in_err-stop-clause-parts
returns-in_err-stop-clause-parts c =
    let h = c.turns.invariant in
    let start = c.args.context.now in
    let fault = c.in_err-stop.field-0.0 in
    let less : (state_of c.turns.context).count < c.args.count = subst (λ n. n < c.args.count) c.count.ensures c.turns-test.true in
    let parts : fault ≢ Memory
    → IsPartingBefore (image_of start) (config_of start) (thread_of start)
    (journal_of start ++ c.args.ticket.now.ahead) c.args.count fault =
    λ told. before_strays _ _ _ _ _ c.turns.context c.turns.ticket h.same.config h.same.thread h.before less fault
    (c.in_err-stop.ensures.astray told) in
    search rules

pub turns-preserved : goal.turns-preserved
turns-preserved c =
    let h = c.turns.invariant in
    let e = c.in_ok-stop.ensures in
    let f = c.advance_several.ensures in
    let mid = c.make_turn.new.context in
    let last = c.advance_several.new.self in
    let ticket = c.make_turn.new.ticket in
    let less : (state_of c.turns.context).count < c.args.count = subst (λ n. n < c.args.count) c.count.ensures c.turns-test.true in
    let config = e.same.config ∙ h.same.config in
    let thread = e.same.thread ∙ h.same.thread in
    let before = before_on _ _ _ _ _ c.turns.context c.turns.ticket h.same.config h.same.thread h.before less mid ticket
    (e.turn ∙ ap (place_of mid ticket) c.in_default.is) e.journal in
    record {
      before = before_goes_on _ _ _ _ c.args.count mid last ticket config thread c.advance_several.result.count f.turns f.journal
          (up_to_count (state_of mid).count (state_of last).count c.args.count c.advance_several.result.count _ before.most c.count-now.ensures
          f.count f.few)
          f.count before;
      held = held_still mid last ticket e.ticket f.home f.same.thread f.journal;
      runs = f.stop;
      journal = ap (λ (l : List Event). l ++ ticket.ahead) f.journal ∙ e.journal ∙ h.journal;
      same = record {
        config = f.same.config ∙ config;
        thread = f.same.thread ∙ thread;
        image = f.same.image ∙ e.same.image ∙ h.same.image;
      };
    }

pub returns-then-made-count-clause-parts : goal.returns-then-made-count-clause-parts
returns-then-made-count-clause-parts c = λ _.
    let h = c.turns.invariant in
    let e = c.in_ok-stop.ensures in
    let less : (state_of c.turns.context).count < c.args.count = subst (λ n. n < c.args.count) c.count.ensures c.turns-test.true in
    let start = c.args.context.now in
    subst
    (λ n. IsPartingBefore (image_of start) (config_of start) (thread_of start)
    (journal_of start ++ c.args.ticket.now.ahead) c.args.count
    (EndsEarly n c.in-Some.stop))
    (sym c.count-made.ensures)
    (before_ends _ _ _ _ _ c.turns.context c.turns.ticket h.same.config h.same.thread h.before less c.make_turn.new.context
    c.make_turn.new.ticket c.in-Some.stop
    (e.turn ∙ ap (place_of c.make_turn.new.context c.make_turn.new.ticket) c.in-Some.is)
    (subst (λ n. n < c.args.count) c.count-made.ensures c.if-made-count.true))

pub returns-in-turns-clause-shown : goal.returns-in-turns-clause-shown
returns-in-turns-clause-shown c =
    let h = c.turns.invariant in
    let e = c.in_ok-stop.ensures in
    let less : (state_of c.turns.context).count < c.args.count = subst (λ n. n < c.args.count) c.count.ensures c.turns-test.true in
    shown_ended _ _ _ _ _ c.turns.context c.turns.ticket h.same.config h.same.thread h.before less c.make_turn.new.context
    c.make_turn.new.ticket c.in-Some.stop
    (e.turn ∙ ap (place_of c.make_turn.new.context c.make_turn.new.ticket) c.in-Some.is) e.journal (e.stop ∙ c.in-Some.is) e.ticket.home
    (e.same.thread ∙ h.same.thread)
    (subst (λ n. c.args.count ≤ n) c.count-made.ensures c.if-made-count.false)

pub returns-clause-shown : goal.returns-clause-shown
returns-clause-shown c =
    let h = c.turns.invariant in
    shown_here _ _ _ _ _ c.turns.context c.turns.ticket h.before h.held.home h.same.thread h.runs
    (subst (λ n. c.args.count ≤ n) c.count.ensures c.turns-test.false)

pub returns-in_err-stop-clause-memory : goal.returns-in_err-stop-clause-memory
returns-in_err-stop-clause-memory c =
    let h = c.turns.invariant in
    let wants : c.in_err-stop.field-0.0 ≡ Memory → WantsOnTheWay c.args.context.now c.args.ticket.now =
    λ is. record {
      now = c.turns.context;
      its = c.turns.ticket;
      same = h.same;
      runs = h.runs;
      held = h.held;
      journal = h.before.way.whole;
      wants = c.in_err-stop.ensures.memory (ap Err is);
    } in
    search rules

pub turns-smaller : goal.turns-smaller
turns-smaller c =
    let e = c.in_ok-stop.ensures in
    let f = c.advance_several.ensures in
    turns_fall (config_of c.turns.context) (config_of c.make_turn.new.context) (config_of c.advance_several.new.self) _ _ _
    c.advance_several.result.count e.same.config f.same.config (e.made (ap Ok c.in_default.is)) e.few f.made

pub overflow_sub-count : goal.overflow_sub-count
overflow_sub-count c =
    let h = c.turns.invariant in
    let e = c.in_ok-stop.ensures in
    let mid = c.make_turn.new.context in
    let ticket = c.make_turn.new.ticket in
    let less : (state_of c.turns.context).count < c.args.count = subst (λ n. n < c.args.count) c.count.ensures c.turns-test.true in
    let before = before_on _ _ _ _ _ c.turns.context c.turns.ticket h.same.config h.same.thread h.before less mid ticket
    (e.turn ∙ ap (place_of mid ticket) c.in_default.is) e.journal in
    omega (arith, before.most, c.count-now.ensures)
