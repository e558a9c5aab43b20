use Rattle.std.proofs.Common.{rules, ◌≡◌, ◌≢◌, ◌∙◌, sym, ap, refl, None}
use Rattle.std.specs.Prelude.{Ok}
use Rattle.kernel_contexts.specs.Loose.{loose_state, loose_config, loose_thread, loose_events, IsSameLoose}
use Rattle.lone_runner.specs.Parting.{parting_at}
use Rattle.lone_runner.specs.Rest.{IsPartingFrom}
use Rattle.lone_runner.specs.Resumed.{loose_place}
use Rattle.lone_runner.specs.declared.fault.AloneFault.TheVariants.{Memory}
use Rattle.lone_runner.proofs.Several.{not_passed, up_to_count}
use Rattle.lone_runner.proofs.Resumes.{resume_begins, resume_parts, resume_strays, resume_on, resume_ends, resume_goes_on}
use Rattle.lone_runner.proofs.Resumes.{rest_turns_fall, loose_held_still, parted_at}
use Rattle.lone_runner.proofs.resume.resume_to_end.Goals as goal

pub turns-init : goal.turns-init
turns-init c = record {
  way = resume_begins c.args.loose.now c.args.ticket.now.ahead c.args.count c.args.ticket.now refl c.requires.most;
  held = c.requires.held;
  runs = c.requires.runs;
  whole = refl;
  same = record { config = refl; thread = refl };
}

pub returns-in_err-stop-clause-parts : goal.returns-in_err-stop-clause-parts
returns-in_err-stop-clause-parts c =
    let h = c.turns.invariant in
    let from = c.args.loose.now in
    let fault = c.in_err-stop.field-0.0 in
    let parts : fault ≢ Memory
    → IsPartingFrom (loose_config from) (loose_thread from) (loose_state from) (loose_events from) c.args.ticket.now.ahead c.args.count
    fault =
    λ told. resume_strays from c.args.ticket.now.ahead c.args.count c.turns.loose c.turns.ticket h.same h.way fault
    (c.in_err-stop.ensures.astray told) in
    search rules

pub returns-in-Some-clause-parts : goal.returns-in-Some-clause-parts
returns-in-Some-clause-parts c = λ _.
    let h = c.turns.invariant in
    resume_parts c.args.loose.now c.args.ticket.now.ahead c.args.count c.turns.loose c.turns.ticket h.same h.way _ c.in-Some.fault
    c.in_ok-stop.ensures.turn
    (parted_at c.args.count c.make_turn.new.loose c.make_turn.new.ticket _ _ _ c.count.ensures
    (sym (c.parting_of.ensures c.make_turn.new.ticket.ahead (sym c.left.ensures)) ∙ c.in-Some.is))

pub returns-in-Some-stop-clause-run : goal.returns-in-Some-stop-clause-run
returns-in-Some-stop-clause-run c =
    let h = c.turns.invariant in
    let e = c.in_ok-stop.ensures in
    let new = c.make_turn.new.loose in
    let ticket = c.make_turn.new.ticket in
    let is = c.in-Some-stop.is in
    resume_ends c.args.loose.now c.args.ticket.now.ahead c.args.count c.turns.loose c.turns.ticket h.same h.way new ticket _
    (e.turn ∙ ap (loose_place new ticket) is)
    (ap (λ o. parting_at c.args.count (loose_place new ticket o)) (sym is)
    ∙ parted_at c.args.count new ticket _ _ _ c.count.ensures
    (sym (c.parting_of.ensures c.make_turn.new.ticket.ahead (sym c.left.ensures)) ∙ c.in-None.is))

pub turns-preserved : goal.turns-preserved
turns-preserved c =
    let h = c.turns.invariant in
    let e = c.in_ok-stop.ensures in
    let f = c.advance_several.ensures in
    let mid = c.make_turn.new.loose in
    let ticket = c.make_turn.new.ticket in
    let last = c.advance_several.new.self in
    let none = c.in-None-stop.is in
    let same : IsSameLoose c.args.loose.now mid = record {
      config = e.same.config ∙ h.same.config;
      thread = e.same.thread ∙ h.same.thread;
    } in
    let none_parts : parting_at c.args.count (loose_place mid ticket None) ≡ None =
    ap (λ o. parting_at c.args.count (loose_place mid ticket o)) (sym none)
    ∙ parted_at c.args.count mid ticket _ _ _ c.count.ensures
    (sym (c.parting_of.ensures c.make_turn.new.ticket.ahead (sym c.left.ensures)) ∙ c.in-None.is) in
    record {
      way = resume_goes_on c.args.loose.now c.args.ticket.now.ahead c.args.count mid last ticket c.advance_several.result.count same f.turns
          f.events
          (up_to_count (loose_state mid).count (loose_state last).count c.args.count c.advance_several.result.count _
          (not_passed c.args.count (loose_state mid) (loose_events mid) ticket.ahead none_parts)
          c.count-now.ensures f.count f.few)
          (resume_on c.args.loose.now c.args.ticket.now.ahead c.args.count c.turns.loose c.turns.ticket h.same h.way mid ticket
          (e.turn ∙ ap (loose_place mid ticket) none) none_parts);
      held = loose_held_still mid last ticket e.ticket f.same.thread;
      runs = f.stop;
      whole = e.whole ∙ h.whole;
      same = record {
        config = f.same.config ∙ same.config;
        thread = f.same.thread ∙ same.thread;
      };
    }

pub turns-smaller : goal.turns-smaller
turns-smaller c =
    let e = c.in_ok-stop.ensures in
    let f = c.advance_several.ensures in
    let none = c.in-None-stop.is in
    rest_turns_fall (loose_config c.turns.loose) (loose_config c.make_turn.new.loose) (loose_config c.advance_several.new.self) _ _ _
    c.advance_several.result.count e.same.config f.same.config (e.made (ap Ok none)) e.few f.made
