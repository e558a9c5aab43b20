use Rattle.std.proofs.Common.{rules, ◌≡◌, ◌≢◌, ◌∙◌, sym, ap, refl, List, ◌++◌, None, length}
use Rattle.sm_types.specs.declared.shared_op.Event.{Event}
use Rattle.std.specs.Prelude.{Ok, Err}
use Rattle.plain_lemmas.proofs.Options.{is_some-false}
use Rattle.kernel_contexts.specs.Context.{state_of, config_of, image_of, thread_of, journal_of}
use Rattle.lone_runner.specs.Parting.{IsParting, parting_at}
use Rattle.lone_runner.specs.Replayed.{place_of, WantsOnTheWay}
use Rattle.lone_runner.specs.declared.fault.AloneFault.TheVariants.{Memory}
use Rattle.lone_runner.proofs.Several.{way_goes_on, held_still, not_passed, turns_fall, up_to_count}
use Rattle.lone_runner.proofs.Ways.{way_starts, way_parts, way_strays, way_on, ended, some_of}
use Rattle.lone_runner.proofs.alone.follow.Goals as goal

pub turns-init : goal.turns-init
turns-init c = record {
  way = way_starts c.args.count c.args.context.now c.args.ticket.now c.requires;
  held = c.requires.held;
  runs = c.requires.runs;
  same = record { config = refl; thread = refl; image = refl };
}

pub returns-in_err-stop-clause-parts : goal.returns-in_err-stop-clause-parts
returns-in_err-stop-clause-parts c =
    let h = c.turns.invariant in
    let start = c.args.context.now in
    let fault = c.in_err-stop.field-0.0 in
    let parts : fault ≢ Memory
    → IsParting (image_of start) (config_of start) (thread_of start) c.args.ticket.now.ahead c.args.count fault =
    λ told. way_strays _ _ _ _ _ c.turns.context c.turns.ticket h.same.config h.same.thread h.way fault
    (c.in_err-stop.ensures.astray told) in
    search rules

pub returns-in-Some-clause-parts : goal.returns-in-Some-clause-parts
returns-in-Some-clause-parts c = λ _.
    let h = c.turns.invariant in
    way_parts _ _ _ _ _ c.turns.context c.turns.ticket h.same.config h.same.thread h.way _ c.in-Some.fault c.in_ok-stop.ensures.turn
    (sym c.parting.ensures ∙ c.in-Some.is)

pub returns-then-is_some : goal.returns-then-is_some
returns-then-is_some c =
    let h = c.turns.invariant in
    let e = c.in_ok-stop.ensures in
    let end =
    ended _ _ _ _ _ c.turns.context c.turns.ticket h.same.config h.same.thread h.way c.make_turn.new.context c.make_turn.new.ticket _
    (some_of _ (sym c.is_some.ensures ∙ c.if-is_some.true)) e.turn e.journal (sym c.parting.ensures ∙ c.in-None.is) e.stop e.ticket.home
    (e.same.thread ∙ h.same.thread) in
    record {
      run = end.alone;
      journal = end.events;
      count = end.counts;
      parts = tt;
      memory = λ e. cc;
      same = record {
        config = e.same.config ∙ h.same.config;
        thread = e.same.thread ∙ h.same.thread;
        image = e.same.image ∙ h.same.image;
      };
    }

pub turns-preserved : goal.turns-preserved
turns-preserved c =
    let h = c.turns.invariant in
    let e = c.in_ok-stop.ensures in
    let f = c.advance_several.ensures in
    let mid = c.make_turn.new.context in
    let last = c.advance_several.new.self in
    let none = is_some-false _ (sym c.is_some.ensures ∙ c.if-is_some.false) in
    let config = e.same.config ∙ h.same.config in
    let thread = e.same.thread ∙ h.same.thread in
    let none_parts : parting_at c.args.count (place_of mid c.make_turn.new.ticket None) ≡ None =
    ap (λ o. parting_at c.args.count (place_of mid c.make_turn.new.ticket o)) (sym none) ∙ sym c.parting.ensures ∙ c.in-None.is in
    record {
      way = way_goes_on _ _ _ _ c.args.count mid last c.make_turn.new.ticket config thread c.advance_several.result.count f.turns f.journal
          (up_to_count (state_of mid).count (state_of last).count c.args.count c.advance_several.result.count _
          (not_passed c.args.count (state_of mid) (length (journal_of mid)) c.make_turn.new.ticket.ahead none_parts)
          c.count-now.ensures f.count f.few)
          (way_on _ _ _ _ _ c.turns.context c.turns.ticket h.same.config h.same.thread h.way mid c.make_turn.new.ticket
          (e.turn ∙ ap (place_of mid c.make_turn.new.ticket) none) e.journal none_parts);
      held = held_still mid last c.make_turn.new.ticket e.ticket f.home f.same.thread f.journal;
      runs = f.stop;
      same = record {
        config = f.same.config ∙ config;
        thread = f.same.thread ∙ thread;
        image = f.same.image ∙ e.same.image ∙ h.same.image;
      };
    }

pub returns-in_err-stop-clause-memory : goal.returns-in_err-stop-clause-memory
returns-in_err-stop-clause-memory c =
    let h = c.turns.invariant in
    let wants : c.in_err-stop.field-0.0 ≡ Memory → WantsOnTheWay c.args.context.now c.args.ticket.now =
    λ is. record {
      now = c.turns.context;
      its = c.turns.ticket;
      same = h.same;
      runs = h.runs;
      held = h.held;
      journal = ap (λ (l : List Event). l ++ c.args.ticket.now.ahead) c.requires.journal ∙ h.way.whole;
      wants = c.in_err-stop.ensures.memory (ap Err is);
    } in
    search rules

pub turns-smaller : goal.turns-smaller
turns-smaller c =
    let e = c.in_ok-stop.ensures in
    let f = c.advance_several.ensures in
    let none = is_some-false _ (sym c.is_some.ensures ∙ c.if-is_some.false) in
    turns_fall (config_of c.turns.context) (config_of c.make_turn.new.context) (config_of c.advance_several.new.self) _ _ _
    c.advance_several.result.count e.same.config f.same.config (e.made (ap Ok none)) e.few f.made
