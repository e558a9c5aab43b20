use Rattle.std.proofs.Common.{◌+◌, ◌++◌, take, drop, refl, ap, sym, ◌∙◌, arith}
use Rattle.std.proofs.lemmas.Grind.{common_steps}
use Rattle.std.proofs.lemmas.List.{take_more, take-append-drop, drop_more}
use Rattle.world_core.specs.Happens.{world_after, answers_after}
use Rattle.world_core.specs.View.{world_of}
use Rattle.world_core.proofs.Events.{world_more, answers_more, ended_early}
use Rattle.world_core.proofs.world.World.run_events.Goals as goal

pub events-init : goal.events-init
unfolding world_after answers_after
events-init c = record {
  world = refl;
  answers = c.reserve.ensures.items ∙ c.new-answers.ensures.items;
  count = omega (arith, c.reserve.ensures.len, c.new-answers.ensures.len);
  room = grind (arith, common_steps, c.reserve.ensures.ok, c.is_err.ensures.negation, c.if-is_err.false);
}

pub returns-then-wants_memory-clause-all : goal.returns-then-wants_memory-clause-all
returns-then-wants_memory-clause-all c =
    let h = c.events.invariant in
    let i = c.events.event-index in
    let es = c.args.events.now in
    ended_early (world_of c.args.self.now) (take i es) _ (world_of c.events.self) (world_of c.apply-answer.new.self) c.events.answers.items
    c.push_reserved.new.self.items c.apply-answer.result h.world h.answers c.push_reserved.ensures.items c.apply-answer.ensures es
    (drop (i + 1) es) (sym c.wants_memory.ensures ∙ c.if-wants_memory.true)
    (sym (take-append-drop i es) ∙ ap (λ l. take i es ++ l) (drop_more es i _ c.events-test.true))

pub events-preserved : goal.events-preserved
events-preserved c =
    let h = c.events.invariant in
    let i = c.events.event-index in
    let es = c.args.events.now in
    let made = sym c.wants_memory.ensures ∙ c.if-wants_memory.false in
    record {
      world = world_more (world_of c.args.self.now) (take i es) _ (world_of c.events.self) (world_of c.apply-answer.new.self)
          c.events.answers.items c.push_reserved.new.self.items c.apply-answer.result h.world h.answers c.push_reserved.ensures.items
          c.apply-answer.ensures made
          ∙ ap (world_after (world_of c.args.self.now)) (sym (take_more es i _ c.events-test.true));
      answers = answers_more (world_of c.args.self.now) (take i es) _ (world_of c.events.self) (world_of c.apply-answer.new.self)
          c.events.answers.items c.push_reserved.new.self.items c.apply-answer.result h.world h.answers c.push_reserved.ensures.items
          c.apply-answer.ensures made
          ∙ ap (answers_after (world_of c.args.self.now)) (sym (take_more es i _ c.events-test.true));
      count = omega (arith, h.count, c.push_reserved.ensures.len);
      room = omega (arith, h.room, c.push_reserved.ensures.capacity);
    }
