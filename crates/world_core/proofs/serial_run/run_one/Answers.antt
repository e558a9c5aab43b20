use Rattle.std.proofs.Common.{◌<◌, sym, subst, ◌∙◌}
use Rattle.world_core.specs.View.{world_of}
use Rattle.world_core.specs.declared.serial.Phase.{Phase}
use Rattle.world_core.proofs.Serials.{left_over}
use Rattle.world_core.proofs.UnderWay.{IsUnderWay, begins_way, way_more, way_falls, way_serial, way_run}
use Rattle.world_core.proofs.serial_run.run_one.Goals as goal

pub events-init : goal.events-init
events-init c =
    begins_way c.args.image.now c.args.config.now (world_of c.in_ok-world.world) c.args.config.now.cores_in_range.0 c.in_ok-world.ensures

pub events-preserved : goal.events-preserved
events-preserved c =
    let made = sym c.wants_memory.ensures ∙ c.if-wants_memory.false in
    subst (λ (p : Phase). IsUnderWay c.args.image.now c.args.config.now (world_of c.apply-answer.new.self) p)
    (sym c.phase_after-phase.ensures)
    (way_more c.args.image.now c.args.config.now (world_of c.events.world) c.events.phase c.events.invariant c.in-Some.event
    (world_of c.apply-answer.new.self) c.apply-answer.result (sym c.in-Some.ensures) c.apply-answer.ensures made)

pub events-smaller : goal.events-smaller
events-smaller c =
    let made = sym c.wants_memory.ensures ∙ c.if-wants_memory.false in
    subst (λ (p : Phase). left_over (world_of c.apply-answer.new.self) p < left_over (world_of c.events.world) c.events.phase)
    (sym c.phase_after-phase.ensures)
    (way_falls c.args.image.now c.args.config.now (world_of c.events.world) c.events.phase c.events.invariant c.in-Some.event
    (world_of c.apply-answer.new.self) c.apply-answer.result (sym c.in-Some.ensures) c.apply-answer.ensures made
    c.args.config.now.slice_in_range.0)

pub returns-clause-serial : goal.returns-clause-serial
returns-clause-serial c =
    way_serial c.args.image.now c.args.config.now (world_of c.events.world) c.events.phase c.events.invariant
    c.in_ok-run.run'.contexts.items
    c.in_ok-run.run'.words (sym c.serial_event.ensures ∙ c.in_default.is) c.in_ok-run.ensures

pub returns-clause-run : goal.returns-clause-run
returns-clause-run c =
    way_run c.args.image.now c.args.config.now (world_of c.events.world) c.events.phase c.events.invariant c.in_ok-run.run'.contexts.items
    c.in_ok-run.run'.words (sym c.serial_event.ensures ∙ c.in_default.is) c.in_ok-run.ensures
