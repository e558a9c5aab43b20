use Rattle.std.proofs.Common.{◌≡◌, ap, sym, ◌∙◌, subst}
use Rattle.report_text.specs.Ends.{ends_of}
use Rattle.report_text.specs.Report.{report_text}
use Rattle.sim_text.specs.Sim.{sim_text}
use Rattle.smemu.specs.Views.{run_text, simulation_text}
use Rattle.world_core.specs.Happens.{world_after, answers_after}
use Rattle.world_core.specs.Kept.{IsKept}
use Rattle.world_core.specs.View.{world_of}
use Rattle.world_core.specs.World.{World, start_world}
use Rattle.smemu.proofs.Worlds.{after-config, each_by, ends_are, one_history, plan_kept}
use Rattle.smemu.proofs.simulate.simulate.Goals as goal

pub returns : goal.returns
unfolding run_text simulation_text
returns c =
    let program = c.args.image.now in
    let config = c.args.config.now in
    let events = c.args.events.now in
    let start = start_world program config in
    let begins = c.in_ok-world.ensures in
    let old = world_of c.in_ok-world.world in
    let last = world_of c.run_events.new.self in
    let have = c.have_ended_early.ensures events old last c.if-have_ended_early.false
    (rw c.as_slice.ensures.value c.in_ok-answers.ensures.all) in
    let happened : last ≡ world_after start events = have.world ∙ ap (λ (w : World). world_after w events) begins in
    let answers : c.in_ok-answers.answers.items ≡ answers_after start events =
    sym c.as_slice.ensures.value ∙ have.answers_of ∙ ap (λ (w : World). answers_after w events) begins in
    let same : last.config ≡ config = ap (λ (w : World). w.config) happened ∙ after-config start events in
    let kept = subst (IsKept program) (sym happened) (plan_kept program config events) in
    let run = c.in_ok-run.run' in
    let ends = ends_of run.contexts.items in
    let are = ends_are last run.contexts.items run.words c.in_ok-run.ensures.threads in
    record {
      program = program;
      loads = c.requires.loads;
      events = events;
      planned = c.requires.planned;
      last = last;
      happened = happened;
      kept = kept;
      ends = ends;
      words = run.words;
      are = are;
      each = each_by program config last kept same ends run.words are;
      one_history = one_history program config last kept same ends run.words are;
      is_text = λ i. sim_text (c.in_ok-lines.ensures i) (answers i) (report_text config (c.digest.ensures i) ends run.words)
          (c.in_ok-run.ensures.history i);
    }
