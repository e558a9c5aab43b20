use Rattle.std.proofs.Common.{rules, inr, refl}
use Rattle.report_reader.specs.Told.{block_said}
use Rattle.smemu.specs.Views.{IsShortRefusal}
use Rattle.smemu.proofs.Checkpoints.{before_short, few_used, stands_so, stops_so}
use Rattle.smemu.proofs.checkpoint.stand_at.Goals as goal

pub returns-in_err-context-clause-short : goal.returns-in_err-context-clause-short
returns-in_err-context-clause-short c =
    let short : IsShortRefusal c.args.image.now c.args.config.now c.args.thread (block_said c.args.block.now) c.args.count
    c.in_err-context.field-0.0 =
    before_short c.args.image.now c.args.config.now c.args.thread (block_said c.args.block.now) c.args.count c.in_err-context.field-0.0
    c.in_err-context.ensures.before in
    search rules

pub returns-in-Some-clause-short : goal.returns-in-Some-clause-short
returns-in-Some-clause-short c = inr (
  c.in-Some.stop,
  stops_so c.args.image.now c.args.config.now c.args.thread c.args.block.now.journal.items c.args.count c.in_ok-context.context
      c.in_ok-context.ensures.shown c.in-Some.stop (search rules),
  refl,
)

pub returns-in-None-clause-stands : goal.returns-in-None-clause-stands
returns-in-None-clause-stands c =
    stands_so c.args.image.now c.args.config.now c.args.thread c.args.block.now.journal.items c.args.count c.in_ok-context.context
    c.in_ok-context.ensures.shown (search rules)

pub returns-in-None-clause-events : goal.returns-in-None-clause-events
returns-in-None-clause-events c =
    few_used c.args.image.now c.args.config.now c.args.thread c.args.block.now.journal.items c.args.count c.in_ok-context.context
    c.in_ok-context.ensures.shown
