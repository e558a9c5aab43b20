use Rattle.smemu.proofs.Threads.{whole_run}
use Rattle.smemu.proofs.Worlds.{serial_ends}
use Rattle.smemu.proofs.run.run_on_one.Goals as goal

pub returns : goal.returns
returns c =
    let run = c.in_ok-run.run' in
    whole_run c.args.image.now c.args.config.now run.contexts.items run.words c.in_ok-run.ensures.run
    (λ one. serial_ends c.args.image.now c.args.config.now run.contexts.items run.words c.in_ok-run.ensures.serial)
