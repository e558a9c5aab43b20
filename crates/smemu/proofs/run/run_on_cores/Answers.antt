use Rattle.smemu.proofs.Threads.{whole_run}
use Rattle.smemu.proofs.run.run_on_cores.Goals as goal

pub returns : goal.returns
returns g c =
    let run = c.in_ok-run.run' in
    whole_run c.args.image.now c.args.config.now run.contexts.items run.words c.in_ok-run.ensures.run
    (λ one. absurd (c.requires one))
