use Rattle.std.proofs.Common.{ap}
use Rattle.report_text.specs.Ends.{ends_of}
use Rattle.report_text.specs.Report.{report_text}
use Rattle.smemu.specs.Views.{run_text}
use Rattle.smemu.proofs.command.run_image.Goals as goal

pub returns : goal.returns
unfolding run_text
returns c =
    let run = c.in_ok-run.run' in
    record {
      program = c.args.image.now;
      loads = c.requires;
      ends = ends_of run.contexts.items;
      words = run.words;
      run = c.in_ok-run.ensures;
      is_text = ap (λ digest. report_text c.args.config.now digest (ends_of run.contexts.items) run.words) c.digest.ensures;
    }
