use Rattle.std.proofs.Common.{[], Ok, Err}
use Rattle.cmd_words.specs.Command.{request_of}
use Rattle.cmd_words.specs.declared.command.Command.TheVariants as command
use Rattle.smemu.specs.declared.answer.Answer.TheVariants as answer
use Rattle.smemu.specs.declared.answer.Text.TheVariants as texts
use Rattle.smemu.specs.declared.refusal.Refusal.TheVariants as refusal
use Rattle.smemu.proofs.Opened.{all_opened, none_opened}
use Rattle.smemu.proofs.threaded.bench.Goals as goal

pub returns-in-Ok : goal.returns-in-Ok
returns-in-Ok g c =
    all_opened g.F.Files.fetched g.F.Files.view (request_of (command.Bench c.args.number c.args.cores)) [] c.args.files.now c.args.files.now
    (none_opened g.F.Files.fetched g.F.Files.view
    (request_of (command.Bench c.args.number c.args.cores)) c.args.files.now) (Ok (answer.Text (texts.Summary c.in-Ok.summary))) (record {
      config = c.bench_options-config.result;
      given = c.bench_options-config.ensures.given;
      bench = c.in-Ok.ensures;
    })

pub returns-in-Err : goal.returns-in-Err
returns-in-Err g c =
    all_opened g.F.Files.fetched g.F.Files.view (request_of (command.Bench c.args.number c.args.cores)) [] c.args.files.now c.args.files.now
    (none_opened g.F.Files.fetched g.F.Files.view
    (request_of (command.Bench c.args.number c.args.cores)) c.args.files.now) (Err refusal.Memory) tt
