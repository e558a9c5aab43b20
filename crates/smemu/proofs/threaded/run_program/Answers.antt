use Rattle.std.proofs.Common.{rules, refl, Err, Ok}
use Rattle.std.specs.String.{string_bytes}
use Rattle.cmd_words.specs.Command.{request_of}
use Rattle.cmd_words.specs.declared.command.Command.TheVariants as command
use Rattle.smemu.specs.Rejections.{ProgramFile}
use Rattle.smemu.specs.Views.{CarriesOut}
use Rattle.smemu.specs.declared.answer.Answer.TheVariants as answer
use Rattle.smemu.specs.declared.answer.Text.TheVariants as texts
use Rattle.smemu.specs.declared.refusal.Refusal.TheVariants as refusal
use Rattle.smemu.proofs.Opened.{one_opened, one_refused}
use Rattle.smemu.proofs.threaded.run_program.Goals as goal

pub returns-in_err-file : goal.returns-in_err-file
returns-in_err-file g c =
    let request = request_of (command.Run c.args.program c.args.config.now) in
    let new = c.open_program.new.files in
    let ends : CarriesOut g.F.Files.fetched g.F.Files.view request c.args.files.now new (Err c.in_err-file.field-0.0) =
    one_refused g.F.Files.fetched g.F.Files.view request (record { name = string_bytes c.args.program; kind = ProgramFile })
    c.args.files.now new refl c.open_program.ensures.fetched c.open_program.ensures.kept
    c.in_err-file.field-0.0 c.in_err-file.ensures.unopened in
    search rules

pub returns-in-Ok : goal.returns-in-Ok
returns-in-Ok g c =
    one_opened g.F.Files.fetched g.F.Files.view (request_of (command.Run c.args.program c.args.config.now))
    (record { name = string_bytes c.args.program; kind = ProgramFile }) c.args.files.now c.open_program.new.files refl
    c.open_program.ensures.fetched c.open_program.ensures.kept c.in_ok-file.file.bytes.items c.in_ok-file.ensures.opened
    (Ok (answer.Text (texts.Report c.in-Ok.report)))
    (record { config = c.args.config.now; given = refl; report = rw c.as_slice.ensures.value at c.in-Ok.ensures })

pub returns : goal.returns
returns g c =
    one_opened g.F.Files.fetched g.F.Files.view (request_of (command.Run c.args.program c.args.config.now))
    (record { name = string_bytes c.args.program; kind = ProgramFile }) c.args.files.now c.open_program.new.files refl
    c.open_program.ensures.fetched c.open_program.ensures.kept c.in_ok-file.file.bytes.items c.in_ok-file.ensures.opened
    (Err refusal.Memory) tt
