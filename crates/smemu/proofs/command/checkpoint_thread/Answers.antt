use Rattle.std.proofs.Common.{rules, ℕ, List, [], ◌∷◌, refl, Err}
use Rattle.std.specs.String.{string_bytes}
use Rattle.cmd_words.specs.Command.{request_of}
use Rattle.cmd_words.specs.declared.command.Command.TheVariants as command
use Rattle.smemu.specs.Rejections.{ProgramFile, ReportFile}
use Rattle.smemu.specs.Requests.{Named}
use Rattle.smemu.specs.Views.{CarriesOut}
use Rattle.smemu.proofs.Opened.{all_opened, and_opened, none_opened, refused_next}
use Rattle.smemu.proofs.Checkpoints.{checkpoint_accepted}
use Rattle.smemu.proofs.command.checkpoint_thread.Goals as goal

abbrev named : List ℕ → Named
named name = record { name = name; kind = ProgramFile }

abbrev reported : List ℕ → Named
reported name = record { name = name; kind = ReportFile }

pub returns-in_err-file : goal.returns-in_err-file
returns-in_err-file g c =
    let ends : CarriesOut g.F.Files.fetched g.F.Files.view
    (request_of (command.Ckpt c.args.program c.args.report c.args.thread c.args.count))
    c.args.files.now c.open_program.new.files (Err c.in_err-file.field-0.0) =
    refused_next _ _ _ [] (reported (string_bytes c.args.report) ∷ []) [] (named (string_bytes c.args.program)) _ _ _ refl
    (none_opened _ _ _ _) c.open_program.ensures.fetched c.open_program.ensures.kept _ c.in_err-file.ensures.unopened in
    search rules

pub returns-in_err-read : goal.returns-in_err-read
returns-in_err-read g c =
    let program = named (string_bytes c.args.program) in
    let one = and_opened program (none_opened g.F.Files.fetched g.F.Files.view
    (request_of (command.Ckpt c.args.program c.args.report c.args.thread c.args.count)) c.args.files.now) c.open_program.ensures.fetched
    c.open_program.ensures.kept c.in_ok-file.ensures.opened in
    let ends : CarriesOut g.F.Files.fetched g.F.Files.view
    (request_of (command.Ckpt c.args.program c.args.report c.args.thread c.args.count))
    c.args.files.now c.open_report.new.files (Err c.in_err-read.field-0.0) =
    refused_next _ _ _ (program ∷ []) [] _ (reported (string_bytes c.args.report)) _ _ _ refl one c.open_report.ensures.fetched
    c.open_report.ensures.kept _ c.in_err-read.ensures.unopened in
    search rules

pub returns : goal.returns
returns g c =
    let one = and_opened (named (string_bytes c.args.program)) (none_opened g.F.Files.fetched g.F.Files.view
    (request_of (command.Ckpt c.args.program c.args.report c.args.thread c.args.count)) c.args.files.now)
    c.open_program.ensures.fetched c.open_program.ensures.kept c.in_ok-file.ensures.opened in
    all_opened _ _ (request_of (command.Ckpt c.args.program c.args.report c.args.thread c.args.count)) _ _ _
    (and_opened (reported (string_bytes c.args.report)) one c.open_report.ensures.fetched c.open_report.ensures.kept
    c.in_ok-read.ensures.opened) c.checkpoint_report.result
    (checkpoint_accepted (string_bytes c.args.program) (string_bytes c.args.report) c.args.thread c.args.count c.in_ok-file.file.bytes.items
    c.in_ok-read.read.bytes.items c.checkpoint_report.result (rw c.as_slice-bytes.ensures.value at c.checkpoint_report.ensures))
