use Rattle.std.proofs.Common.{rules, ℕ, List, [], ◌∷◌, refl, Err}
use Rattle.std.specs.String.{string_bytes}
use Rattle.cmd_words.specs.Command.{request_of}
use Rattle.cmd_words.specs.declared.command.Command.TheVariants as command
use Rattle.smemu.specs.Rejections.{ProgramFile, ReportFile, ScriptFile}
use Rattle.smemu.specs.Requests.{Named}
use Rattle.smemu.specs.Views.{CarriesOut}
use Rattle.smemu.proofs.Debugs.{debug_accepted}
use Rattle.smemu.proofs.Opened.{all_opened, and_opened, none_opened, refused_next}
use Rattle.smemu.proofs.command.debug_thread.Goals as goal

abbrev named : List ℕ → Named
named name = record { name = name; kind = ProgramFile }

abbrev reported : List ℕ → Named
reported name = record { name = name; kind = ReportFile }

abbrev scripted : List ℕ → Named
scripted name = record { name = name; kind = ScriptFile }

pub returns-in_err-file : goal.returns-in_err-file
returns-in_err-file g c =
    let rest = reported (string_bytes c.args.report) ∷ scripted (string_bytes c.args.script) ∷ [] in
    let ends : CarriesOut g.F.Files.fetched g.F.Files.view
    (request_of (command.Debug c.args.program c.args.report c.args.thread c.args.script)) c.args.files.now c.open_program.new.files
    (Err c.in_err-file.field-0.0) =
    refused_next _ _ _ [] rest [] (named (string_bytes c.args.program)) _ _ _ refl (none_opened _ _ _ _)
    c.open_program.ensures.fetched c.open_program.ensures.kept _ c.in_err-file.ensures.unopened in
    search rules

pub returns-in_err-read : goal.returns-in_err-read
returns-in_err-read g c =
    let program = named (string_bytes c.args.program) in
    let one = and_opened program (none_opened g.F.Files.fetched g.F.Files.view
    (request_of (command.Debug c.args.program c.args.report c.args.thread c.args.script)) c.args.files.now) c.open_program.ensures.fetched
    c.open_program.ensures.kept c.in_ok-file.ensures.opened in
    let ends : CarriesOut g.F.Files.fetched g.F.Files.view
    (request_of (command.Debug c.args.program c.args.report c.args.thread c.args.script)) c.args.files.now c.open_report.new.files
    (Err c.in_err-read.field-0.0) =
    refused_next _ _ _ (program ∷ []) (scripted (string_bytes c.args.script) ∷ []) _ (reported (string_bytes c.args.report)) _ _ _ refl
    one c.open_report.ensures.fetched c.open_report.ensures.kept _ c.in_err-read.ensures.unopened in
    search rules

pub returns-in_err-commands : goal.returns-in_err-commands
returns-in_err-commands g c =
    let program = named (string_bytes c.args.program) in
    let report = reported (string_bytes c.args.report) in
    let two = and_opened report (and_opened program (none_opened g.F.Files.fetched g.F.Files.view
    (request_of (command.Debug c.args.program c.args.report c.args.thread c.args.script)) c.args.files.now)
    c.open_program.ensures.fetched c.open_program.ensures.kept c.in_ok-file.ensures.opened) c.open_report.ensures.fetched
    c.open_report.ensures.kept c.in_ok-read.ensures.opened in
    let ends : CarriesOut g.F.Files.fetched g.F.Files.view
    (request_of (command.Debug c.args.program c.args.report c.args.thread c.args.script)) c.args.files.now c.open_script.new.files
    (Err c.in_err-commands.field-0.0) =
    refused_next _ _ _ (program ∷ report ∷ []) [] _ (scripted (string_bytes c.args.script)) _ _ _ refl two
    c.open_script.ensures.fetched c.open_script.ensures.kept _ c.in_err-commands.ensures.unopened in
    search rules

pub returns : goal.returns
returns g c =
    let one = and_opened (named (string_bytes c.args.program)) (none_opened g.F.Files.fetched g.F.Files.view
    (request_of (command.Debug c.args.program c.args.report c.args.thread c.args.script)) c.args.files.now)
    c.open_program.ensures.fetched c.open_program.ensures.kept c.in_ok-file.ensures.opened in
    let two = and_opened (reported (string_bytes c.args.report)) one c.open_report.ensures.fetched c.open_report.ensures.kept
    c.in_ok-read.ensures.opened in
    all_opened _ _ (request_of (command.Debug c.args.program c.args.report c.args.thread c.args.script)) _ _ _
    (and_opened (scripted (string_bytes c.args.script)) two c.open_script.ensures.fetched c.open_script.ensures.kept
    c.in_ok-commands.ensures.opened) c.debug_report.result
    (debug_accepted (string_bytes c.args.program) (string_bytes c.args.report) c.args.thread (string_bytes c.args.script)
    c.in_ok-file.file.bytes.items c.in_ok-read.read.bytes.items c.in_ok-commands.commands.bytes.items c.debug_report.result
    c.debug_report.ensures)
