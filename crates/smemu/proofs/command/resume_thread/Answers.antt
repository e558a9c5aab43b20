use Rattle.std.proofs.Common.{rules, ℕ, List, [], ◌∷◌, refl, sym, subst, Result, Err}
use Rattle.std.specs.String.{string_bytes}
use Rattle.cmd_words.specs.Command.{request_of}
use Rattle.cmd_words.specs.declared.command.Command.TheVariants as command
use Rattle.report_reader.specs.Reading.{Fault}
use Rattle.report_reader.specs.Report.{Report}
use Rattle.smemu.specs.Ends.{change}
use Rattle.smemu.specs.Rejections.{ProgramFile, ReportFile, CheckpointFile, checkpoint_judge}
use Rattle.smemu.specs.Requests.{Named}
use Rattle.smemu.specs.Views.{CarriesOut, IsOpened, IsUnopened}
use Rattle.smemu.proofs.Resumes.{resume_accepted}
use Rattle.smemu.proofs.Opened.{all_opened, and_opened, none_opened, refused_next}
use Rattle.smemu.proofs.command.resume_thread.Goals as goal

abbrev named : List ℕ → Named
named name = record { name = name; kind = ProgramFile }

abbrev reported : List ℕ → Named
reported name = record { name = name; kind = ReportFile }

abbrev resumed : List ℕ → Named
resumed name = record { name = name; kind = CheckpointFile }

pub returns-in_err-file : goal.returns-in_err-file
returns-in_err-file g c =
    let rest = reported (string_bytes c.args.report) ∷ resumed (string_bytes c.args.checkpoint) ∷ [] in
    let ends : CarriesOut g.F.Files.fetched g.F.Files.view
    (request_of (command.Resume c.args.program c.args.report c.args.checkpoint)) c.args.files.now c.open_program.new.files
    (Err c.in_err-file.field-0.0) =
    refused_next _ _ _ [] rest [] (named (string_bytes c.args.program)) _ _ _ refl (none_opened _ _ _ _)
    c.open_program.ensures.fetched c.open_program.ensures.kept _ c.in_err-file.ensures.unopened in
    search rules

pub returns-in_err-read : goal.returns-in_err-read
returns-in_err-read g c =
    let program = named (string_bytes c.args.program) in
    let one = and_opened program (none_opened g.F.Files.fetched g.F.Files.view
    (request_of (command.Resume c.args.program c.args.report c.args.checkpoint)) c.args.files.now) c.open_program.ensures.fetched
    c.open_program.ensures.kept c.in_ok-file.ensures.opened in
    let ends : CarriesOut g.F.Files.fetched g.F.Files.view
    (request_of (command.Resume c.args.program c.args.report c.args.checkpoint)) c.args.files.now c.open_report.new.files
    (Err c.in_err-read.field-0.0) =
    refused_next _ _ _ (program ∷ []) (resumed (string_bytes c.args.checkpoint) ∷ []) _ (reported (string_bytes c.args.report)) _ _ _ refl
    one c.open_report.ensures.fetched c.open_report.ensures.kept _ c.in_err-read.ensures.unopened in
    search rules

pub returns-in_err-state : goal.returns-in_err-state
returns-in_err-state g c =
    let program = named (string_bytes c.args.program) in
    let report = reported (string_bytes c.args.report) in
    let two = and_opened report (and_opened program (none_opened g.F.Files.fetched g.F.Files.view
    (request_of (command.Resume c.args.program c.args.report c.args.checkpoint)) c.args.files.now)
    c.open_program.ensures.fetched c.open_program.ensures.kept c.in_ok-file.ensures.opened) c.open_report.ensures.fetched
    c.open_report.ensures.kept c.in_ok-read.ensures.opened in
    let unopened =
    subst (λ (r : Result Report Fault). IsUnopened (change g.F.Files.view c.open_report.new.files c.open_checkpoint.new.files)
    (string_bytes c.args.checkpoint) (checkpoint_judge r) c.in_err-state.field-0.0) (sym c.in_ok-read.ensures.reads)
    c.in_err-state.ensures.unopened in
    let ends : CarriesOut g.F.Files.fetched g.F.Files.view
    (request_of (command.Resume c.args.program c.args.report c.args.checkpoint)) c.args.files.now c.open_checkpoint.new.files
    (Err c.in_err-state.field-0.0) =
    refused_next _ _ _ (program ∷ report ∷ []) [] _ (resumed (string_bytes c.args.checkpoint)) _ _ _ refl two
    c.open_checkpoint.ensures.fetched c.open_checkpoint.ensures.kept _ unopened in
    search rules

pub returns : goal.returns
returns g c =
    let one = and_opened (named (string_bytes c.args.program)) (none_opened g.F.Files.fetched g.F.Files.view
    (request_of (command.Resume c.args.program c.args.report c.args.checkpoint)) c.args.files.now)
    c.open_program.ensures.fetched c.open_program.ensures.kept c.in_ok-file.ensures.opened in
    let two = and_opened (reported (string_bytes c.args.report)) one c.open_report.ensures.fetched c.open_report.ensures.kept
    c.in_ok-read.ensures.opened in
    let opened =
    subst (λ (r : Result Report Fault). IsOpened (g.F.Files.view c.open_report.new.files).told (string_bytes c.args.checkpoint)
    (checkpoint_judge r) c.in_ok-state.state.bytes.items) (sym c.in_ok-read.ensures.reads) c.in_ok-state.ensures.opened in
    all_opened _ _ (request_of (command.Resume c.args.program c.args.report c.args.checkpoint)) _ _ _
    (and_opened (resumed (string_bytes c.args.checkpoint)) two c.open_checkpoint.ensures.fetched c.open_checkpoint.ensures.kept
    opened) c.resume_report.result
    (resume_accepted (string_bytes c.args.program) (string_bytes c.args.report) (string_bytes c.args.checkpoint)
    c.in_ok-file.file.bytes.items c.in_ok-read.read.bytes.items c.in_ok-state.state.bytes.items c.resume_report.result
    c.resume_report.ensures)
