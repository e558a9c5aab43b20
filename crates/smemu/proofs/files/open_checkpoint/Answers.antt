use Rattle.std.proofs.Common.{rules, lit<, Ok}
use Rattle.std.specs.String.{string_bytes}
use Rattle.report_reader.specs.Told.{report_said}
use Rattle.smemu.specs.Ends.{change}
use Rattle.smemu.specs.Rejections.{checkpoint_judge}
use Rattle.smemu.specs.Views.{IsUnopened}
use Rattle.smemu.specs.declared.files.TheConstants.{FETCH_LIMIT}
use Rattle.smemu.proofs.Whole.{checkpoint_bounded, opened_file, unopened_file}
use Rattle.smemu.proofs.files.open_checkpoint.Goals as goal

pub returns-in_err-content-clause-unopened : goal.returns-in_err-content-clause-unopened
returns-in_err-content-clause-unopened g c =
    let files = change g.F.Files.view c.args.files.now c.fetch_file.new.files in
    let said = report_said c.args.report.now in
    let judge = checkpoint_judge (Ok said) in
    let why : IsUnopened files (string_bytes c.args.name) judge c.in_err-content.field-0.0 =
    unopened_file judge 67108864 (checkpoint_bounded said) files FETCH_LIMIT (string_bytes c.args.name)
    c.in_ok-bytes.bytes.items c.in_err-content.field-0.0 (lit< tt)
    c.in_ok-bytes.ensures.front (rw c.as_slice.ensures.value at c.in_err-content.ensures.rejected) in
    search rules

pub returns-clause-opened : goal.returns-clause-opened
returns-clause-opened g c =
    let said = report_said c.args.report.now in
    opened_file (checkpoint_judge (Ok said)) 67108864 (checkpoint_bounded said)
    (g.F.Files.view c.args.files.now).told FETCH_LIMIT (string_bytes c.args.name) c.in_ok-bytes.bytes.items (lit< tt)
    c.in_ok-bytes.ensures.front (rw c.as_slice.ensures.value at c.in_ok-content.ensures.accepted)
