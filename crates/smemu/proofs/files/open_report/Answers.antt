use Rattle.std.proofs.Common.{rules, lit<}
use Rattle.std.specs.String.{string_bytes}
use Rattle.smemu.specs.Ends.{change}
use Rattle.smemu.specs.Rejections.{report_judge}
use Rattle.smemu.specs.Views.{IsUnopened}
use Rattle.smemu.specs.declared.files.TheConstants.{REPORT_LIMIT}
use Rattle.smemu.proofs.Whole.{no_fault_in, opened_file, report_bounded, unopened_file}
use Rattle.smemu.proofs.files.open_report.Goals as goal

pub returns-in_err-content-clause-unopened : goal.returns-in_err-content-clause-unopened
returns-in_err-content-clause-unopened g c =
    let files = change g.F.Files.view c.args.files.now c.fetch_file.new.files in
    let why : IsUnopened files (string_bytes c.args.name) report_judge c.in_err-content.field-0.0 =
    unopened_file report_judge 1073741824 report_bounded files REPORT_LIMIT (string_bytes c.args.name) c.in_ok-bytes.bytes.items
    c.in_err-content.field-0.0 (lit< tt)
    c.in_ok-bytes.ensures.front (rw c.as_slice.ensures.value at c.in_err-content.ensures.rejected) in
    search rules

pub returns-clause-opened : goal.returns-clause-opened
returns-clause-opened g c =
    opened_file report_judge 1073741824 report_bounded (g.F.Files.view c.args.files.now).told REPORT_LIMIT (string_bytes c.args.name)
    c.in_ok-bytes.bytes.items
    (lit< tt) c.in_ok-bytes.ensures.front (no_fault_in _ _ _ (rw c.as_slice.ensures.value at c.in_ok-content.ensures.reads))
