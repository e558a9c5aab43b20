use Rattle.std.proofs.Common.{rules, lit<, ap}
use Rattle.std.specs.Prelude.{option_map}
use Rattle.std.specs.String.{string_bytes}
use Rattle.smemu.specs.Ends.{change}
use Rattle.smemu.specs.Rejections.{program_judge}
use Rattle.smemu.specs.Views.{IsUnopened}
use Rattle.smemu.specs.declared.files.TheConstants.{FETCH_LIMIT}
use Rattle.smemu.specs.declared.rejection.Rejection.TheVariants as rejection
use Rattle.smemu.proofs.Whole.{opened_file, program_bounded, unopened_file}
use Rattle.smemu.proofs.files.open_program.Goals as goal

pub returns-in_err-content-clause-unopened : goal.returns-in_err-content-clause-unopened
returns-in_err-content-clause-unopened g c =
    let files = change g.F.Files.view c.args.files.now c.fetch_file.new.files in
    let why : IsUnopened files (string_bytes c.args.name) program_judge c.in_err-content.field-0.0 =
    unopened_file program_judge 67108864 program_bounded files FETCH_LIMIT (string_bytes c.args.name) c.in_ok-bytes.bytes.items
    c.in_err-content.field-0.0 (lit< tt)
    c.in_ok-bytes.ensures.front (rw c.as_slice.ensures.value at c.in_err-content.ensures.rejected) in
    search rules

pub returns-clause-opened : goal.returns-clause-opened
returns-clause-opened g c =
    let loads = rw c.as_slice.ensures.value at c.in_ok-content.ensures.loads in
    opened_file program_judge 67108864 program_bounded (g.F.Files.view c.args.files.now).told FETCH_LIMIT (string_bytes c.args.name)
    c.in_ok-bytes.bytes.items
    (lit< tt)
    c.in_ok-bytes.ensures.front (ap (option_map rejection.Program) loads.accepted)
