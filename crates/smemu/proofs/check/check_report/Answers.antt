use Rattle.std.proofs.Common.{rules, refl, Err}
use Rattle.report_reader.specs.Told.{report_said}
use Rattle.smemu.specs.Views.{EndsCheck}
use Rattle.smemu.proofs.Checks.{check_parted, check_unmatched}
use Rattle.smemu.proofs.Debugs.{block_there}
use Rattle.smemu.proofs.check.check_report.Goals as goal

pub returns-in_err-check_match : goal.returns-in_err-check_match
returns-in_err-check_match c =
    let ends : EndsCheck c.args.file.now c.args.report.now.bytes.items c.args.thread (Err c.in_err-check_match.field-0.0) =
    check_unmatched c.args.file.now c.args.report.now.bytes.items c.args.thread c.args.image.now (report_said c.args.report.now.content)
    c.in_err-check_match.field-0.0 c.requires.loads c.requires.reads c.in_err-check_match.ensures.err in
    search rules

pub returns-in_err-abi : goal.returns-in_err-abi
returns-in_err-abi c =
    let at =
    block_there c.args.file.now c.args.report.now.bytes.items c.args.thread c.args.image.now c.args.report.now.content
    c.index-block.result.now c.requires.loads c.requires.reads c.in_ok-check_match.ensures.ok c.requires.cores c.index-block.ensures in
    let ends : EndsCheck c.args.file.now c.args.report.now.bytes.items c.args.thread (Err c.in_err-abi.field-0.0) =
    check_parted c.args.file.now c.args.report.now.bytes.items c.args.thread at c.in_err-abi.field-0.0 c.in_err-abi.ensures.parted in
    search rules

pub returns-in-Yes : goal.returns-in-Yes
returns-in-Yes c = record {
  calls = c.in-Yes.calls;
  unreturned = c.in-Yes.unreturned;
  check = record {
    at =
        block_there c.args.file.now c.args.report.now.bytes.items c.args.thread c.args.image.now c.args.report.now.content
        c.index-block.result.now c.requires.loads c.requires.reads c.in_ok-check_match.ensures.ok c.requires.cores c.index-block.ensures;
    checked = rw c.in-Yes.is at c.in_ok-abi.ensures.checked;
  };
  is_text = refl;
}

pub returns-in-No : goal.returns-in-No
returns-in-No c = record {
  count = c.in-No.count;
  pc = c.in-No.pc;
  kind = c.in-No.kind;
  check = record {
    at =
        block_there c.args.file.now c.args.report.now.bytes.items c.args.thread c.args.image.now c.args.report.now.content
        c.index-block.result.now c.requires.loads c.requires.reads c.in_ok-check_match.ensures.ok c.requires.cores c.index-block.ensures;
    checked = rw c.in-No.is at c.in_ok-abi.ensures.checked;
  };
  is_text = refl;
}
