use Rattle.std.proofs.Common.{rules, Err}
use Rattle.report_reader.specs.Told.{report_said}
use Rattle.smemu.specs.Views.{EndsDebug}
use Rattle.smemu.proofs.Debugs.{block_there, debug_parted, debug_unmatched}
use Rattle.smemu.proofs.debug.debug_report.Goals as goal

pub returns-in_err-check_match : goal.returns-in_err-check_match
returns-in_err-check_match c =
    let file = c.args.file.bytes.items in
    let bytes = c.args.report.bytes.items in
    let ends : EndsDebug file bytes c.args.thread c.args.script.bytes.items (Err c.in_err-check_match.field-0.0) =
    debug_unmatched file bytes c.args.thread c.args.script.bytes.items c.args.file.content (report_said c.args.report.content)
    c.in_err-check_match.field-0.0 c.requires.loads c.requires.reads
    (rw c.as_slice.ensures.value at c.in_err-check_match.ensures.err) in
    search rules

pub returns-in_err-session : goal.returns-in_err-session
returns-in_err-session c =
    let file = c.args.file.bytes.items in
    let bytes = c.args.report.bytes.items in
    let at =
    block_there file bytes c.args.thread c.args.file.content c.args.report.content c.swap_remove-block.result c.requires.loads
    c.requires.reads (rw c.as_slice.ensures.value at c.in_ok-check_match.ensures.ok) c.requires.cores c.swap_remove-block.ensures.value in
    let ends : EndsDebug file bytes c.args.thread c.args.script.bytes.items (Err c.in_err-session.field-0.0) =
    debug_parted file bytes c.args.thread c.args.script.bytes.items at c.in_err-session.field-0.0 c.in_err-session.ensures.parted in
    search rules

pub returns : goal.returns
returns c = record {
  at =
      block_there c.args.file.bytes.items c.args.report.bytes.items c.args.thread c.args.file.content c.args.report.content
      c.swap_remove-block.result c.requires.loads c.requires.reads (rw c.as_slice.ensures.value at c.in_ok-check_match.ensures.ok)
      c.requires.cores c.swap_remove-block.ensures.value;
  ends = c.in_ok-session.ensures.ends;
  recording = c.in_ok-session.ensures.recording;
  place = c.in_ok-session.ensures.place;
  said = c.requires.script;
}
