use Rattle.std.proofs.Common.{ℕ, List, subst, Err}
use Rattle.kernel_contexts.specs.Loose.{loose_thread}
use Rattle.report_reader.specs.Told.{block_said, report_said}
use Rattle.smemu.specs.Replay.{text_in}
use Rattle.smemu.specs.Views.{ended_text, ComparesSo}
use Rattle.smemu.proofs.Replays.{report_size}
use Rattle.smemu.proofs.Resumes.{refused_ends, resume_unmatched, rest_parted, resumed_ends, resumed_same, stands_within}
use Rattle.smemu.proofs.resume.resume_report.Goals as goal

pub returns-in_err-check_match : goal.returns-in_err-check_match
returns-in_err-check_match c =
    refused_ends c.args.file.now.bytes.items c.args.report.bytes.items c.args.checkpoint.bytes.items c.from_residual.result
    c.in_err-check_match.field-0.0 c.from_residual.ensures.1
    (resume_unmatched c.args.file.now.bytes.items c.args.report.bytes.items c.args.checkpoint.bytes.items
    (loose_thread c.args.checkpoint.content) c.args.file.now.content (report_said c.args.report.content) c.in_err-check_match.field-0.0
    c.requires.loads c.requires.reads c.requires.state.thread
    (rw (c.as_slice.ensures.value, c.thread-thread.ensures) at c.in_err-check_match.ensures.err))

pub resume_block-requires : goal.resume_block-requires
resume_block-requires c =
    stands_within c.args.file.now.bytes.items c.args.report.bytes.items c.args.checkpoint.bytes.items c.args.file.now.content
    c.args.report.content c.index-block.result.now c.args.checkpoint.content c.requires.state c.requires.loads c.requires.reads
    (rw (c.as_slice.ensures.value, c.thread-thread.ensures) at c.in_ok-check_match.ensures.ok) c.requires.cores
    (rw c.thread-thread.ensures at c.index-block.ensures)

pub returns-in_err-end : goal.returns-in_err-end
returns-in_err-end c =
    refused_ends c.args.file.now.bytes.items c.args.report.bytes.items c.args.checkpoint.bytes.items c.from_residual-in_err-end.result
    c.in_err-end.field-0.0 c.from_residual-in_err-end.ensures.1
    (rest_parted c.args.file.now.bytes.items c.args.report.bytes.items c.args.checkpoint.bytes.items c.args.file.now.content
    c.args.report.content c.index-block.result.now c.args.checkpoint.content c.requires.state c.requires.loads c.requires.reads
    (rw (c.as_slice.ensures.value, c.thread-thread.ensures) at c.in_ok-check_match.ensures.ok) c.requires.cores
    (rw c.thread-thread.ensures at c.index-block.ensures) c.in_err-end.field-0.0 c.in_err-end.ensures.parted)

pub compare_end-requires-clause-size : goal.compare_end-requires-clause-size
compare_end-requires-clause-size c =
    rw c.as_slice-2.ensures.value (report_size c.args.report.bytes.items (report_said c.args.report.content) c.requires.reads)

pub returns-in_err-compare_end : goal.returns-in_err-compare_end
returns-in_err-compare_end c =
    refused_ends c.args.file.now.bytes.items c.args.report.bytes.items c.args.checkpoint.bytes.items
    c.from_residual-in_err-compare_end.result c.in_err-compare_end.field-0.0 c.from_residual-in_err-compare_end.ensures.1
    (resumed_ends c.args.file.now.bytes.items c.args.report.bytes.items c.args.checkpoint.bytes.items c.args.file.now.content
    c.args.report.content c.index-block.result.now c.args.checkpoint.content c.requires.state c.requires.loads c.requires.reads
    (rw (c.as_slice.ensures.value, c.thread-thread.ensures) at c.in_ok-check_match.ensures.ok) c.requires.cores
    (rw c.thread-thread.ensures at c.index-block.ensures) c.in_ok-end.end c.in_ok-end.stop c.in_ok-end.ensures.run
    c.in_ok-end.ensures.same c.in_err-compare_end.field-0.0
    (subst (λ (b : List ℕ). ComparesSo (text_in b (block_said c.index-block.result.now)) c.index-block.result.now.first_line
    (ended_text c.in_ok-end.end c.in_ok-end.stop c.index-block.result.now.journal.items) (Err c.in_err-compare_end.field-0.0))
    c.as_slice-2.ensures.value c.in_err-compare_end.ensures))

pub returns : goal.returns
returns c =
    resumed_same c.args.file.now.bytes.items c.args.report.bytes.items c.args.checkpoint.bytes.items c.args.file.now.content
    c.args.report.content c.index-block.result.now c.args.checkpoint.content c.requires.state c.requires.loads c.requires.reads
    (rw (c.as_slice.ensures.value, c.thread-thread.ensures) at c.in_ok-check_match.ensures.ok) c.requires.cores
    (rw c.thread-thread.ensures at c.index-block.ensures) c.in_ok-end.end c.in_ok-end.stop c.in_ok-end.ensures.run
    c.in_ok-end.ensures.same (rw c.as_slice-2.ensures.value at c.in_ok-compare_end.ensures)
