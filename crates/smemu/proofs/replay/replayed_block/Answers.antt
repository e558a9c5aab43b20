use Rattle.std.proofs.Common.{rules, ◌<◌, length, refl, sym, subst, arith, Err}
use Rattle.sha2.specs.Sha256.{sha256}
use Rattle.report_reader.specs.Told.{block_said, report_said, StandsIn}
use Rattle.report_reader.specs.declared.parts.ReportBlock.{ReportBlock}
use Rattle.smemu.specs.Views.{EndsReplay}
use Rattle.smemu.proofs.Replays.{report_size, thread_there, said_at, unmatched_ends, parted_ends, compared_ends, compared_same}
use Rattle.smemu.proofs.replay.replayed_block.Goals as goal

pub returns-in_err-check_match-clause-ends : goal.returns-in_err-check_match-clause-ends
returns-in_err-check_match-clause-ends c =
    let ends : EndsReplay c.args.file.now c.args.bytes.now c.args.thread (Err c.in_err-check_match.field-0.0) =
    unmatched_ends c.args.file.now c.args.bytes.now c.args.thread c.args.image.now (report_said c.args.report.now)
    c.in_err-check_match.field-0.0 c.requires.loads c.requires.reads c.in_err-check_match.ensures.err in
    search rules

pub returns-in_err-context-clause-ends : goal.returns-in_err-context-clause-ends
returns-in_err-context-clause-ends c =
    let there = thread_there (sha256 c.args.file.now) c.args.thread (report_said c.args.report.now) c.in_ok-check_match.ensures.ok in
    let inside : c.args.thread < length c.args.report.now.blocks.items = omega (arith, there, c.args.report.now.one_each) in
    let ends : EndsReplay c.args.file.now c.args.bytes.now c.args.thread (Err c.in_err-context.field-0.0) =
    parted_ends c.args.file.now c.args.bytes.now c.args.thread c.args.image.now c.args.report.now.config (report_said c.args.report.now)
    (block_said c.index-block.result.now) c.requires.loads c.requires.reads c.in_ok-check_match.ensures.ok refl c.requires.cores
    (said_at c.args.report.now.blocks.items c.args.thread c.index-block.result.now c.index-block.ensures inside)
    c.in_err-context.field-0.0 c.in_err-context.ensures.parted in
    search rules

pub returns-in_err-compare-clause-ends : goal.returns-in_err-compare-clause-ends
returns-in_err-compare-clause-ends c =
    let there = thread_there (sha256 c.args.file.now) c.args.thread (report_said c.args.report.now) c.in_ok-check_match.ensures.ok in
    let inside : c.args.thread < length c.args.report.now.blocks.items = omega (arith, there, c.args.report.now.one_each) in
    let ends : EndsReplay c.args.file.now c.args.bytes.now c.args.thread (Err c.in_err-compare.field-0.0) =
    compared_ends c.args.file.now c.args.bytes.now c.args.thread c.args.image.now c.args.report.now.config (report_said c.args.report.now)
    (block_said c.index-block.result.now) c.requires.loads c.requires.reads c.in_ok-check_match.ensures.ok refl c.requires.cores
    (said_at c.args.report.now.blocks.items c.args.thread c.index-block.result.now c.index-block.ensures inside)
    c.in_ok-context.context c.in_ok-context.ensures.run c.in_ok-context.ensures.journal c.in_ok-context.ensures.count
    c.version.result c.version.ensures c.in_err-compare.field-0.0 c.in_err-compare.ensures in
    search rules

pub returns-clause-same : goal.returns-clause-same
returns-clause-same c =
    let there = thread_there (sha256 c.args.file.now) c.args.thread (report_said c.args.report.now) c.in_ok-check_match.ensures.ok in
    let inside : c.args.thread < length c.args.report.now.blocks.items = omega (arith, there, c.args.report.now.one_each) in
    compared_same c.args.file.now c.args.bytes.now c.args.thread c.args.image.now c.args.report.now.config (report_said c.args.report.now)
    (block_said c.index-block.result.now) c.requires.loads c.requires.reads c.in_ok-check_match.ensures.ok refl c.requires.cores
    (said_at c.args.report.now.blocks.items c.args.thread c.index-block.result.now c.index-block.ensures inside)
    c.in_ok-context.context c.in_ok-context.ensures.run c.in_ok-context.ensures.journal c.in_ok-context.ensures.count
    c.version.result c.version.ensures c.in_ok-compare.ensures

pub returns-clause-stands : goal.returns-clause-stands
returns-clause-stands c =
    let there = thread_there (sha256 c.args.file.now) c.args.thread (report_said c.args.report.now) c.in_ok-check_match.ensures.ok in
    let inside : c.args.thread < length c.args.report.now.blocks.items = omega (arith, there, c.args.report.now.one_each) in
    subst (λ (b : ReportBlock). StandsIn c.args.bytes.now b) (sym c.index-block.ensures)
    (c.requires.places c.args.thread c.index-block.result.now inside)

pub compare-requires-clause-size : goal.compare-requires-clause-size
compare-requires-clause-size c = report_size c.args.bytes.now (report_said c.args.report.now) c.requires.reads
