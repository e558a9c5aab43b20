use Rattle.std.proofs.Common.{rules, ◌<◌, length, refl, sym, ◌∙◌, subst, Err}
use Rattle.sm_types.specs.Options.{numbers_of}
use Rattle.kernel_contexts.specs.Context.{journal_of, state_of}
use Rattle.ckpt_file.specs.Beyond.{HasLoadablePages}
use Rattle.ckpt_file.specs.Checkpoint.{checkpoint}
use Rattle.report_reader.specs.Told.{report_said}
use Rattle.smemu.specs.Views.{EndsCheckpoint}
use Rattle.smemu.proofs.Checkpoints.{checkpoint_short, checkpoint_unmatched}
use Rattle.smemu.proofs.Debugs.{block_there}
use Rattle.smemu.proofs.ReadBack.{loadable_pages, read_so}
use Rattle.smemu.proofs.checkpoint.checkpoint_report.Goals as goal

pub returns-in_err-check_match : goal.returns-in_err-check_match
returns-in_err-check_match c =
    let ends : EndsCheckpoint c.args.file.now c.args.report.now.bytes.items c.args.thread c.args.count (Err c.in_err-check_match.field-0.0)
    =
    checkpoint_unmatched c.args.file.now c.args.report.now.bytes.items c.args.thread c.args.count c.args.image.now
    (report_said c.args.report.now.content) c.in_err-check_match.field-0.0 c.requires.loads c.requires.reads
    c.in_err-check_match.ensures.err in
    search rules

pub returns-then-count-block : goal.returns-then-count-block
returns-then-count-block c = record {
  at =
      block_there c.args.file.now c.args.report.now.bytes.items c.args.thread c.args.image.now c.args.report.now.content
      c.index-block.result.now c.requires.loads c.requires.reads c.in_ok-check_match.ensures.ok c.requires.cores c.index-block.ensures;
  late = search rules;
  is_text = refl;
}

pub returns-in_err-context : goal.returns-in_err-context
returns-in_err-context c =
    let at =
    block_there c.args.file.now c.args.report.now.bytes.items c.args.thread c.args.image.now c.args.report.now.content
    c.index-block.result.now c.requires.loads c.requires.reads c.in_ok-check_match.ensures.ok c.requires.cores c.index-block.ensures in
    let below : c.args.count < at.block.count = search rules in
    let ends : EndsCheckpoint c.args.file.now c.args.report.now.bytes.items c.args.thread c.args.count (Err c.in_err-context.field-0.0) =
    checkpoint_short c.args.file.now c.args.report.now.bytes.items c.args.thread c.args.count at c.in_err-context.field-0.0 below
    c.in_err-context.ensures.short in
    search rules

pub returns : goal.returns
returns c =
    let at =
    block_there c.args.file.now c.args.report.now.bytes.items c.args.thread c.args.image.now c.args.report.now.content
    c.index-block.result.now c.requires.loads c.requires.reads c.in_ok-check_match.ensures.ok c.requires.cores c.index-block.ensures in
    let below : c.args.count < at.block.count = search rules in
    record {
      at = at;
      below = below;
      state = state_of c.in_ok-context.context;
      used = length (journal_of c.in_ok-context.context);
      stands = c.in_ok-context.ensures.stands;
      is_text =
          c.in_ok-bytes.ensures
          ∙ (λ i. checkpoint c.args.report.now.content.image (numbers_of (c.in_ok-context.ensures.config i))
          (state_of c.in_ok-context.context)
          (c.in_ok-context.ensures.number i) (length (journal_of c.in_ok-context.context)));
      read_back =
          read_so (report_said c.args.report.now.content) c.in_ok-context.context c.args.thread c.args.count at.block
          c.args.report.now.content.config c.in_ok-context.ensures.config c.in_ok-context.ensures.number refl at.stands
          c.in_ok-context.ensures.stands.counts below c.in_ok-context.ensures.events c.in_ok-bytes.bytes.items c.in_ok-bytes.ensures
          c.checkpoints_are_read.ensures;
    }

pub checkpoints_are_read-requires-clause-image : goal.checkpoints_are_read-requires-clause-image
checkpoints_are_read-requires-clause-image c =
    subst HasLoadablePages (sym c.in_ok-context.ensures.image)
    (loadable_pages c.args.file.now c.args.image.now c.requires.loads)
