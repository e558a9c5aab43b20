use Rattle.std.proofs.Common.{rules, ◌<◌, length}
use Rattle.ckpt_fields.proofs.Blocks.{told_at}
use Rattle.ckpt_fields.proofs.parts.count_told.Goals as goal

pub returns : goal.returns
returns c =
    let inside : c.args.thread < length c.args.report.now.blocks.items = search rules in
    told_at (λ block. block.count) c.args.report.now.blocks.items c.args.thread c.index.result.now c.index.ensures inside
