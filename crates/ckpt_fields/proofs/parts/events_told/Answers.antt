use Rattle.std.proofs.Common.{rules, ◌<◌, length, ◌∙◌}
use Rattle.ckpt_fields.proofs.Blocks.{told_at}
use Rattle.ckpt_fields.proofs.parts.events_told.Goals as goal

pub returns : goal.returns
returns c =
    let blocks = c.args.report.now.blocks.items in
    let inside : c.args.thread < length blocks = search rules in
    c.len.ensures ∙ c.index.result.now.journal.ok.0
    ∙ told_at (λ block. length block.journal) blocks c.args.thread c.index.result.now c.index.ensures inside
