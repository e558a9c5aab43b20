use Rattle.std.proofs.Common.{rules, ◌≡◌, sym, ◌∙◌}
use Rattle.std.proofs.lemmas.Slice.Eq.{bytes_eq-Decides}
use Rattle.report_text.specs.Ends.{block_of}
use Rattle.smemu.proofs.replay.is_block.Goals as goal

pub returns-then-is_ok : goal.returns-then-is_ok
returns-then-is_ok c = λ is.
    let text = c.args.text.now in
    let block = block_of c.args.version c.args.context.now in
    let whole : c.came.result.now ≡ text = (bytes_eq-Decides c.came.result.now text).0 (search (rules, is)) in
    let held : c.came.result.now ≡ block = search rules in
    sym whole ∙ held
