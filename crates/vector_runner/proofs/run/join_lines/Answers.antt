use Rattle.std.proofs.Common.{◌++◌, ◌∷◌, [], not, ap, ◌∙◌}
use Rattle.std.specs.Prelude.{if◌then◌else◌}
use Rattle.vector_runner.proofs.Shares.{answered_more, joined_more}
use Rattle.vector_runner.proofs.run.join_lines.Goals as goal

pub loop-share-preserved : goal.loop-share-preserved
loop-share-preserved c =
    let v = c.in_ok-first.first in
    let rest = c.pop.new.self.items in
    let ok = c.is_err.ensures.negation ∙ ap not c.if-is_err.false in
    let made = c.append.ensures.items ∙ ap (λ b. if b then v.items ++ c.loop-share.lines.items else v.items) ok in
    let is = c.in-Some.ensures.items ∙ ap (λ r. rest ++ r ∷ []) c.in_ok-first.was in (
      joined_more c.loop-share.shares.items rest v c.loop-share.lines.items c.append.new.self.items _ is made c.loop-share.invariant.0,
      λ all. c.loop-share.invariant.1 (answered_more c.loop-share.shares.items rest v is all),
    )
