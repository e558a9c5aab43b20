use Rattle.std.proofs.Common.{is_ok}
use Rattle.sme_debugger.proofs.Keeping.{kept_or_not}
use Rattle.sme_debugger.proofs.replay.keep_state.Goals as goal

pub returns : goal.returns
returns c = λ r ticket h.
    kept_or_not r c.args.later.now.items c.args.loose.now ticket h c.in-Ok-Some.kept c.push.new.self.items (is_ok c.push.result)
    (rw c.in-Ok-Some.field-0-is at c.in-Ok-Some.ensures).kept c.push.ensures.items
