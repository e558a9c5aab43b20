use Rattle.std.proofs.Common.{sym, ◌∙◌}
use Rattle.sve_access.proofs.Spans.{none_of_span}
use Rattle.sve_access.proofs.elements.ElementsBytes.first_failing.Goals as goal

pub returns-in-None : goal.returns-in-None
returns-in-None g c =
    let x = c.args.self.now in
    sym (none_of_span (g.C.Check.fails c.args.check.now) x.start x.memory x.element x.pg.now c.size.result c.size.ensures.value
    (sym c.first.ensures ∙ c.in-None.is))
