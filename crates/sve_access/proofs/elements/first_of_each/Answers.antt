use Rattle.std.proofs.Common.{◌≡◌, ap, ap₂, sym, ◌∙◌, arith}
use Rattle.std.specs.List.{find}
use Rattle.std.specs.Option.{option_or}
use Rattle.sve_access.specs.Elements.{element_run, element_addresses}
use Rattle.sve_access.proofs.Lists.{of_first, none_first, find_more}
use Rattle.sve_access.proofs.elements.first_of_each.Goals as goal

pub loop-i-init : goal.loop-i-init
loop-i-init g c =
    sym (ap (find (g.C.Check.fails c.args.check.now))
    (none_first (element_run c.args.elements.now.start c.args.elements.now.memory) c.args.elements.now.element c.args.elements.now.pg.now))

pub loop-i-preserved : goal.loop-i-preserved
loop-i-preserved g c =
    c.first_of-found.ensures ∙ ap₂ (λ a b. option_or a b) c.loop-i.invariant c.first_of_element.ensures
    ∙ find_more (g.C.Check.fails c.args.check.now) (element_run c.args.elements.now.start c.args.elements.now.memory)
    c.args.elements.now.element c.args.elements.now.pg.now c.loop-i.i

pub returns : goal.returns
unfolding element_addresses
returns g c =
    let all : c.loop-i.i ≡ c.count-i-end.result = (let end = c.loop-i-test.false in let most = c.loop-i.auto.i-end in omega (
      arith,
      end,
      most,
    )) in
    c.loop-i.invariant
    ∙ ap (λ k. find (g.C.Check.fails c.args.check.now)
    (of_first (element_run c.args.elements.now.start c.args.elements.now.memory) c.args.elements.now.element c.args.elements.now.pg.now k))
    (all ∙ c.count-i-end.ensures.value)
