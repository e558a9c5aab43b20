use Rattle.std.proofs.Common.{◌≡◌, ◌+◌, ◌-◌, sym, ap, ◌∙◌, arith}
use Rattle.insn_forms.specs.Tree.{walk}
use Rattle.insn_forms.proofs.Walk.{walk-next, walk-zero, step-fork, step-leaf, step-none}
use Rattle.insn_forms.proofs.tree.follow.Goals as goal

pub returns-in-Some-Leaf : goal.returns-in-Some-Leaf
returns-in-Some-Leaf c =
    let h = c.in-Some-Leaf in
    sym (step-leaf _ h.field-0 h.number c.args.word h.field-0-is)
    ∙ sym (walk-next c.args.steps c.steps._step c.args.nodes.now c.steps.at c.args.word _ c.steps-test.true h.ensures) ∙ c.steps.invariant

pub returns-in-None : goal.returns-in-None
returns-in-None c =
    sym (step-none _ c.args.word)
    ∙ sym (walk-next c.args.steps c.steps._step c.args.nodes.now c.steps.at c.args.word _ c.steps-test.true c.in-None.ensures)
    ∙ c.steps.invariant

pub steps-preserved : goal.steps-preserved
steps-preserved c =
    let h = c.in-Some-Fork in
    ap (λ at. walk (c.args.steps - (c.steps._step + 1)) c.args.nodes.now at c.args.word) c.way_on-at.ensures
    ∙ sym (step-fork _ h.field-0 h.fork c.args.word h.field-0-is)
    ∙ sym (walk-next c.args.steps c.steps._step c.args.nodes.now c.steps.at c.args.word _ c.steps-test.true h.ensures) ∙ c.steps.invariant

pub returns : goal.returns
returns c =
    let e : c.args.steps - c.steps._step ≡ 0 = omega arith in
    sym (walk-zero _ c.steps.at c.args.word) ∙ ap (λ m. walk m c.args.nodes.now c.steps.at c.args.word) (sym e) ∙ c.steps.invariant
