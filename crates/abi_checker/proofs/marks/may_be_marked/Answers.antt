use Rattle.std.proofs.Common.{◌≡◌, ◌∙◌, true, false, sym, subst}
use Rattle.machine_step.specs.declared.machine.Machine.{Machine}
use Rattle.kernel_contexts.specs.Context.{state_of}
use Rattle.abi_checker.specs.Marks.{HasMark}
use Rattle.abi_checker.specs.Watching.{IsNoMarkPast}
use Rattle.abi_checker.proofs.marks.may_be_marked.Goals as goal

pub returns-in-Some : goal.returns-in-Some
returns-in-Some c = λ none.
    subst (λ o. IsNoMarkPast (state_of c.args.context.now) o) (sym c.in-Some.is)
    (λ p h.
    let is = c.has_first_word.ensures p h.place
    (subst (λ (m : Machine). HasMark m.pages.memory p) (sym c.machine.ensures) h.mark) in
    let no : true ≡ false = sym is ∙ none in cc)

pub returns-in-None : goal.returns-in-None
returns-in-None c = λ none. subst (λ o. IsNoMarkPast (state_of c.args.context.now) o) (sym c.in-None.is) tt
