use Rattle.std.proofs.Common.{rules, ◌≡◌, sym, ap, ◌∙◌, subst}
use Rattle.std.specs.FinMap.{entries}
use Rattle.paged_memory.specs.Memory.{IsWhole}
use Rattle.machine_step.specs.declared.machine.Machine.{Machine}
use Rattle.kernel_contexts.specs.Context.{state_of}
use Rattle.abi_checker.proofs.Lawful.{lawful_when, rules_kept}
use Rattle.abi_checker.proofs.open_call.OpenCall.is_lawful.Goals as goal

pub returns : goal.returns
returns c = λ s kept.
    let call = c.args.self.now in
    let r = (state_of c.args.context.now).core in
    let same : c.machine.result.now ≡ c.args.context.now.guest.machine = search rules in
    let whole : IsWhole r.memory = subst (λ (m : Machine). IsWhole m.pages.memory) same c.in_ok-now.ensures.whole in
    let pages : entries r.memory.perm ≡ c.as_slice.result.now =
    ap (λ (m : Machine). entries m.pages.memory.perm) (sym same) ∙ sym c.in_ok-now.ensures.pages ∙ sym c.as_slice.ensures.value in
    let rules = c.keeps_rules.ensures s.core.memory kept.pages pages in (
      λ yes. lawful_when call s r kept whole (rules.0 yes),
      λ lawful. rules.1 (rules_kept call s r kept whole lawful),
    )
