use Rattle.std.proofs.Common.{◌≡◌, ◌∙◌, sym, ap, subst, false}
use Rattle.std.proofs.lemmas.Bool.{eqb-true}
use Rattle.std.specs.FinMap.{entries}
use Rattle.plain_lemmas.proofs.Tests.{not_IsTrue-false}
use Rattle.scalar_exec.specs.Registers.{x_of}
use Rattle.paged_memory.specs.Memory.{AddressSpace}
use Rattle.machine_step.specs.declared.machine.Machine.{Machine}
use Rattle.abi_checker.specs.Keeping.{HasKeptMemory}
use Rattle.abi_checker.specs.declared.open_call.OpenCall.{OpenCall}
use Rattle.abi_checker.proofs.open_call.OpenCall.keeps_rules.Goals as goal
use Rattle.abi_checker.proofs.open_call.OpenCall.keeps_rules.Goals.{then-machine-self, else-machine-self}

-- X19 and memory are as they should
record AreKept (call : OpenCall) (old : AddressSpace) (m : Machine) : Type 0 where
  pointer : x_of m.scalars 19 ≡ call.block
  memory : HasKeptMemory call old m.pages.memory

pub returns-then-has_same_memory : goal.returns-then-has_same_memory
unfolding x_of
returns-then-has_same_memory c = λ old p q.
    let call : OpenCall = c.args.self.now in
    let same = c.machine-machine.ensures in
    let pages = ap (λ (m : Machine). entries m.pages.memory.perm) same ∙ q in
    let kept : AreKept call old c.machine-machine.result.now = elim c.if-machine-self.branch [
      | then-machine-self w ↦ record {
        pointer = w.if-machine-self.true;
        memory = (w.has_same_memory.ensures old p pages).0 (sym w.value-is ∙ c.if-has_same_memory.true);
      }
      | else-machine-self w ↦ absurd (w.if-machine-self.false (eqb-true _ _ (sym w.value-is ∙ c.if-has_same_memory.true)))
    ] in
    let now = subst (λ (m : Machine). AreKept call old m) same kept in (
      λ yes. record { pointer = now.pointer; memory = now.memory; za = c.has_kept_za.ensures.0 yes },
      λ h. c.has_kept_za.ensures.1 h.za,
    )

pub returns-else-has_same_memory : goal.returns-else-has_same_memory
unfolding x_of
returns-else-has_same_memory c = λ old p q.
    let call : OpenCall = c.args.self.now in
    let same = c.machine-machine.ensures in
    let pages = ap (λ (m : Machine). entries m.pages.memory.perm) same ∙ q in (
      λ yes. absurd (not_IsTrue-false (sym c.if-has_same_memory.false ∙ yes)),
      λ h.
          let now : AreKept call old c.args.context.now.guest.machine = record { pointer = h.pointer; memory = h.memory } in
          let kept = subst (λ (m : Machine). AreKept call old m) (sym same) now in
          elim c.if-machine-self.branch [
            | then-machine-self w ↦ w.value-is ∙ (w.has_same_memory.ensures old p pages).1 kept.memory
            | else-machine-self w ↦ absurd (w.if-machine-self.false kept.pointer)
          ],
    )
