use Rattle.std.proofs.Common.{refl, ap, ◌∙◌}
use Rattle.mem_access.specs.Transfer.{AfterAccess, raised_by}
use Rattle.machine_step.specs.Effect.{Becomes, accessed}
use Rattle.machine_step.specs.Execution.{unless_raised}
use Rattle.machine_step.specs.Machine.{core_of}
use Rattle.machine_step.specs.System.{core_past}
use Rattle.machine_step.proofs.Answers.{steps_on, becomes, private_effect, no_operation, stays}
use Rattle.machine_step.proofs.Owned.{owns_next, raise_stays}
use Rattle.machine_step.specs.declared.executed.Executed.TheVariants.{Next}
use Rattle.machine_step.proofs.machine.Machine.access_at_once.Goals as goal

pub returns-in-Ok-clause-effect : goal.returns-in-Ok-clause-effect
returns-in-Ok-clause-effect c word vl bank =
    let s = core_of c.args.self.now bank in
    let it = c.args.insn.now in
    let none = no_operation it s.scalars s.memory c.touched_is_shared.ensures c.in-Ok.ensures.made.0 in
    steps_on _ s _ _ _ (private_effect word vl it s c.requires.access none
    ∙ ap (λ f. unless_raised f (Becomes (accessed it s))) c.in-Ok.ensures.made.0)
    (c.step_past.ensures.core bank ∙ ap (λ (after : AfterAccess). core_past (record s { scalars = after.scalars; memory = after.memory }))
    c.in-Ok.ensures.made.1) refl

pub returns-in-Err-Raise-clause-effect : goal.returns-in-Err-Raise-clause-effect
returns-in-Err-Raise-clause-effect c word =
    stays c.args.self.now c.transfer.new.scalars c.transfer.new.pages
    (ap (λ (after : AfterAccess). after.scalars) c.in-Err-Raise.ensures.made.1)
    (raise_stays _ _ _ _ c.in-Err-Raise.field-0-is c.in-Err-Raise.ensures.owned)

pub returns-in-Err-Memory-clause-effect : goal.returns-in-Err-Memory-clause-effect
returns-in-Err-Memory-clause-effect c word vl bank =
    let s = core_of c.args.self.now bank in
    let it = c.args.insn.now in
    let fault = c.in-Err-Memory.ensures.made.0 ∙ ap raised_by c.in-Err-Memory.field-0-is in
    let none = no_operation it s.scalars s.memory c.touched_is_shared.ensures fault in (
      ap (λ (after : AfterAccess). record s { scalars = after.scalars; memory = after.memory }) c.in-Err-Memory.ensures.made.1,
      becomes _ (accessed it s) (private_effect word vl it s c.requires.access none
          ∙ ap (λ f. unless_raised f (Becomes (accessed it s))) fault),
    )

pub returns-in-Ok-clause-owned : goal.returns-in-Ok-clause-owned
returns-in-Ok-clause-owned c =
    owns_next _ c.args.self.now.pages c.transfer.new.pages c.step_past.new.self.pages Next c.in-Ok.ensures.owned
    c.step_past.ensures.pages refl

pub returns-in-Err-Raise-clause-owned : goal.returns-in-Err-Raise-clause-owned
returns-in-Err-Raise-clause-owned c = raise_stays _ _ _ _ c.in-Err-Raise.field-0-is c.in-Err-Raise.ensures.owned
