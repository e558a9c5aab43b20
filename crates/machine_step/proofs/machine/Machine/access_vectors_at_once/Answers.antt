use Rattle.std.proofs.Common.{◌≡◌, refl, ap, ◌∙◌, length}
use Rattle.sve_vectors.specs.State.{length_of}
use Rattle.sve_access.specs.After.{AfterVectorAccess, after_access, contents_of}
use Rattle.mem_access.specs.Transfer.{raised_by}
use Rattle.machine_step.specs.ProcessorState.{vector_bytes}
use Rattle.machine_step.specs.Effect.{Becomes, with_access}
use Rattle.machine_step.specs.Execution.{unless_raised}
use Rattle.machine_step.specs.Machine.{core_of}
use Rattle.machine_step.specs.System.{core_past}
use Rattle.machine_step.specs.declared.executed.Executed.TheVariants.{Next}
use Rattle.machine_step.proofs.Answers.{held_with, steps_on, becomes, stays, same_bank, vector_access_effect, with_contents}
use Rattle.machine_step.proofs.Owned.{owns_next, raise_stays}
use Rattle.machine_step.proofs.machine.Machine.access_vectors_at_once.Goals as goal

pub returns-in-Ok-clause-effect : goal.returns-in-Ok-clause-effect
returns-in-Ok-clause-effect c word =
    let m = c.args.self.now in
    let v = c.args.bank.now.vectors in
    let za = c.args.bank.now.za.vectors in
    let long : length za ≡ vector_bytes v.svl = c.size-size.ensures.square.count ∙ ap vector_bytes c.args.bank.now.one_length in
    let w = c.transfer_vector.new.vectors in
    let after = after_access c.args.x.now m.scalars (length_of v) v.registers m.pages.memory in
    let made = core_past (with_access (core_of m (held_with v za)) after) in
    steps_on _ (core_of m (held_with v za)) _ made _
    (vector_access_effect word c.args.x.now m v za long c.requires.mode.streaming
    ∙ ap (λ k. unless_raised k (Becomes made)) c.in-Ok.ensures.made.0)
    (c.step_past.ensures.core (held_with w za) ∙ ap core_past
    (with_contents m v w za c.transfer_vector.new.pages after c.in-Ok.ensures.made.1))
    refl

pub returns-in-Err-Raise-clause-effect : goal.returns-in-Err-Raise-clause-effect
returns-in-Err-Raise-clause-effect c word =
    let m = c.args.self.now in
    let bank = c.args.bank.now in
    let kept = c.transfer_vector.ensures.lengths in
    let registers = ap (λ (after : AfterVectorAccess). after.registers) c.in-Err-Raise.ensures.made.1 in (
      stays m m.scalars c.transfer_vector.new.pages refl (raise_stays _ _ _ _ c.in-Err-Raise.field-0-is c.in-Err-Raise.ensures.owned),
      same_bank bank c.transfer_vector.new.vectors _
          (λ i. record { vl = kept.vl i; svl = kept.svl i; streaming = kept.streaming i; registers = registers i }),
    )

pub returns-in-Err-Memory-clause-effect : goal.returns-in-Err-Memory-clause-effect
returns-in-Err-Memory-clause-effect c word =
    let m = c.args.self.now in
    let v = c.args.bank.now.vectors in
    let za = c.args.bank.now.za.vectors in
    let long : length za ≡ vector_bytes v.svl = c.size-size.ensures.square.count ∙ ap vector_bytes c.args.bank.now.one_length in
    let w = c.transfer_vector.new.vectors in
    let after = after_access c.args.x.now m.scalars (length_of v) v.registers m.pages.memory in
    let made = core_past (with_access (core_of m (held_with v za)) after) in (
      with_contents m v w za c.transfer_vector.new.pages (contents_of v.registers m.pages) c.in-Err-Memory.ensures.made.1,
      becomes _ made (vector_access_effect word c.args.x.now m v za long c.requires.mode.streaming
          ∙ ap (λ k. unless_raised k (Becomes made)) (c.in-Err-Memory.ensures.made.0 ∙ ap raised_by c.in-Err-Memory.field-0-is)),
    )

pub returns-in-Ok-clause-owned : goal.returns-in-Ok-clause-owned
returns-in-Ok-clause-owned c =
    owns_next _ c.args.self.now.pages c.transfer_vector.new.pages c.step_past.new.self.pages Next c.in-Ok.ensures.owned
    c.step_past.ensures.pages refl

pub returns-in-Err-Raise-clause-owned : goal.returns-in-Err-Raise-clause-owned
returns-in-Err-Raise-clause-owned c = raise_stays _ _ _ _ c.in-Err-Raise.field-0-is c.in-Err-Raise.ensures.owned
