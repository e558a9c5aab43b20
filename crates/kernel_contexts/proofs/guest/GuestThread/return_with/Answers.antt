use Rattle.std.proofs.Common.{ap}
use Rattle.machine_step.specs.declared.machine.Machine.{Machine}
use Rattle.kernel_contexts.proofs.Bare.{back_with}
use Rattle.kernel_contexts.proofs.guest.GuestThread.return_with.Goals as goal

pub returns-clause-back : goal.returns-clause-back
returns-clause-back c =
    let left = c.leave_streaming in
    let made = c.count_turn.ensures.machine in
    back_with left.new.self.config _ left.new.self.machine _ _ _ left.ensures.back c.count_turn.ensures.same.config
    (ap (λ (m : Machine). m.streaming) made) (ap (λ (m : Machine). m.za_on) made)
