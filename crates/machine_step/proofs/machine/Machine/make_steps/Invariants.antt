use Rattle.std.proofs.Common.{◌-◌, ◌≤◌}
use Rattle.paged_memory.specs.PageTable.{KeepsOwned}
use Rattle.mem_access.specs.Bank.{bank_state}
use Rattle.machine_step.specs.ProcessorState.{vector_bytes}
use Rattle.machine_step.specs.Machine.{core_of, IsInMode, IsSameBank}
use Rattle.machine_step.specs.Several.{AreExecuted}
use Rattle.machine_step.proofs.machine.Machine.make_steps.Given as goal

abbrev pub invariant-steps : goal.invariant-steps
invariant-steps g l = record {
  executed : AreExecuted (g.H.Halts.halts l.halts) l.apart (vector_bytes l.initial.bank.vectors.vl) l.done
      (core_of l.initial.self (bank_state l.initial.bank))
      (core_of l.self (bank_state l.bank));
  few : l.done ≤ l.most;
  owned : KeepsOwned l.initial.self.pages l.self.pages;
  same : IsSameBank l.initial.bank l.bank;
  mode : IsInMode l.bank l.self;
}

abbrev pub decreases-steps : goal.decreases-steps
decreases-steps g l = l.most - l.done
