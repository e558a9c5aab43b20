use Rattle.std.proofs.Common.{◌-◌, ◌≤◌}
use Rattle.paged_memory.specs.Code.{IsHeld}
use Rattle.paged_memory.specs.PageTable.{KeepsOwned}
use Rattle.mem_access.specs.Bank.{bank_state}
use Rattle.machine_step.specs.ProcessorState.{vector_bytes}
use Rattle.machine_step.specs.Machine.{core_of, IsInMode, IsSameBank}
use Rattle.machine_step.specs.Runs.{machine_at}
use Rattle.machine_step.specs.Several.{AreExecuted}
use Rattle.machine_step.proofs.machine.Machine.run_held.Given as goal

abbrev pub invariant-turns : goal.invariant-turns
invariant-turns g l = record {
  executed : AreExecuted (g.H.Halts.halts l.halts) l.apart (vector_bytes l.initial.bank.vectors.vl) (l.most - l.left)
      (core_of l.initial.self (bank_state l.initial.bank)) (core_of (machine_at l.base l.at l.self) (bank_state l.bank));
  few : l.left ≤ l.most;
  held : IsHeld l.code l.base l.self.pages;
  owned : KeepsOwned l.initial.self.pages l.self.pages;
  same : IsSameBank l.initial.bank l.bank;
  mode : IsInMode l.bank l.self;
}

abbrev pub decreases-turns : goal.decreases-turns
decreases-turns g l = l.left
