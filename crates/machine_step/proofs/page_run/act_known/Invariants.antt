use Rattle.std.proofs.Common.{◌-◌, ◌≤◌}
use Rattle.scalar_exec.specs.Apart.{at_distance}
use Rattle.machine_step.specs.Computed.{AreComputed}
use Rattle.machine_step.proofs.page_run.act_known.Given as goal

abbrev pub invariant-turns : goal.invariant-turns
invariant-turns g l = record {
  computed : AreComputed (g.H.Halts.halts l.halts) l.apart l.pages.memory (l.most - l.left) l.initial.s l.initial.bank
      (at_distance l.base l.at l.s) l.bank;
  few : l.left ≤ l.most;
}

abbrev pub decreases-turns : goal.decreases-turns
decreases-turns g l = l.left
