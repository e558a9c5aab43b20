use Rattle.std.proofs.Common.{◌+◌, arith}
use Rattle.paged_memory.proofs.Owned.{kept_trans}
use Rattle.mem_access.specs.Bank.{bank_state}
use Rattle.machine_step.specs.Machine.{core_of}
use Rattle.machine_step.proofs.Computing.{executed_after, kept_same, same_trans}
use Rattle.machine_step.proofs.machine.Machine.run_on.Goals as goal

pub returns : goal.returns
returns g c =
    let bank = c.args.bank.now in
    let old = c.args.self.now in
    let r = c.run_page-made in
    let s = c.run_stores-more in
    record {
      executed = executed_after (g.H.Halts.halts c.args.halts.now) c.args.apart bank.vectors.vl r.result.0 s.result.0
          (core_of old (bank_state bank)) r.new.self r.new.bank (core_of s.new.self (bank_state s.new.bank)) r.ensures.same.vl
          r.ensures.executed s.ensures.executed;
      few = omega (arith, r.ensures.few, s.ensures.few);
      next = s.ensures.next;
      owned = kept_trans old.pages r.new.self.pages s.new.self.pages (kept_same old.pages r.new.self.pages r.ensures.pages)
          s.ensures.owned;
      same = same_trans bank r.new.bank s.new.bank r.ensures.same s.ensures.same;
      mode = s.ensures.mode;
    }
