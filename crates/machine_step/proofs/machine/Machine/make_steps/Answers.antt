use Rattle.std.proofs.Common.{◌+◌, add-one, refl, ap, ◌∙◌, arith}
use Rattle.paged_memory.proofs.Owned.{kept_trans}
use Rattle.mem_access.specs.Bank.{bank_state}
use Rattle.machine_step.specs.ProcessorState.{ProcessorState}
use Rattle.machine_step.specs.Machine.{core_of}
use Rattle.machine_step.specs.Several.{halts_in}
use Rattle.machine_step.specs.declared.machine.Machine.{Machine}
use Rattle.machine_step.proofs.Computing.{executed_after, same_trans}
use Rattle.machine_step.proofs.Steps.{executed_more}
use Rattle.machine_step.proofs.machine.Machine.make_steps.Goals as goal

pub steps-preserved : goal.steps-preserved
steps-preserved g c =
    let halts = g.H.Halts.halts c.args.halts.now in
    let h = c.steps.invariant in
    let r = c.run_known-made.ensures in
    let e = c.in-Done.ensures in
    let bank = c.args.bank.now in
    let from = core_of c.args.self.now (bank_state bank) in
    record {
      executed = rw add-one (executed_more halts c.args.apart bank.vectors.vl (c.steps.done + c.run_known-made.result.0) from
          c.run_known-made.new.self c.run_known-made.new.bank c.step_next.new.self c.step_next.new.bank (r.same.vl ∙ h.same.vl)
          (
          executed_after halts c.args.apart bank.vectors.vl c.steps.done c.run_known-made.result.0 from c.steps.self c.steps.bank
          (core_of c.run_known-made.new.self (bank_state c.run_known-made.new.bank)) h.same.vl h.executed r.executed)
          e.effect (e.kept refl) c.in-Ok.ensures.unhalted);
      few = omega (arith, r.few, c.steps-test.true, c.if-done-most.false, h.few);
      owned = kept_trans c.args.self.now.pages c.steps.self.pages c.step_next.new.self.pages h.owned
          (kept_trans c.steps.self.pages c.run_known-made.new.self.pages c.step_next.new.self.pages r.owned e.owned);
      same = same_trans bank c.steps.bank c.step_next.new.bank h.same
          (same_trans c.steps.bank c.run_known-made.new.bank c.step_next.new.bank r.same e.same);
      mode = e.mode;
    }

pub returns-then-done-most : goal.returns-then-done-most
returns-then-done-most g c =
    let halts = g.H.Halts.halts c.args.halts.now in
    let h = c.steps.invariant in
    let r = c.run_known-made.ensures in
    let bank = c.args.bank.now in
    let from = core_of c.args.self.now (bank_state bank) in
    record {
      executed = (
          executed_after halts c.args.apart bank.vectors.vl c.steps.done c.run_known-made.result.0 from c.steps.self c.steps.bank
          (core_of c.run_known-made.new.self (bank_state c.run_known-made.new.bank)) h.same.vl h.executed r.executed);
      few = omega (arith, r.few, c.steps-test.true, h.few);
      halted = λ less. absurd (omega (arith, less, c.if-done-most.true));
      owned = kept_trans c.args.self.now.pages c.steps.self.pages c.run_known-made.new.self.pages h.owned r.owned;
      same = same_trans bank c.steps.bank c.run_known-made.new.bank h.same r.same;
      mode = r.mode;
    }

pub returns-in-Err : goal.returns-in-Err
returns-in-Err g c =
    let halts = g.H.Halts.halts c.args.halts.now in
    let h = c.steps.invariant in
    let r = c.run_known-made.ensures in
    let bank = c.args.bank.now in
    let from = core_of c.args.self.now (bank_state bank) in
    record {
      executed = (
          executed_after halts c.args.apart bank.vectors.vl c.steps.done c.run_known-made.result.0 from c.steps.self c.steps.bank
          (core_of c.run_known-made.new.self (bank_state c.run_known-made.new.bank)) h.same.vl h.executed r.executed);
      few = omega (arith, r.few, c.steps-test.true, h.few);
      halted = c.in-Err.ensures.halted;
      owned = kept_trans c.args.self.now.pages c.steps.self.pages c.run_known-made.new.self.pages h.owned r.owned;
      same = same_trans bank c.steps.bank c.run_known-made.new.bank h.same r.same;
      mode = r.mode;
    }

pub returns-in-Waits : goal.returns-in-Waits
returns-in-Waits g c =
    let halts = g.H.Halts.halts c.args.halts.now in
    let h = c.steps.invariant in
    let r = c.run_known-made.ensures in
    let e = c.in-Waits.ensures in
    let bank = c.args.bank.now in
    let from = core_of c.args.self.now (bank_state bank) in
    record {
      executed = rw (e.effect.0, e.effect.1) (
          executed_after halts c.args.apart bank.vectors.vl c.steps.done c.run_known-made.result.0 from c.steps.self c.steps.bank
          (core_of c.run_known-made.new.self (bank_state c.run_known-made.new.bank)) h.same.vl h.executed r.executed);
      few = omega (arith, r.few, c.steps-test.true, h.few);
      halted = λ less. ap (λ (m : Machine). halts_in halts m.pages.memory m.scalars.pc) e.effect.0
          ∙ c.in-Ok.ensures.unhalted;
      owned = kept_trans c.args.self.now.pages c.steps.self.pages c.step_next.new.self.pages h.owned
          (kept_trans c.steps.self.pages c.run_known-made.new.self.pages c.step_next.new.self.pages r.owned e.owned);
      same = same_trans bank c.steps.bank c.step_next.new.bank h.same
          (same_trans c.steps.bank c.run_known-made.new.bank c.step_next.new.bank r.same e.same);
      mode = e.mode;
    }

pub returns-in-Memory : goal.returns-in-Memory
returns-in-Memory g c =
    let halts = g.H.Halts.halts c.args.halts.now in
    let h = c.steps.invariant in
    let r = c.run_known-made.ensures in
    let e = c.in-Memory.ensures in
    let bank = c.args.bank.now in
    let from = core_of c.args.self.now (bank_state bank) in
    record {
      executed = rw e.effect.0 (
          executed_after halts c.args.apart bank.vectors.vl c.steps.done c.run_known-made.result.0 from c.steps.self c.steps.bank
          (core_of c.run_known-made.new.self (bank_state c.run_known-made.new.bank)) h.same.vl h.executed r.executed);
      few = omega (arith, r.few, c.steps-test.true, h.few);
      halted = λ less. ap (λ (s : ProcessorState). halts_in halts s.memory s.scalars.pc) e.effect.0
          ∙ c.in-Ok.ensures.unhalted;
      owned = kept_trans c.args.self.now.pages c.steps.self.pages c.step_next.new.self.pages h.owned
          (kept_trans c.steps.self.pages c.run_known-made.new.self.pages c.step_next.new.self.pages r.owned e.owned);
      same = same_trans bank c.steps.bank c.step_next.new.bank h.same
          (same_trans c.steps.bank c.run_known-made.new.bank c.step_next.new.bank r.same e.same);
      mode = e.mode;
    }
