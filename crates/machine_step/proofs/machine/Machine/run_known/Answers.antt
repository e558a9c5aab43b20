use Rattle.std.proofs.Common.{◌+◌, Some, add-one, refl, ap, sym, subst, ◌∙◌, arith}
use Rattle.paged_memory.proofs.Owned.{kept_trans}
use Rattle.mem_access.specs.Bank.{bank_state}
use Rattle.machine_step.specs.Machine.{core_of}
use Rattle.machine_step.specs.Next.{Follows, IsNext}
use Rattle.machine_step.specs.declared.decoder.Decoded.{Decoded}
use Rattle.machine_step.specs.declared.machine.Machine.{Machine}
use Rattle.machine_step.specs.declared.page_run.Next.{Next}
use Rattle.machine_step.specs.declared.page_run.Next.TheVariants.{Kept}
use Rattle.machine_step.specs.Runs.{RunsOn}
use Rattle.machine_step.proofs.Computing.{executed_after, same_trans, mode_stays}
use Rattle.machine_step.proofs.Steps.{executed_more}
use Rattle.machine_step.proofs.machine.Machine.run_known.Goals as goal

pub runs-preserved : goal.runs-preserved
runs-preserved g c =
    let halts = g.H.Halts.halts c.args.halts.now in
    let h = c.runs.invariant in
    let r = c.run_on-made.ensures in
    let bank = c.args.bank.now in
    let from = core_of c.args.self.now (bank_state bank) in
    let e = c.in-Done.ensures in
    let n : IsNext (g.H.Halts.halts c.args.halts.now) c.run_on-made.new.self.pages.memory c.args.decoder.now.places.items c.in-Kept.place
    c.run_on-made.new.self.scalars =
    subst (λ (o : Next). Follows (g.H.Halts.halts c.args.halts.now) c.run_on-made.new.self.pages.memory c.args.decoder.now.places.items
    c.run_on-made.new.self.scalars o) c.in-Kept.is c.run_on-made.ensures.next in
    record {
      executed = rw add-one (executed_more halts c.args.apart bank.vectors.vl (c.runs.done + c.run_on-made.result.0) from
          c.run_on-made.new.self c.run_on-made.new.bank c.store_known.new.self c.run_on-made.new.bank (r.same.vl ∙ h.same.vl)
          (executed_after halts c.args.apart bank.vectors.vl c.runs.done c.run_on-made.result.0 from c.runs.self c.runs.bank
          (core_of c.run_on-made.new.self (bank_state c.run_on-made.new.bank)) h.same.vl h.executed r.executed)
          (e.effect c.run_on-made.new.bank) (e.kept refl c.args.apart (bank_state c.run_on-made.new.bank)) n.unhalted);
      few = omega (arith, r.few, c.runs-test.true, c.if-done-most.false, h.few);
      owned = kept_trans c.args.self.now.pages c.runs.self.pages c.store_known.new.self.pages h.owned
          (kept_trans c.runs.self.pages c.run_on-made.new.self.pages c.store_known.new.self.pages r.owned e.owned);
      same = same_trans bank c.runs.bank c.run_on-made.new.bank h.same r.same;
      mode = mode_stays c.run_on-made.new.bank c.run_on-made.new.self c.store_known.new.self r.mode e.mode;
    }

pub store_known-requires-clause-fetched : goal.store_known-requires-clause-fetched
store_known-requires-clause-fetched g c =
    let d : Decoded = c.kept-known.result.now in
    let n : IsNext (g.H.Halts.halts c.args.halts.now) c.run_on-made.new.self.pages.memory c.args.decoder.now.places.items c.in-Kept.place
    c.run_on-made.new.self.scalars =
    subst (λ (o : Next). Follows (g.H.Halts.halts c.args.halts.now) c.run_on-made.new.self.pages.memory c.args.decoder.now.places.items
    c.run_on-made.new.self.scalars o) c.in-Kept.is c.run_on-made.ensures.next in
    n.fetched d ∙ ap (λ (k : Decoded). Some k.word) (sym (c.kept-known.ensures d))

pub returns-in_default : goal.returns-in_default
returns-in_default g c =
    let halts = g.H.Halts.halts c.args.halts.now in
    let h = c.runs.invariant in
    let r = c.run_on-made.ensures in
    let bank = c.args.bank.now in
    let from = core_of c.args.self.now (bank_state bank) in
    record {
      executed = executed_after halts c.args.apart bank.vectors.vl c.runs.done c.run_on-made.result.0 from c.runs.self c.runs.bank
          (core_of c.run_on-made.new.self (bank_state c.run_on-made.new.bank)) h.same.vl h.executed r.executed;
      few = omega (arith, r.few, c.runs-test.true, h.few);
      next = r.next;
      owned = kept_trans c.args.self.now.pages c.runs.self.pages c.run_on-made.new.self.pages h.owned
          r.owned;
      same = same_trans bank c.runs.bank c.run_on-made.new.bank h.same r.same;
      mode = r.mode;
    }

pub returns-then-done-most : goal.returns-then-done-most
returns-then-done-most g c =
    let halts = g.H.Halts.halts c.args.halts.now in
    let h = c.runs.invariant in
    let r = c.run_on-made.ensures in
    let bank = c.args.bank.now in
    let from = core_of c.args.self.now (bank_state bank) in
    record {
      executed = executed_after halts c.args.apart bank.vectors.vl c.runs.done c.run_on-made.result.0 from c.runs.self c.runs.bank
          (core_of c.run_on-made.new.self (bank_state c.run_on-made.new.bank)) h.same.vl h.executed r.executed;
      few = omega (arith, r.few, c.runs-test.true, h.few);
      next = subst (λ (o : Next). Follows halts c.run_on-made.new.self.pages.memory c.args.decoder.now.places.items
          c.run_on-made.new.self.scalars o) c.in-Kept.is r.next;
      owned = kept_trans c.args.self.now.pages c.runs.self.pages c.run_on-made.new.self.pages h.owned
          r.owned;
      same = same_trans bank c.runs.bank c.run_on-made.new.bank h.same r.same;
      mode = r.mode;
    }

pub returns-in-Waits : goal.returns-in-Waits
returns-in-Waits g c =
    let halts = g.H.Halts.halts c.args.halts.now in
    let h = c.runs.invariant in
    let r = c.run_on-made.ensures in
    let bank = c.args.bank.now in
    let from = core_of c.args.self.now (bank_state bank) in
    let n = c.run_on-made.new in
    subst (λ (m : Machine). RunsOn halts c.args.apart c.args.most c.args.decoder.now.places.items c.args.self.now bank m n.bank
    (c.runs.done + c.run_on-made.result.0, Kept c.in-Kept.place)) (sym (c.in-Waits.ensures.effect n.bank).0)
    (record {
      executed = executed_after halts c.args.apart bank.vectors.vl c.runs.done c.run_on-made.result.0 from c.runs.self c.runs.bank
          (core_of c.run_on-made.new.self (bank_state c.run_on-made.new.bank)) h.same.vl h.executed r.executed;
      few = omega (arith, r.few, c.runs-test.true, h.few);
      next = subst (λ (o : Next). Follows halts c.run_on-made.new.self.pages.memory c.args.decoder.now.places.items
          c.run_on-made.new.self.scalars o) c.in-Kept.is r.next;
      owned = kept_trans c.args.self.now.pages c.runs.self.pages c.run_on-made.new.self.pages h.owned
          r.owned;
      same = same_trans bank c.runs.bank c.run_on-made.new.bank h.same r.same;
      mode = r.mode;
    })

pub returns-in-Memory : goal.returns-in-Memory
returns-in-Memory g c =
    let halts = g.H.Halts.halts c.args.halts.now in
    let h = c.runs.invariant in
    let r = c.run_on-made.ensures in
    let bank = c.args.bank.now in
    let from = core_of c.args.self.now (bank_state bank) in
    let n = c.run_on-made.new in
    let e = c.in-Memory.ensures in
    record {
      executed = rw (e.effect n.bank).0 (executed_after halts c.args.apart bank.vectors.vl c.runs.done c.run_on-made.result.0 from
          c.runs.self c.runs.bank (core_of n.self (bank_state n.bank)) h.same.vl h.executed r.executed);
      few = omega (arith, r.few, c.runs-test.true, h.few);
      next = tt;
      owned = kept_trans c.args.self.now.pages n.self.pages c.store_known.new.self.pages
          (kept_trans c.args.self.now.pages c.runs.self.pages n.self.pages h.owned r.owned) e.owned;
      same = same_trans bank c.runs.bank n.bank h.same r.same;
      mode = mode_stays n.bank n.self c.store_known.new.self r.mode e.mode;
    }
