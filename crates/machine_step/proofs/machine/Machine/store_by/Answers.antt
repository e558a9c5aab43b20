use Rattle.std.proofs.Common.{refl, subst}
use Rattle.std.specs.Prelude.{Bool}
use Rattle.sm_types.specs.declared.insn.Insn.TheVariants as insn
use Rattle.sm_types.specs.declared.insn.LoadStoreOp.TheVariants.{Store}
use Rattle.mem_access.specs.Near.{MakesNear}
use Rattle.machine_step.proofs.Answers.{no_operation}
use Rattle.machine_step.proofs.Flats.{load_row}
use Rattle.machine_step.proofs.Stored.{stored_at}
use Rattle.machine_step.proofs.machine.Machine.store_by.Goals as goal

pub store_near-requires-clause-fields : goal.store_near-requires-clause-fields
store_near-requires-clause-fields c = load_row c.args.known.now.word _ c.requires.word c.requires.means

pub returns-then-store_near : goal.returns-then-store_near
returns-then-store_near c =
    let old = c.args.self.now in
    let it = insn.LoadStore (record {
      op = Store;
      size = c.args.size;
      address = c.args.address;
      rn = c.args.rn;
      rt = c.args.rt;
    }) in
    let e = subst (λ (b : Bool). MakesNear it old.scalars old.pages c.store_near.new.s c.store_near.new.pages b) c.if-store_near.true
    c.store_near.ensures.made in
    stored_at c.args.known.now.word it old c.step_past.new.self c.store_near.new.s c.store_near.new.pages refl c.requires.means
    c.requires.aligned c.requires.fetched (no_operation it old.scalars old.pages.memory c.touched_is_shared.ensures e.0) e
    c.step_past.ensures.core c.step_past.ensures.pages c.store_near.ensures.shared
    (record { streaming = c.step_past.ensures.mode.streaming; za_on = c.step_past.ensures.mode.za_on })
