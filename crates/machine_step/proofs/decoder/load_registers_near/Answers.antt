use Rattle.std.proofs.Common.{ap, sym, subst, ◌∙◌, ℕ}
use Rattle.std.specs.Prelude.{Bool}
use Rattle.sm_types.specs.declared.insn.Insn.TheVariants as insn
use Rattle.sm_types.specs.declared.scalars.Scalars.{Scalars}
use Rattle.scalar_exec.specs.Registers.{past}
use Rattle.mem_access.specs.Near.{MakesNear}
use Rattle.mem_access.specs.Transfer.{AfterAccess}
use Rattle.machine_step.proofs.Answers.{no_operation}
use Rattle.machine_step.proofs.decoder.load_registers_near.Goals as goal

pub returns-then-load_pair_near : goal.returns-then-load_pair_near
unfolding past
returns-then-load_pair_near c =
    let it = insn.LoadStorePair c.args.x.now in
    let s : Scalars = c.load_pair_near.new.s in
    let e = subst (λ (b : Bool). MakesNear it c.args.s.now c.args.pages.now s c.args.pages.now b) c.if-load_pair_near.true c.load_pair_near.ensures in
    record {
      private = no_operation it c.args.s.now c.args.pages.now.memory c.touched_is_shared.ensures e.0;
      allowed = e.0;
      memory = ap (λ (a : AfterAccess). a.memory) (sym e.1);
      is = ap (λ (p : ℕ). record s { pc = p }) c.next_address-s.ensures ∙ ap past (ap (λ (a : AfterAccess). a.scalars) e.1);
    }
