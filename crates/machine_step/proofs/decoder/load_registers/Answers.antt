use Rattle.std.proofs.Common.{ℕ, ap, sym, ◌∙◌}
use Rattle.sm_types.specs.declared.insn.Insn.TheVariants as insn
use Rattle.sm_types.specs.declared.scalars.Scalars.{Scalars}
use Rattle.scalar_exec.specs.Registers.{past}
use Rattle.mem_access.specs.Transfer.{AfterAccess}
use Rattle.machine_step.proofs.Answers.{no_operation}
use Rattle.machine_step.proofs.decoder.load_registers.Goals as goal

pub returns-in-Ok : goal.returns-in-Ok
unfolding past
returns-in-Ok c =
    let it = insn.LoadStorePair c.args.x.now in
    let e = c.in-Ok.ensures.made in
    let s : Scalars = c.load_pair.new.s in
    record {
      private = no_operation it c.args.s.now c.args.pages.now.memory c.touched_is_shared.ensures e.0;
      allowed = e.0;
      memory = ap (λ (a : AfterAccess). a.memory) (sym e.1);
      is = ap (λ (p : ℕ). record s { pc = p }) c.next_address-s.ensures ∙ ap past (ap (λ (a : AfterAccess). a.scalars) e.1);
    }
