use Rattle.std.proofs.Common.{◌≤◌, ◌∙◌, length, sym, ap, subst}
use Rattle.std.specs.FinMap.{entries}
use Rattle.scalar_exec.specs.Registers.{x_of}
use Rattle.mem_access.specs.declared.bank.Bank.{Bank}
use Rattle.machine_step.specs.declared.machine.Machine.{Machine}
use Rattle.za_array.specs.Array.{IsSquare}
use Rattle.kernel_contexts.specs.Context.{state_of}
use Rattle.lazy_saving.specs.Dormant.{IsDormantAt}
use Rattle.za_routines.specs.Places.{places_of}
use Rattle.abi_checker.proofs.open_call.OpenCall.keep.Goals as goal

pub returns-in_default-clause-none : goal.returns-in_default-clause-none
unfolding x_of
returns-in_default-clause-none c =
    subst (λ (m : Machine). ¬ IsDormantAt (places_of c.args.places) (state_of c.args.context.now).core (x_of m.scalars 19))
    c.machine-machine.ensures c.in_default.ensures.none

pub returns-clause-kept : goal.returns-clause-kept
unfolding x_of
returns-clause-kept c = record {
  block = ap (λ (m : Machine). x_of m.scalars 19) c.machine-machine.ensures;
  sp = ap (λ (m : Machine). m.scalars.sp) c.machine-machine.ensures;
  depth = c.depth.ensures;
  kept = c.in-Some.ensures.some;
  rows = c.in_ok-rows_of.ensures.rows ∙ ap (λ (b : Bank). b.za.vectors) c.bank.ensures.value;
  pages = ap (λ (m : Machine). entries m.pages.memory.perm) (sym c.machine-machine.ensures) ∙ sym c.in_ok-permissions.ensures.pages;
  square = subst (λ (b : Bank). IsSquare (length b.za.vectors) b.za.vectors) c.bank.ensures.value c.in_ok-rows_of.ensures.square;
  small = subst (λ (b : Bank). length b.za.vectors ≤ 256) c.bank.ensures.value c.in_ok-rows_of.ensures.small;
}
