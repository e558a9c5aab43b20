use Rattle.std.proofs.Common.{Some, ap, sym, ◌∙◌}
use Rattle.mem_access.specs.DataAccess.{of_run}
use Rattle.mem_access.specs.Transfer.{access_of}
use Rattle.mem_access.proofs.Touched.{checked_base}
use Rattle.mem_access.proofs.shared_access.touched_fault.Goals as goal

pub returns-in-LoadStore : goal.returns-in-LoadStore
returns-in-LoadStore c m =
    let s = c.args.scalars.now in
    c.base_fault.ensures
    ∙ checked_base c.args.insn.now s c.load_store_access.result m c.requires.touched
    (ap (λ it. access_of it s) c.in-LoadStore.is ∙ ap (λ run. Some (of_run run)) (sym c.load_store_access.ensures.value))

pub returns-in-LoadLiteral : goal.returns-in-LoadLiteral
returns-in-LoadLiteral c m =
    let s = c.args.scalars.now in
    c.base_fault-in-LoadLiteral.ensures
    ∙ checked_base c.args.insn.now s c.load_literal_access.result m c.requires.touched
    (ap (λ it. access_of it s) c.in-LoadLiteral.is ∙ ap (λ run. Some (of_run run)) (sym c.load_literal_access.ensures.value))

pub returns-in-Atomic : goal.returns-in-Atomic
returns-in-Atomic c m =
    let s = c.args.scalars.now in
    c.base_fault-in-Atomic.ensures
    ∙ checked_base c.args.insn.now s c.atomic_access.result m c.requires.touched
    (ap (λ it. access_of it s) c.in-Atomic.is ∙ ap (λ run. Some (of_run run)) (sym c.atomic_access.ensures.value))
