use Rattle.std.proofs.Common.{◌∙◌, sym, false}
use Rattle.paged_memory.specs.Memory.{run_of}
use Rattle.sve_access.proofs.Unfaulted.{of_both, none_of_run}
use Rattle.sve_access.proofs.within_page.whole_run.Goals as goal

pub returns-in-None-clause-allowed : goal.returns-in-None-clause-allowed
returns-in-None-clause-allowed c =
    let a = c.args.run.now.address in
    let n = c.args.run.now.size in
    of_both c.readable_bytes.result _ _ _
    (λ bytes there unshared.
    none_of_run c.args.rn a n c.args.s.now c.args.pages.now.memory bytes.now
    (sym (c.sp_fault.ensures false (run_of a n)) ∙ c.in-None.is) unshared there)
    c.readable_bytes.ensures.there c.readable_bytes.ensures.private
