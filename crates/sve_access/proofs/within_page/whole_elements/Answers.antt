use Rattle.std.proofs.Common.{◌∙◌, sym, ap, false}
use Rattle.paged_memory.specs.Memory.{bytes_with}
use Rattle.sve_access.specs.Elements.{element_addresses}
use Rattle.sve_access.proofs.Unfaulted.{of_any, of_both, none_of_elements}
use Rattle.sve_access.proofs.within_page.whole_elements.Goals as goal

pub returns-in-None-clause-active : goal.returns-in-None-clause-active
returns-in-None-clause-active c = of_any c.readable_bytes.result _ (c.are_active.ensures.0 c.if-not-are_active.false)

pub returns-in-None-clause-there : goal.returns-in-None-clause-there
returns-in-None-clause-there c =
    of_both c.readable_bytes.result _ _ _ (λ x there long. ap (bytes_with 4 c.args.pages.now.memory c.args.elements.now.start) long ∙ there)
    c.readable_bytes.ensures.there c.readable_bytes.ensures.count

pub returns-in-None-clause-count : goal.returns-in-None-clause-count
returns-in-None-clause-count c =
    of_both c.readable_bytes.result _ _ _ (λ x there long. long ∙ c.size.ensures.value)
    c.readable_bytes.ensures.there c.readable_bytes.ensures.count

pub returns-in-None-clause-allowed : goal.returns-in-None-clause-allowed
returns-in-None-clause-allowed c =
    let x = c.args.elements.now in
    let addresses = element_addresses x.start x.memory x.element x.pg.now in
    of_both c.readable_bytes.result _ _ _
    (λ bytes there unshared.
    none_of_elements c.args.rn x.start x.memory x.element x.pg.now c.size.result c.args.s.now c.args.pages.now.memory bytes.now
    (sym (c.sp_fault.ensures false addresses) ∙ c.in-None.is) c.size.ensures.value unshared there)
    c.readable_bytes.ensures.there c.readable_bytes.ensures.private
