use Rattle.std.proofs.Common.{◌≡◌, refl, ap, subst, ◌∙◌, arith}
use Rattle.paged_memory.specs.Memory.{AddressSpace}
use Rattle.paged_memory.specs.PageTable.{OwnsAlso}
use Rattle.paged_memory.proofs.Owned.{also_all}
use Rattle.sve_access.specs.Elements.{element_run, element_addresses}
use Rattle.sve_access.proofs.Lists.{of_first}
use Rattle.sve_access.proofs.Kept.{owns_first, owns_more, each_owned}
use Rattle.paged_memory.proofs.Owned.{kept_trans}
use Rattle.sve_access.proofs.stores.own_elements.Goals as goal

pub loop-i-init : goal.loop-i-init
loop-i-init c =
    let x = c.args.elements.now in
    (refl, (λ n owned. owned), owns_first (element_run x.start x.memory) x.element x.pg.now c.args.pages.now)

pub loop-i-preserved : goal.loop-i-preserved
loop-i-preserved c =
    let x = c.args.elements.now in (
      c.own_element.ensures.memory ∙ c.loop-i.invariant.0,
      kept_trans c.args.pages.now c.loop-i.pages c.own_element.new.pages c.loop-i.invariant.1 c.own_element.ensures.kept,
      owns_more (element_run x.start x.memory) x.element x.pg.now c.loop-i.i c.args.pages.now c.loop-i.pages c.own_element.new.pages
          c.loop-i.invariant.0 c.loop-i.invariant.2 c.in_ok-own_element.ensures.also,
    )

pub returns-clause-also : goal.returns-clause-also
unfolding element_addresses
returns-clause-also c =
    let x = c.args.elements.now in
    let all : c.loop-i.i ≡ c.count-i-end.result = (let end = c.loop-i-test.false in let most = c.loop-i.auto.i-end in omega (
      arith,
      end,
      most,
    )) in
    subst (λ k. OwnsAlso c.args.pages.now c.loop-i.pages (of_first (element_run x.start x.memory) x.element x.pg.now k))
    (all ∙ c.count-i-end.ensures.value) c.loop-i.invariant.2

pub returns-clause-owned : goal.returns-clause-owned
returns-clause-owned c =
    let x = c.args.elements.now in
    each_owned x.start x.memory x.element x.pg.now c.loop-i.pages
    (also_all c.args.pages.now c.loop-i.pages (element_addresses x.start x.memory x.element x.pg.now) (returns-clause-also c)
    (ap (λ (m : AddressSpace). m.perm) c.loop-i.invariant.0))
