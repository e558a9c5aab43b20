use Rattle.std.proofs.Common.{◌≡◌, ◌<◌, ◌+◌, ◌*◌, ◌/◌, ◌%◌, ◌^◌, length, refl, ap, sym, subst, ◌∙◌, arith, [], Some, None}
use Rattle.std.specs.Prelude.{flat_map}
use Rattle.paged_memory.specs.Memory.{first_without}
use Rattle.vector_elements.specs.Elements.{is_active}
use Rattle.vector_elements.specs.Numbers.{bytes_in}
use Rattle.mem_access.specs.Transfer.{written}
use Rattle.sve_perm.proofs.Sums.{place_where}
use Rattle.paged_memory.proofs.Owned.{owns_then}
use Rattle.sve_access.specs.Elements.{element_run, low_bytes, element_addresses, element_bytes}
use Rattle.sve_access.proofs.Lists.{of_first}
use Rattle.sve_access.proofs.Kept.{each_permitted, still_permitted}
use Rattle.sve_access.proofs.Stored.{stored_none, stored_more}
use Rattle.sve_access.proofs.stores.write_elements.Goals as goal

pub loop-i-init : goal.loop-i-init
loop-i-init c =
    let x = c.args.elements.now in
    (stored_none c.args.pages.now.memory x.start c.args.z.now x.memory x.element x.pg.now, λ number. refl)

pub write_element-requires-clause-permitted : goal.write_element-requires-clause-permitted
write_element-requires-clause-permitted c = λ on.
    let x = c.args.elements.now in
    let m = c.args.pages.now.memory in
    let i = c.loop-i.i in
    let address = (x.start + i * bytes_in x.memory) % 2 ^ 64 in
    let below = rw c.count-i-end.ensures.value at c.loop-i-test.true in
    let addresses = of_first (element_run x.start x.memory) x.element x.pg.now i in
    let bytes = of_first (low_bytes c.args.z.now x.memory x.element) x.element x.pg.now i in
    subst (λ k. first_without 2 k address (bytes_in x.memory) ≡ None) (sym c.loop-i.invariant.0)
    (still_permitted 2 m addresses bytes address (bytes_in x.memory)
    (each_permitted 2 x.start x.memory x.element x.pg.now m c.requires.permitted i below on))

pub loop-i-preserved : goal.loop-i-preserved
loop-i-preserved c =
    let x = c.args.elements.now in
    let z = c.args.z.now in
    let i = c.loop-i.i in
    let below : i < 8 * length x.pg.now / bytes_in x.element = rw c.count-i-end.ensures.value at c.loop-i-test.true in
    let bits : 8 * length x.pg.now / bytes_in x.element ≡ length z / bytes_in x.element =
    ap (λ n. n / bytes_in x.element) (sym c.requires.bits) in
    let on = is_active (bytes_in x.element) x.pg.now i in (
      c.write_element.ensures.memory
          ∙ ap (λ m. written m (flat_map (element_run x.start x.memory) (place_where on i))
          (Some (flat_map (low_bytes z x.memory x.element) (place_where on i)))) c.loop-i.invariant.0
          ∙ stored_more c.args.pages.now.memory x.start z x.memory x.element x.pg.now i c.requires.narrow (omega (arith, below, bits)),
      owns_then c.args.pages.now c.loop-i.pages c.write_element.new.pages [] c.loop-i.invariant.1 c.write_element.ensures.owned,
    )

pub returns-clause-memory : goal.returns-clause-memory
unfolding element_addresses element_bytes
returns-clause-memory c =
    let x = c.args.elements.now in
    let all : c.loop-i.i ≡ c.count-i-end.result = (let end = c.loop-i-test.false in let most = c.loop-i.auto.i-end in omega (
      arith,
      end,
      most,
    )) in
    c.loop-i.invariant.0
    ∙ ap (λ k. written c.args.pages.now.memory (of_first (element_run x.start x.memory) x.element x.pg.now k)
    (Some (of_first (low_bytes c.args.z.now x.memory x.element) x.element x.pg.now k)))
    (all ∙ c.count-i-end.ensures.value)
