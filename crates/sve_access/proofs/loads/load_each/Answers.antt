use Rattle.std.proofs.Common.{◌≤◌, ◌*◌, length, ap, sym, ◌∙◌, arith}
use Rattle.vector_elements.specs.Elements.{is_active}
use Rattle.vector_elements.specs.Numbers.{bytes_in}
use Rattle.sve_access.specs.Contiguous.{memory_size, element_size}
use Rattle.sve_access.proofs.Kept.{each_permitted, below_count, before_end, few_elements}
use Rattle.sve_access.proofs.loads.load_each.Goals as goal

pub change_each-requires-clause-can : goal.change_each-requires-clause-can
change_each-requires-clause-can c = λ i room.
    let size = c.element_size.result in
    let kind = c.args.kind in
    let pg = c.args.elements.now.pg.now in
    let inside = rw c.requires.bits at room in
    let few : 8 * length pg ≤ 256 = (let small = c.requires.small in omega (arith, small)) in
    let below = below_count size i (8 * length pg) inside in (
      c.element_size.ensures ∙ sym c.requires.element,
      c.requires.memory,
      few_elements size i (8 * length pg) inside few,
      c.requires.small,
      before_end size i (8 * length pg) inside,
      λ on.
          each_permitted 4 c.args.elements.now.start (memory_size kind) (element_size kind) pg c.args.pages.now.memory
          c.requires.readable i (rw c.element_size.ensures at below)
          (sym (ap (λ e. is_active (bytes_in e) pg i) c.element_size.ensures) ∙ on),
    )
