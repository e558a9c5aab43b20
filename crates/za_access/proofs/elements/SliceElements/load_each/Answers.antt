use Rattle.std.proofs.Common.{◌≡◌, ◌<◌, ◌≤◌, ◌+◌, ◌*◌, ◌/◌, ◌∙◌, ap, sym, refl, arith, length}
use Rattle.std.specs.List.{concat}
use Rattle.vector_elements.specs.Elements.{listed}
use Rattle.tile_ops.specs.Slices.{with_element}
use Rattle.tile_ops.proofs.Filled.{filled_none, filled_next, filled_all, within}
use Rattle.tile_ops.specs.Named.{element_size}
use Rattle.za_access.specs.Slices.{loaded_element, loaded_slice}
use Rattle.za_access.proofs.Loaded.{element_long, whole_elements}
use Rattle.za_access.proofs.elements.SliceElements.load_each.Goals as goal

pub loop-i-init : goal.loop-i-init
loop-i-init c = filled_none _ _ _

pub loop-i-preserved : goal.loop-i-preserved
loop-i-preserved c =
    let x = c.args.self.now in
    let e = element_size x.size in
    let f = loaded_element x.start e x.pg.now c.args.pages.now.memory in
    let n = length c.args.slice.now in
    let i = c.loop-i.i in
    let count : n / c.element_size.result ≡ n / e = ap (λ k. n / k) c.element_size.ensures.value in
    let below : i < n / e = omega (arith, count) in
    let same : length c.loop-i.slice ≡ n = c.loop-i.auto.slice in
    let least = within n e i below in
    let room : i * e + e ≤ length c.loop-i.slice = omega (arith, least, same) in
    let kept : length (with_element e c.loop-i.slice i (f i)) ≡ length c.loop-i.slice =
    ap length (sym c.load_element.ensures) ∙ c.load_element.auto.slice in
    rw c.load_element.ensures
    (filled_next e f c.args.slice.now c.loop-i.slice i (f i) c.loop-i.invariant room (element_long e c.loop-i.slice (f i) i room kept) refl)

pub returns : goal.returns
unfolding loaded_slice
returns c =
    let x = c.args.self.now in
    let e = element_size x.size in
    let f = loaded_element x.start e x.pg.now c.args.pages.now.memory in
    let n = length c.args.slice.now in
    let count : n / c.element_size.result ≡ n / e = ap (λ k. n / k) c.element_size.ensures.value in
    let last : c.loop-i.i ≡ n / e = omega (arith, count) in
    let even = c.requires.even in
    let bits = c.requires.bits in
    filled_all e f c.args.slice.now c.loop-i.slice c.loop-i.i n (whole_elements x.size n (omega (arith, even, bits)))
    c.loop-i.auto.slice last c.loop-i.invariant
    ∙ ap (λ k. concat (listed f (k / e))) bits
