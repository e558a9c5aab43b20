use Rattle.std.proofs.Common.{◌≡◌, ◌+◌, ◌-◌, ◌*◌, ◌/◌, ◌%◌, ◌^◌, ◌<◌, ◌≤◌, true, length, take, drop, ap, sym, subst, ◌∙◌, arith}
use Rattle.std.proofs.lemmas.List.{length-take-le, length-drop}
use Rattle.paged_memory.specs.Memory.{first_without}
use Rattle.vector_elements.specs.Elements.{is_active, bit_of}
use Rattle.tile_ops.specs.Named.{element_size}
use Rattle.za_access.proofs.Loaded.{each_readable, below_count}
use Rattle.za_access.proofs.elements.SliceElements.load_element.Goals as goal

pub read_run-requires : goal.read_run-requires
read_run-requires c =
    let x = c.args.self.now in
    let i = c.args.i in
    let m = c.args.pages.now.memory in
    let slice = c.args.slice.now in
    let e = element_size x.size in
    let n = c.element_size-bytes.result in
    let size : n ≡ e = c.element_size-bytes.ensures.value in
    let room : i * n + n ≤ length slice = subst (λ k. i * k + k ≤ length slice) (sym size) c.requires.within in
    let rest = length-drop (i * n) slice in
    let many : i * n + n - i * n ≡ n = omega arith in
    let long : length (take (i * n + n - i * n) (drop (i * n) slice)) ≡ n =
    ap (λ k. length (take k (drop (i * n) slice))) many ∙ length-take-le n (drop (i * n) slice) (omega (arith, room, rest)) in
    let below : i < 8 * length x.pg.now / e =
    subst (λ k. i < k / e) c.requires.bits (below_count x.size i (length slice) c.requires.within) in
    let active : is_active e x.pg.now i ≡ true =
    ap (λ k. bit_of x.pg.now (k * i)) (sym size) ∙ sym c.bit.ensures ∙ c.if-bit.true in
    ap (first_without 4 m ((x.start + i * n) % 2 ^ 64)) long ∙ ap (λ k. first_without 4 m ((x.start + i * k) % 2 ^ 64) k) size
    ∙ each_readable x.start e x.pg.now m i c.requires.readable below active
