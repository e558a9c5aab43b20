use Rattle.std.proofs.Common.{◌≡◌, ◌*◌, ◌/◌, length, ap, ap₂, sym, ◌∙◌}
use Rattle.vector_elements.specs.Numbers.{bytes_in}
use Rattle.sve_access.specs.Contiguous.{memory_size, element_size}
use Rattle.sve_access.proofs.Spans.{loads_same}
use Rattle.sve_access.proofs.loads.load_elements.Goals as goal

pub returns-in-Some : goal.returns-in-Some
returns-in-Some c =
    let x = c.args.elements.now in
    let kind = c.args.kind in
    let z = c.args.z.now in
    let size : c.size-size.result ≡ length z / bytes_in (element_size kind) * bytes_in (memory_size kind) =
    c.size-size.ensures.value
    ∙ ap (λ n. n / bytes_in x.element * bytes_in x.memory) (sym c.requires.bits)
    ∙ ap₂ (λ e m. length z / bytes_in e * bytes_in m) c.requires.element c.requires.memory in
    c.load_from.ensures
    ∙ loads_same kind c.args.pages.now.memory x.start c.size-size.result (element_size kind) x.pg.now z c.in-Some.bytes.now
    c.in-Some.ensures.there size
