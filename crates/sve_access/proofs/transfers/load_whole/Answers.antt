use Rattle.std.proofs.Common.{◌∙◌, ◌*◌, List, ℕ, ap, length}
use Rattle.sve_access.proofs.Unfaulted.{whole_made}
use Rattle.sve_access.proofs.transfers.load_whole.Goals as goal

pub returns-in-Some-clause-made : goal.returns-in-Some-clause-made
returns-in-Some-clause-made c = λ done.
    let memory = c.memory_size-memory.ensures in
    let element = c.element_size-element.ensures in
    let pg = c.read_p.ensures.value in
    whole_made c.args.kind c.args.offset.now c.args.pg c.args.rn c.args.zt c.args.s.now c.args.vectors.now c.load_whole_z.new.vectors
    c.args.pages.now c.first_address-start.result c.in-Some.bytes.now (cc)
    (rw (element, pg) at c.in-Some.ensures.active)
    (c.load_whole_z.ensures.long ∙ c.read_p.ensures.long ∙ ap (λ (p : List ℕ). 8 * length p) pg)
    c.in-Some.ensures.there
    (rw (memory, element, pg) at c.in-Some.ensures.count)
    (rw (memory, element, pg) at c.in-Some.ensures.allowed)
    c.load_whole_z.ensures.value
