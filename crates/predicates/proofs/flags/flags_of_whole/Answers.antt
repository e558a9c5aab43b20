use Rattle.std.proofs.Common.{ap, ◌∙◌, ◌-◌, ◌*◌, length, ℕ}
use Rattle.vector_elements.specs.Elements.{bit_of}
use Rattle.predicates.proofs.Whole.{whole_flags}
use Rattle.predicates.proofs.flags.flags_of_whole.Goals as goal

pub returns : goal.returns
returns c =
    let results = c.args.results.now in
    let last = c.bit-last_holds.ensures ∙ ap (λ (w : ℕ). bit_of results (8 * length results - w)) c.bytes-width.ensures in
    rw (c.bit-first_holds.ensures, last)
    (whole_flags c.args.size c.args.mask.now results c.some_holds-any_holds.result c.requires.same c.requires.some
    c.requires.active c.some_holds-any_holds.ensures)
