use Rattle.std.proofs.Common.{length, get_or, [], sym, ap, ◌∙◌}
use Rattle.za_array.specs.Lending.{with_array_bytes}
use Rattle.za_array.proofs.Whole.{array_whole}
use Rattle.vector_runner.proofs.state.set_za.Goals as goal

pub returns : goal.returns
returns c =
    let s = c.args.za.now in
    ap (λ n. with_array_bytes s n c.copy_from_slice.new.self) c.from.ensures
    ∙ ap (with_array_bytes s c.args.n) c.copy_from_slice.ensures.after
    ∙ array_whole s c.args.n c.args.bytes.now
    (c.requires.long ∙ sym c.vector_mut.ensures.long ∙ ap length c.vector_mut.ensures.value
    ∙ ap (λ n. length (get_or s.vectors n [])) c.from.ensures)
