use Rattle.std.proofs.Common.{◌∙◌, ap, replicate}
use Rattle.sve_vectors.specs.Lengths.{vector_bytes}
use Rattle.za_array.specs.Layout.{state_of_array}
use Rattle.za_array.proofs.array.Za.new.Goals as goal

pub returns-in-Ok : goal.returns-in-Ok
returns-in-Ok c = ap (state_of_array c.args.svl)
    (c.in-Ok.ensures ∙ ap (λ n. replicate n (replicate c.bytes-2.result 0)) c.bytes.ensures
    ∙ ap (λ n. replicate (vector_bytes c.args.svl) (replicate n 0)) c.bytes-2.ensures)
