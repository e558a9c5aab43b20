use Rattle.std.proofs.Common.{take, ap, ◌∙◌}
use Rattle.std.proofs.lemmas.List.{length-take-le}
use Rattle.mem_access.proofs.MadeNear.{number_stored}
use Rattle.mem_access.proofs.near.write_number_near.Goals as goal

pub returns-clause-near : goal.returns-clause-near
returns-clause-near c =
    number_stored c.args.address c.bytes_in.result c.args.value c.args.size _ c.args.pages.now c.write_near.new.self c.write_near.result
    c.write_near.ensures.near (ap (take c.bytes_in.result) c.to_le_bytes-bytes.ensures) c.bytes_in.ensures.value
    (length-take-le c.bytes_in.result c.to_le_bytes-bytes.result (rw c.to_le_bytes-bytes.ensures c.bytes_in.ensures.small) ∙ c.bytes_in.ensures.value)
