use Rattle.std.proofs.Common.{ap, take}
use Rattle.std.proofs.lemmas.Result.{on_ok_weaker}
use Rattle.mem_access.proofs.InMemory.{number_written}
use Rattle.mem_access.proofs.numbers.write_number.Goals as goal

pub returns-clause-ok : goal.returns-clause-ok
returns-clause-ok c =
    on_ok_weaker c.write_bytes.result (λ is. number_written _ _ c.args.address c.bytes_in.result c.args.value c.args.size _ is
    (ap (take c.bytes_in.result) c.to_le_bytes-bytes.ensures) c.bytes_in.ensures.value) c.write_bytes.ensures.ok
