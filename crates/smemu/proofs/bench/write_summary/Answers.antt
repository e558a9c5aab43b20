use Rattle.smemu.specs.Bench.{bench_line}
use Rattle.smemu.proofs.bench.write_summary.Goals as goal

pub returns : goal.returns
unfolding bench_line
returns g c =
    rw (
      c.as_bytes.ensures.value,
      c.as_bytes-2.ensures.value,
      c.as_bytes-3.ensures.value,
      c.format.ensures.text,
      c.format-2.ensures.text,
      c.format-3.ensures.text,
    ) at c.write_parts.ensures
