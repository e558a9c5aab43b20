use Rattle.sm_types.specs.Length.{bits_of}
use Rattle.smemu.proofs.command.bench_options.Goals as goal

pub returns-clause-given : goal.returns-clause-given
returns-clause-given c =
    let d = c.defaults-config.ensures in
    λ i. record {
      vl = bits_of (d.vl i);
      svl = bits_of (d.svl i);
      slice = d.slice i;
      budget = d.budget i;
      threads = 4;
      cores = c.args.cores;
      kernel = d.kernel i;
    }
