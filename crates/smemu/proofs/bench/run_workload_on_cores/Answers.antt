use Rattle.std.proofs.Common.{rules, ◌≡◌, ap}
use Rattle.std.specs.Prelude.{slice_index}
use Rattle.report_text.specs.Ends.{ends_of}
use Rattle.smemu.specs.Bench.{all_counted, bench_line}
use Rattle.smemu.proofs.bench.run_workload_on_cores.Goals as goal

pub returns : goal.returns
returns g c =
    let run = c.in_ok-run.run' in
    let counted : c.all_counted.result ≡ all_counted (ends_of run.contexts.items) = search rules in
    record {
      program = c.in_ok-image.image;
      image = c.in_ok-image.ensures;
      ends = ends_of run.contexts.items;
      words = run.words;
      run = c.in_ok-run.ensures;
      is_text = ap (λ n. bench_line c.args.number n (slice_index run.words.shared 0)) counted;
    }
