use Rattle.std.proofs.Common.{◌≡◌, ◌+◌, ◌*◌, ◌≤◌, ◌^◌, drop}
use Rattle.report_text.specs.Ends.{ends_of}
use Rattle.smemu.specs.Bench.{all_counted}
use Rattle.smemu.proofs.bench.all_counted.Given as goal

abbrev pub invariant-loop-k : goal.invariant-loop-k
invariant-loop-k l = record {
  left : l.sum + all_counted (ends_of (drop l.k l.contexts)) ≡ all_counted (ends_of l.contexts);
  most : l.sum ≤ l.k * 2 ^ 32;
}
