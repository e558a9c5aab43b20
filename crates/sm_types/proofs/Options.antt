-- Options with the same numbers are the same: of what the ranges say there is one proof.
use Rattle.std.proofs.Common.{◌≡◌, ℕ, ◌≤◌, ap}
use mathlib.Core.HLevel.{Σ_prop_path}
use native.Mathlib.Bridge.{le_prop}
use Rattle.sm_types.specs.Options.{numbers_of}
use Rattle.sm_types.specs.declared.config.Config.{Config}
use Rattle.sm_types.specs.declared.numbers.Numbers.{Numbers}
use Rattle.sm_types.specs.declared.length.VecLen.{VecLen}
use Rattle.sm_types.proofs.Lengths.{same_length}

abbrev Counts : Type 0
Counts = VecLen × VecLen × ℕ × ℕ × ℕ × ℕ × ℕ

abbrev InRange : Counts → Type 0
InRange n =
    ((1 ≤ n.2) × (n.2 ≤ 1000000)) × ((1 ≤ n.3) × (((1 ≤ n.4) × (n.4 ≤ 32)) × (((1 ≤ n.5) × (n.5 ≤ 64)) × ((1 ≤ n.6) × (n.6 ≤ 2)))))

in_range_prop : (n : Counts) → IsProp (InRange n)
in_range_prop n = hlevel le_prop

abbrev counts_of : Config → Counts
counts_of c = (c.vl, c.svl, c.slice, c.budget, c.threads, c.cores, c.kernel)

abbrev ranges_of : (c : Config) → InRange (counts_of c)
ranges_of c = (c.slice_in_range, (c.budget_in_range, (c.threads_in_range, (c.cores_in_range, c.kernel_in_range))))

same_counts : (a b : Config) → counts_of a ≡ counts_of b → a ≡ b
same_counts a b e =
    let pairs : ◌≡◌ {A = (n : Counts) × InRange n} (counts_of a, ranges_of a) (counts_of b, ranges_of b) =
    Σ_prop_path in_range_prop e in
    λ i. record {
      vl = (pairs i).0.0;
      svl = (pairs i).0.1;
      slice = (pairs i).0.2;
      budget = (pairs i).0.3;
      threads = (pairs i).0.4;
      cores = (pairs i).0.5;
      kernel = (pairs i).0.6;
      slice_in_range = (pairs i).1.0;
      budget_in_range = (pairs i).1.1.0;
      threads_in_range = (pairs i).1.1.1.0;
      cores_in_range = (pairs i).1.1.1.1.0;
      kernel_in_range = (pairs i).1.1.1.1.1;
    }

pub same_numbers : (a b : Config) → numbers_of a ≡ numbers_of b → a ≡ b
same_numbers a b e =
    let vl : a.vl ≡ b.vl = same_length a.vl b.vl (ap (λ (n : Numbers). n.vl) e) in
    let svl : a.svl ≡ b.svl = same_length a.svl b.svl (ap (λ (n : Numbers). n.svl) e) in
    same_counts a b (λ i. (vl i, svl i, (e i).slice, (e i).budget, (e i).threads, (e i).cores, (e i).kernel))
