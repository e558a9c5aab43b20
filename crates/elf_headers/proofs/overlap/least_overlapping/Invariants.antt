use Rattle.std.proofs.Common.{ℕ, ◌<◌, ◌≤◌, length, get_or}
use Rattle.std.specs.Prelude.{◌≢◌}
use Rattle.elf_headers.specs.declared.spans.Span.{Span}
use Rattle.elf_headers.proofs.overlap.least_overlapping.Given as goal

abbrev pub invariant-loop-i : goal.invariant-loop-i
invariant-loop-i l = record {
  top : (q : ℕ) (d : Span) → q < l.i → (get_or l.spans q d).end ≤ l.top;
  within : l.least ≤ l.count;
  clear : (p q : ℕ) (d : Span) → p < l.i → q < length l.spans → p ≢ q → (get_or l.spans q d).address < (get_or l.spans p d).end
      → (get_or l.spans p d).address < (get_or l.spans q d).end → l.least ≤ (get_or l.spans p d).header;
}
