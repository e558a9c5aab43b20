use Rattle.std.proofs.Common.{◌≡◌, ◌<◌, ℕ, Some}
use Rattle.std.specs.Prelude.{◌≢◌, slice_get}
use Rattle.insn_forms.specs.declared.line.Line.{Line}
use Rattle.a64_encode.proofs.word.line_of.Given as goal

abbrev pub invariant-loop-line : goal.invariant-loop-line
invariant-loop-line g l =
    (place : ℕ) (line : Line g.row.O.Denot) → place < l.line-index → slice_get l.lines place ≡ Some line
    → g.O.TableOperation.number line.operation ≢ l.number
