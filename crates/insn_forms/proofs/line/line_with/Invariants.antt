use Rattle.std.proofs.Common.{◌≡◌, drop}
use Rattle.std.specs.List.{find}
use Rattle.insn_forms.specs.Tables.{has_bits}
use Rattle.insn_forms.proofs.line.line_with.Given as goal

abbrev pub invariant-loop-line : goal.invariant-loop-line
invariant-loop-line g l = find (has_bits l.mask l.value) (drop l.line-index l.lines) ≡ find (has_bits l.mask l.value) l.lines
