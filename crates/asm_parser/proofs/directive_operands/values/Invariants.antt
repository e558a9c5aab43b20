use Rattle.std.proofs.Common.{◌≡◌, ◌≤◌, ◌-◌, length, true, map}
use Rattle.asm_parser.specs.Lines.{values_from}
use Rattle.asm_parser.specs.Told.{said_from, before}
use Rattle.asm_parser.proofs.directive_operands.values.Given as goal

abbrev pub invariant-loop-values : goal.invariant-loop-values
invariant-loop-values g l = record {
  so_far : before (map g.T.Listed.seen l.values.items) (said_from (values_from (g.T.Listed.value_in l.line) true) l.text l.from)
      ≡ said_from (values_from (g.T.Listed.value_in l.line) true) l.text l.fn.offset;
  within : l.from ≤ length l.text;
}

abbrev pub decreases-loop-values : goal.decreases-loop-values
decreases-loop-values g l = length l.text - l.from
