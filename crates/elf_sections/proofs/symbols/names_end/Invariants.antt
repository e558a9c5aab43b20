use Rattle.std.proofs.Common.{◌≤◌}
use Rattle.elf_sections.proofs.Names.{HasNoZeroFrom}
use Rattle.elf_sections.proofs.symbols.names_end.Given as goal

abbrev pub invariant-loop-end : goal.invariant-loop-end
invariant-loop-end l = record {
  within : l.end ≤ l.strings.size;
  none : HasNoZeroFrom l.file l.strings l.end;
}

abbrev pub decreases-loop-end : goal.decreases-loop-end
decreases-loop-end l = l.end
