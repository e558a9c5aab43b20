use Rattle.std.proofs.Common.{◌≡◌}
use Rattle.elf_headers.specs.Below.{answers_below}
use Rattle.elf_headers.specs.Spans.{span_at}
use Rattle.elf_headers.proofs.spans.spans_in_file.Given as goal

abbrev pub invariant-loop-header : goal.invariant-loop-header
invariant-loop-header l = l.spans.items ≡ answers_below (span_at l.file) l.header
