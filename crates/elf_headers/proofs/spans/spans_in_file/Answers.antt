use Rattle.std.proofs.Common.{◌≡◌, ◌∙◌, sym, ap, arith, List, [], ◌∷◌, ◌++◌}
use Rattle.elf_headers.specs.declared.spans.Span.{Span}
use Rattle.elf_headers.specs.Header.{program_header_count}
use Rattle.elf_headers.specs.Spans.{span_at, spans_of}
use Rattle.elf_headers.proofs.Below.{answers_below-zero, answers_below-none, answers_below-some}
use Rattle.elf_headers.proofs.spans.spans_in_file.Goals as goal
use Rattle.elf_headers.proofs.spans.spans_in_file.Goals.{in-Some+in_ok-push-in-Some, in-None}

pub loop-header-init : goal.loop-header-init
loop-header-init c = c.new-spans.ensures.items ∙ sym (answers_below-zero _)

pub loop-header-preserved : goal.loop-header-preserved
loop-header-preserved c = elim c.match-span_of.branch [
  | in-Some+in_ok-push-in-Some w ↦
      ap (λ v. v.items) w.spans-is ∙ w.in_ok-push-in-Some.ensures.items
      ∙ ap (λ (l : List Span). l ++ w.in-Some.span ∷ []) c.loop-header.invariant
      ∙ sym (answers_below-some (span_at c.args.file.now) c.loop-header.header w.in-Some.span (sym c.span_of.ensures ∙ w.in-Some.is))
  | in-None w ↦ ap (λ v. v.items) w.spans-is ∙ c.loop-header.invariant
      ∙ sym (answers_below-none (span_at c.args.file.now) c.loop-header.header (sym c.span_of.ensures ∙ w.in-None.is))
]

pub returns : goal.returns
unfolding spans_of
returns c = let all : c.loop-header.header ≡ program_header_count c.args.file.now = omega arith in rw (← all) c.loop-header.invariant
