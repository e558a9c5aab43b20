use Rattle.std.proofs.Common.{◌≡◌, ◌^◌, max, get_or, sym, ap, ◌∙◌, arith}
use Rattle.elf_headers.specs.Below.{answers_below}
use Rattle.elf_sections.specs.Code.{code_word}
use Rattle.elf_headers.proofs.Below.{answers_below-zero}
use Rattle.elf_sections.proofs.Listing.{range_code, listed_to, listed_all, passed_one, no_range}
use Rattle.elf_sections.proofs.code.list_code.Goals as goal

pub loop-range-init : goal.loop-range-init
loop-range-init c = record {
  code = c.new-code.ensures.items ∙ sym (answers_below-zero (code_word c.args.file.now));
  low = omega arith;
  passed = λ j d l. absurd (omega arith);
}

pub list_words-requires-clause-words : goal.list_words-requires-clause-words
list_words-requires-clause-words c =
    λ n from to. range_code c.args.file.now c.args.ranges.now c.loop-range.range-index n no_range c.requires.words c.loop-range-test.true
    (omega (arith, c.max.ensures)) to

pub list_words-requires-clause-before : goal.list_words-requires-clause-before
list_words-requires-clause-before c =
    listed_to c.args.file.now c.args.ranges.now c.loop-range.code.items c.loop-range.range-index c.loop-range.next no_range c.requires.words
    c.requires.order c.loop-range-test.true c.loop-range.invariant.passed c.loop-range.invariant.code
    ∙ ap (answers_below (code_word c.args.file.now)) (sym c.max.ensures)

pub loop-range-preserved : goal.loop-range-preserved
loop-range-preserved c =
    let range = c.requires.low c.loop-range.range-index no_range c.loop-range-test.true in
    let end : max c.max.result (get_or c.args.ranges.now c.loop-range.range-index no_range).end ≡ c.max-next.result =
    omega (arith, range.0, c.max.ensures, c.max-next.ensures) in
    record {
      code = c.in_ok-list_words.ensures ∙ ap (answers_below (code_word c.args.file.now)) end;
      low = omega (arith, range.1, c.max-next.ensures);
      passed =
          rw c.max-next.ensures (passed_one c.args.ranges.now c.loop-range.range-index c.loop-range.next no_range c.loop-range-test.true
          c.loop-range.invariant.passed);
    }

pub returns : goal.returns
returns c =
    listed_all c.args.file.now c.args.ranges.now c.loop-range.code.items c.loop-range.range-index c.loop-range.next (2 ^ 45)
    c.requires.words
    c.loop-range-test.false c.loop-range.invariant.passed c.loop-range.invariant.low c.loop-range.invariant.code
