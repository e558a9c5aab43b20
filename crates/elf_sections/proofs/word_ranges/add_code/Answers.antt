use Rattle.std.proofs.Common.{ℕ, ◌≡◌, ◌*◌, ◌<◌, ◌≤◌, None, min, sym, ◌∙◌, arith, add-one}
use Rattle.std.specs.Prelude.{◌&&◌, ◌||◌, nat_lt, nat_le}
use Rattle.std.proofs.lemmas.Result.{on_ok_weaker}
use Rattle.elf_sections.specs.MappingSymbols.{is_code_at}
use Rattle.elf_sections.specs.WordRanges.{is_in_ranges}
use Rattle.elf_sections.proofs.WordRanges.{no_symbol, code_from-next, code_between, code_behind, words_more, words_all, passed_more}
use Rattle.elf_sections.proofs.word_ranges.add_code.Goals as goal

pub loop-symbol-preserved : goal.loop-symbol-preserved
loop-symbol-preserved c =
    let k : ℕ = c.loop-symbol.symbol-index in
    let next : ℕ = c.div_ceil-next.result in
    let new : (n : ℕ) → is_in_ranges c.push_code.new.ranges.items n
    ≡ (is_in_ranges c.loop-symbol.ranges.items n || (c.loop-symbol.code && nat_le c.loop-symbol.start n
    && nat_lt n (min next c.args.words.end))) =
    λ n. rw c.min.ensures at (c.in_ok-push_code.ensures.words n) in
    let says : (n : ℕ) → c.loop-symbol.start ≤ n → n < next → is_code_at c.args.own.now c.args.number (4 * n) ≡ c.loop-symbol.code =
    λ n from to.
    code_between c.args.number k c.loop-symbol.start n c.args.own.now no_symbol c.requires.section c.requires.order c.loop-symbol-test.true
    c.loop-symbol.invariant.passed from (omega (arith, c.div_ceil-next.ensures)) ∙ sym c.loop-symbol.invariant.code in
    record {
      words =
          λ n. rw c.max-start.ensures (words_more (is_in_ranges c.args.ranges.now.items n) (is_in_ranges c.loop-symbol.ranges.items n)
          (is_in_ranges c.push_code.new.ranges.items n) c.loop-symbol.code (is_code_at c.args.own.now c.args.number (4 * n))
          c.args.words.start c.args.words.end c.loop-symbol.start next n (c.loop-symbol.invariant.words n) (new n)
          c.loop-symbol.invariant.from
          (says n));
      low = c.in_ok-push_code.ensures.low;
      from = omega (arith, c.max-start.ensures);
      passed =
          rw c.max-start.ensures (passed_more c.args.own.now k c.loop-symbol.start next no_symbol c.loop-symbol-test.true
          c.loop-symbol.invariant.passed (omega (arith, c.div_ceil-next.ensures)));
      code = c.is_code-code.ensures ∙ rw add-one (sym (code_from-next None c.args.own.now k no_symbol c.loop-symbol-test.true));
    }

pub returns-clause-words : goal.returns-clause-words
returns-clause-words c = on_ok_weaker c.push_code-2.result (λ new n.
    words_all (is_in_ranges c.args.ranges.now.items n) (is_in_ranges c.loop-symbol.ranges.items n)
    (is_in_ranges c.push_code-2.new.ranges.items n)
    c.loop-symbol.code (is_code_at c.args.own.now c.args.number (4 * n))
    c.args.words.start c.args.words.end c.loop-symbol.start n (c.loop-symbol.invariant.words n) (new n) c.loop-symbol.invariant.from
    (λ from. code_behind c.args.number c.loop-symbol.symbol-index c.loop-symbol.start n c.args.own.now c.requires.section c.requires.order
    c.loop-symbol-test.false c.loop-symbol.auto.symbol-index-end c.loop-symbol.invariant.passed from ∙ sym c.loop-symbol.invariant.code))
    c.push_code-2.ensures.words
