use Rattle.std.proofs.Common.{◌≡◌, ◌*◌, sym, ap, ◌∙◌, arith}
use Rattle.std.specs.Prelude.{◌||◌}
use Rattle.elf_headers.specs.Below.{any_below}
use Rattle.elf_sections.specs.Sections.{section_fault, section_count}
use Rattle.elf_sections.specs.Code.{is_code_in, is_code_word}
use Rattle.elf_sections.specs.WordRanges.{is_in_ranges}
use Rattle.elf_headers.proofs.Below.{first_below-each_none, any_below-zero, any_below-next}
use Rattle.elf_sections.proofs.WordRanges.{in_ranges-none}
use Rattle.elf_sections.proofs.word_ranges.gather_ranges.Goals as goal

pub loop-i-init : goal.loop-i-init
loop-i-init c = record {
  words =
      λ n. ap (λ l. is_in_ranges l n) c.new-ranges.ensures.items ∙ in_ranges-none n
      ∙ sym (any_below-zero (is_code_in c.args.file.now (4 * n)));
  low = λ k d l. absurd (omega (arith, c.new-ranges.ensures.len));
}

pub add_section-requires-clause-checked : goal.add_section-requires-clause-checked
add_section-requires-clause-checked c =
    first_below-each_none (section_fault c.args.file.now) (section_count c.args.file.now) c.requires.checked c.loop-i.i
    (omega (arith, c.count_sections-i-end.ensures))

pub loop-i-preserved : goal.loop-i-preserved
loop-i-preserved c = record {
  words =
      λ n. c.in_ok-add_section.ensures.words n ∙ ap (λ b. b || is_code_in c.args.file.now (4 * n) c.loop-i.i) (c.loop-i.invariant.words n)
      ∙ sym (any_below-next (is_code_in c.args.file.now (4 * n)) c.loop-i.i);
  low = c.in_ok-add_section.ensures.low;
}

pub returns-clause-words : goal.returns-clause-words
unfolding is_code_word
returns-clause-words c =
    let all : c.loop-i.i ≡ section_count c.args.file.now = omega (arith, c.count_sections-i-end.ensures) in
    λ n. c.loop-i.invariant.words n ∙ ap (any_below (is_code_in c.args.file.now (4 * n))) all
