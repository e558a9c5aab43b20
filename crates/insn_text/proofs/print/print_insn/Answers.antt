use Rattle.std.proofs.Common.{◌≡◌, ℕ, Option, Some, None, ap, ◌∙◌}
use Rattle.insn_text.specs.Texts.{text_of}
use Rattle.insn_text.proofs.print.print_insn.Goals as goal

pub unreachable-requires : goal.unreachable-requires
unreachable-requires c =
    let (word, means) = c.requires in let none_is : ◌≡◌ {A = Option ℕ} None (Some word) = (c.in-None.ensures word).1 means in cc

pub returns-clause-text : goal.returns-clause-text
returns-clause-text c = λ word means.
    let some_is : ◌≡◌ {A = Option ℕ} (Some c.in-Some.word) (Some word) = (c.in-Some.ensures word).1 means in
    let same : c.in-Some.word ≡ word = cc in
    c.print_word.ensures.text ∙ ap text_of same
