use Rattle.std.proofs.Common.{ap, ◌∙◌}
use Rattle.std.specs.Prelude.{option_map}
use Rattle.line_reader.specs.Fields.{words_left}
use Rattle.line_reader.proofs.Cuts.{word_found, word_alone}
use Rattle.line_reader.proofs.fields.Fields.next.Goals as goal

pub returns-in-Some : goal.returns-in-Some
returns-in-Some c =
    ap (λ o. words_left (option_map (λ text. text.now) o)) c.in_ok-text.was
    ∙ word_found c.in_ok-text.text.now c.in-Some.at c.in-Some.ensures

pub returns-in-None : goal.returns-in-None
returns-in-None c =
    ap (λ o. words_left (option_map (λ text. text.now) o)) c.in_ok-text.was
    ∙ word_alone c.in_ok-text.text.now c.in-None.ensures
