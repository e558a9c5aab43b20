use Rattle.std.proofs.Common.{sym, ◌∙◌, ap}
use Rattle.std.specs.Prelude.{option_map}
use Rattle.line_reader.specs.Fields.{words_left, ended}
use Rattle.line_reader.proofs.Cuts.{has_word}
use Rattle.line_reader.proofs.fields.Fields.end.Goals as goal

pub returns-in-Some : goal.returns-in-Some
returns-in-Some g c =
    sym (ap (λ o. option_map (λ said. said.0) (ended c.args.value (words_left (option_map (λ text. text.now) o)))) c.in-Some.is
    ∙ has_word c.args.value c.in-Some.field-0.now)
