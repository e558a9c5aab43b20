use Rattle.std.proofs.Common.{map, sym, ◌∙◌, ap}
use Rattle.std.specs.String.{string_bytes}
use Rattle.cmd_words.specs.Words.{command_fault}
use Rattle.cmd_words.specs.declared.command.UsageKind.TheVariants.{Missing, Unknown}
use Rattle.cmd_words.proofs.Reading.{first_fault, unknown_word}
use Rattle.cmd_words.proofs.words.read_words.Goals as goal

pub returns-in_default-clause-fault : goal.returns-in_default-clause-fault
returns-in_default-clause-fault c =
    rw c.usage.ensures (first_fault (map string_bytes c.args.words.now) Missing (ap command_fault (sym c.in_default.ensures)))

pub returns-in_default-verb_of-clause-fault : goal.returns-in_default-verb_of-clause-fault
returns-in_default-verb_of-clause-fault c =
    rw c.usage-in_default-verb_of.ensures (first_fault (map string_bytes c.args.words.now) Unknown
    (ap command_fault (sym c.in-Some.ensures) ∙ unknown_word c.in-Some.word.now (sym c.in_default-verb_of.ensures)))
