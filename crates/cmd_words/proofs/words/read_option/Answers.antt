use Rattle.std.proofs.Common.{map, Some, None, refl, sym}
use Rattle.std.specs.String.{string_bytes}
use Rattle.cmd_words.specs.Given.{form_said}
use Rattle.cmd_words.specs.declared.command.UsageKind.TheVariants.{Missing}
use Rattle.cmd_words.proofs.Reading.{setting_fault, value_usage, read_more}
use Rattle.cmd_words.proofs.words.read_option.Goals as goal

pub returns-in-Err-clause-err : goal.returns-in-Err-clause-err
returns-in-Err-clause-err c =
    rw c.usage.ensures (setting_fault (map string_bytes c.args.words.now) (form_said c.args.form) c.args.place c.args.given.now
    c.args.word.now c.requires.read c.requires.stands c.in-Err.kind c.in-Err.ensures.err)

pub returns-in_default-clause-err : goal.returns-in_default-clause-err
returns-in_default-clause-err c =
    rw c.usage-in_default.ensures (value_usage (map string_bytes c.args.words.now) (form_said c.args.form) c.args.place c.args.given.now
    c.args.word.now c.requires.read c.requires.stands c.in-Ok.setting Missing None c.in-Ok.ensures.ok.0 c.in-Ok.ensures.ok.1
    c.in_default.ensures refl)

pub returns-in-Ok-read_value-clause-ok : goal.returns-in-Ok-read_value-clause-ok
returns-in-Ok-read_value-clause-ok c =
    read_more (map string_bytes c.args.words.now) (form_said c.args.form) c.args.place c.args.given.now c.args.word.now c.requires.read
    c.requires.stands c.in-Ok.setting c.in-Some.value.now c.in-Ok-read_value.number c.with.result
    c.in-Ok.ensures.ok.0 c.in-Ok.ensures.ok.1 (sym c.in-Some.ensures) c.in-Ok-read_value.ensures.ok.0 c.in-Ok-read_value.ensures.ok.1
    c.in-Ok-read_value.ensures.ok.2 c.with.ensures.set c.with.ensures.others

pub returns-in-Err-read_value-clause-err : goal.returns-in-Err-read_value-clause-err
returns-in-Err-read_value-clause-err c =
    rw c.usage-in-Err-read_value.ensures (value_usage (map string_bytes c.args.words.now) (form_said c.args.form) c.args.place
    c.args.given.now c.args.word.now c.requires.read c.requires.stands c.in-Ok.setting c.in-Err-read_value.kind (Some c.in-Some.value.now)
    c.in-Ok.ensures.ok.0 c.in-Ok.ensures.ok.1 c.in-Some.ensures c.in-Err-read_value.ensures.err)
