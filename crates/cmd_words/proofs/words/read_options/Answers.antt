use Rattle.std.proofs.Common.{map}
use Rattle.std.specs.String.{string_bytes}
use Rattle.cmd_words.specs.Given.{form_said}
use Rattle.cmd_words.proofs.Reading.{read_start}
use Rattle.cmd_words.proofs.words.read_options.Goals as goal

pub loop-word-init : goal.loop-word-init
loop-word-init c =
    read_start (map string_bytes c.args.words.now) (form_said c.args.form) c.none-given.result c.requires.asked c.requires.sound
    c.none-given.ensures
