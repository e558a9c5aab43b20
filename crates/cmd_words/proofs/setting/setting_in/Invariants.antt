use Rattle.std.proofs.Common.{◌≡◌, drop}
use Rattle.cmd_words.specs.Options.{setting_in}
use Rattle.cmd_words.proofs.setting.setting_in.Given as goal

abbrev pub invariant-loop-setting : goal.invariant-loop-setting
invariant-loop-setting l = setting_in l.settings l.word ≡ setting_in (drop l.setting-index l.settings) l.word
