use Rattle.std.proofs.Common.{◌≡◌, true, false, cond, Some, ap, sym, ◌∙◌, drop, get_or, ◌+◌}
use Rattle.std.specs.Str.{bytes_eq}
use Rattle.cmd_words.specs.Options.{word_of, setting_in}
use Rattle.cmd_words.specs.declared.setting.Setting.TheVariants.{Vl}
use Rattle.cmd_words.proofs.Reading.{setting_at, setting_past}
use Rattle.cmd_words.proofs.setting.setting_in.Goals as goal

pub returns-then-eq : goal.returns-then-eq
returns-then-eq c =
    let here = get_or c.args.settings.now c.loop-setting.setting-index Vl in
    let test : bytes_eq c.args.word.now (word_of here) ≡ true =
    ap (bytes_eq c.args.word.now) (sym c.word_of.ensures) ∙ sym c.eq.ensures ∙ c.if-eq.true in
    sym
    (c.loop-setting.invariant ∙ setting_at c.args.settings.now c.args.word.now c.loop-setting.setting-index Vl c.loop-setting-test.true
    ∙ ap (λ b. cond b (Some here) (setting_in (drop (c.loop-setting.setting-index + 1) c.args.settings.now) c.args.word.now)) test)

pub loop-setting-preserved : goal.loop-setting-preserved
loop-setting-preserved c =
    let here = get_or c.args.settings.now c.loop-setting.setting-index Vl in
    let test : bytes_eq c.args.word.now (word_of here) ≡ false =
    ap (bytes_eq c.args.word.now) (sym c.word_of.ensures) ∙ sym c.eq.ensures ∙ c.if-eq.false in
    c.loop-setting.invariant ∙ setting_at c.args.settings.now c.args.word.now c.loop-setting.setting-index Vl c.loop-setting-test.true
    ∙ ap (λ b. cond b (Some here) (setting_in (drop (c.loop-setting.setting-index + 1) c.args.settings.now) c.args.word.now)) test

pub returns : goal.returns
returns c =
    sym (c.loop-setting.invariant ∙ setting_past c.args.settings.now c.args.word.now c.loop-setting.setting-index c.loop-setting-test.false)
