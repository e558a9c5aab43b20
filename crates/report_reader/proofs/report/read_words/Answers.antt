use Rattle.std.proofs.Common.{◌≡◌, ℕ, List, length, Some, None, Result, Ok, sym, ap, ◌∙◌}
use Rattle.std.specs.Prelude.{is_some, slice_set}
use Rattle.line_reader.specs.Reading.{Left, next_line, first_said, past_all, past_line}
use Rattle.report_reader.specs.Reading.{Fault}
use Rattle.report_reader.specs.Events.{setting_line}
use Rattle.report_reader.specs.Report.{with_settings, word_lines}
use Rattle.report_reader.specs.declared.events.Setting.{Setting}
use Rattle.line_reader.specs.Told.{left_of}
use Rattle.line_reader.proofs.Past.{first_is, all-more, all-end, said-more, said-end}
use Rattle.report_reader.proofs.SomeLines.{some_setting}
use Rattle.report_reader.proofs.report.read_words.Goals as goal

pub loop-setting-smaller : goal.loop-setting-smaller
loop-setting-smaller c =
    let s = c.loop-setting.lines in
    let bound = length c.args.words.now in
    c.pass.ensures.fewer (some_setting c.args.name.now bound s.line.now c.in-Some.setting
    (c.in-Some.ensures.says
    ∙ ap (setting_line c.args.name.now bound) (c.line.ensures ∙ sym (first_is s.line.now s.rest.now s.whole))))

-- a line of a word more
read_more : (name : List ℕ) (bound : ℕ) (words : List ℕ) (left after : Left) (setting : Setting) (text : List ℕ)
    → after ≡ past_line left → text ≡ next_line left → Some setting ≡ setting_line name bound text
    → (with_settings (slice_set words setting.place setting.value) (first_said (setting_line name bound) after.lines)
    ≡ with_settings words (first_said (setting_line name bound) left.lines))
    × (past_all (λ text. is_some (setting_line name bound text)) after ≡ past_all (λ text. is_some (setting_line name bound text)) left)
read_more name bound words left after setting text past first says =
    let here : setting_line name bound (next_line left) ≡ Some setting = ap (setting_line name bound) (sym first) ∙ sym says in
    let some = some_setting name bound (next_line left) setting (sym here) in (
      ap (λ (l : Left). with_settings (slice_set words setting.place setting.value) (first_said (setting_line name bound) l.lines)) past
          ∙ sym (ap (with_settings words) (said-more (setting_line name bound) left setting some here)),
      ap (past_all (λ text. is_some (setting_line name bound text))) past
          ∙ sym (all-more (λ text. is_some (setting_line name bound text)) left (ap is_some here)),
    )

pub loop-setting-preserved : goal.loop-setting-preserved
loop-setting-preserved c =
    let more = read_more c.args.name.now (length c.args.words.now) c.loop-setting.words (left_of c.loop-setting.lines)
    (left_of c.pass.new.self)
    c.in-Some.setting c.line.result.now c.pass.ensures.past c.line.ensures c.in-Some.ensures.says in
    record { values = more.0 ∙ c.loop-setting.invariant.values; past = more.1 ∙ c.loop-setting.invariant.past }

-- no further line of a word
read_all : (name : List ℕ) (bound : ℕ) (words : List ℕ) (left : Left) (text : List ℕ) → text ≡ next_line left
    → None ≡ setting_line name bound text
    → (with_settings words (first_said (setting_line name bound) left.lines) ≡ words)
    × (past_all (λ text. is_some (setting_line name bound text)) left ≡ left)
read_all name bound words left text first says =
    let here : setting_line name bound (next_line left) ≡ None = ap (setting_line name bound) (sym first) ∙ sym says in (
      ap (with_settings words) (said-end (setting_line name bound) left.lines here),
      all-end (λ text. is_some (setting_line name bound text)) left (ap is_some here),
    )

both : (words words' : List ℕ) (left left' : Left) → words ≡ words' → left ≡ left'
    → ◌≡◌ {A = Result (List ℕ × Left) Fault} (Ok (words, left)) (Ok (words', left'))
both words words' left left' e f =
    ap (λ ws. let read : Result (List ℕ × Left) Fault = Ok (ws, left) in read) e
    ∙ ap (λ l. let read : Result (List ℕ × Left) Fault = Ok (words', l) in read) f

pub returns : goal.returns
unfolding word_lines
returns c =
    let all = read_all c.args.name.now (length c.args.words.now) c.loop-setting.words (left_of c.loop-setting.lines) c.line.result.now
    c.line.ensures c.in_default.ensures.says in
    both _ _ _ _ (sym c.loop-setting.invariant.values ∙ all.0) (sym c.loop-setting.invariant.past ∙ all.1)
