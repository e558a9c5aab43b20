use Rattle.std.proofs.Common.{◌≡◌, ◌+◌, length}
use Rattle.std.specs.Prelude.{is_some}
use Rattle.line_reader.specs.Reading.{first_said, past_all}
use Rattle.report_reader.specs.Events.{setting_line}
use Rattle.report_reader.specs.Report.{with_settings}
use Rattle.line_reader.specs.Told.{left_of}
use Rattle.report_reader.proofs.report.read_words.Given as goal

abbrev pub invariant-loop-setting : goal.invariant-loop-setting
invariant-loop-setting l = record {
  values : with_settings l.words (first_said (setting_line l.name l.bound) (left_of l.lines).lines)
      ≡ with_settings l.initial.words (first_said (setting_line l.name l.bound) (left_of l.initial.lines).lines);
  past : past_all (λ text. is_some (setting_line l.name l.bound text)) (left_of l.lines)
      ≡ past_all (λ text. is_some (setting_line l.name l.bound text)) (left_of l.initial.lines);
}

abbrev pub decreases-loop-setting : goal.decreases-loop-setting
decreases-loop-setting l = length l.lines.line.now + length l.lines.rest.now
