use Rattle.std.proofs.Common.{◌≡◌, drop}
use Rattle.report_reader.specs.Forms.{are_fields}
use Rattle.line_reader.specs.Told.{words_ahead}
use Rattle.report_reader.proofs.forms.are_fields.Given as goal

abbrev pub invariant-loop-field : goal.invariant-loop-field
invariant-loop-field l = are_fields (drop l.field-index l.fields) (words_ahead l.words) ≡ are_fields l.fields (words_ahead l.initial.words)
