use Rattle.std.proofs.Common.{◌≡◌, length, map}
use Rattle.line_reader.specs.Told.{words_ahead}
use Rattle.vector_runner.specs.Told.{field_told}
use Rattle.vector_runner.specs.Words.{fields_in, no_modes}
use Rattle.vector_runner.proofs.Said.{ahead}
use Rattle.vector_runner.proofs.line.read_fields.Given as goal

abbrev pub invariant-words : goal.invariant-words
invariant-words l =
    ahead (map field_told l.fields.items) (fields_in l.vl l.svl l.modes l.least (words_ahead l.words))
    ≡ fields_in l.vl l.svl no_modes 0 (words_ahead l.initial.words)

abbrev pub decreases-words : goal.decreases-words
decreases-words l = length (words_ahead l.words)
