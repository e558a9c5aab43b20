use Rattle.std.proofs.Common.{◌≡◌, drop}
use Rattle.line_reader.specs.Tables.{found}
use Rattle.line_reader.proofs.tables.found_in.Given as goal

abbrev pub invariant-loop-row : goal.invariant-loop-row
invariant-loop-row g l =
    found (λ row. row.0.now) (λ row. row.1) (drop l.row-index l.rows) l.word ≡ found (λ row. row.0.now) (λ row. row.1) l.rows l.word
