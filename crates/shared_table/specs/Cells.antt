-- The words of a table: one row of 544 cells, the shared words and after them the pending signals.
use Rattle.std.specs.Prelude.{ℕ, ◌+◌, cond, List, ◌++◌}
use Rattle.sm_types.specs.declared.shared_op.SharedOp.{SharedOp}
use Rattle.sm_types.specs.declared.shared_words.Words.{Words}
use Rattle.shared_region.specs.WordRule.{is_on_signals}

-- the cells that hold these words
abbrev pub cells_of : Words → List ℕ
cells_of words = words.shared ++ words.pending

-- the cell of the word on which an operation is made: a shared word at its place, the pending signals of
-- thread t at 512 + t
abbrev pub cell_of : SharedOp → ℕ
cell_of op = cond (is_on_signals op.kind) (512 + op.place) op.place
