-- The line for which a checkpoint is refused.
use Rattle.std.specs.Prelude.{ℕ, [], ◌∷◌, List, decimal, codes}
use Rattle.std.specs.List.{concat}
use Rattle.command_lines.specs.declared.checkpoint_line.CheckpointFault.{CheckpointFault}
use Rattle.command_lines.specs.declared.checkpoint_line.CheckpointFault.TheVariants.{TooLong, Field, Count}

-- the line that is written for a fault of a checkpoint
unfoldable pub checkpoint_line : CheckpointFault → List ℕ
checkpoint_line TooLong = codes "bad checkpoint: toolong\n"
checkpoint_line (Field offset) = concat (codes "bad checkpoint: field " ∷ decimal offset ∷ codes "\n" ∷ [])
checkpoint_line (Count count) = concat (codes "bad checkpoint: count " ∷ decimal count ∷ codes "\n" ∷ [])
