-- What words ask of a thread of a report: its checkpoint at a count, its replay, and the rest of its run from
-- a checkpoint.
use Rattle.std.specs.Prelude.{ℕ, List, [], ◌∷◌}
use Rattle.cmd_words.specs.Command.{asking}
use Rattle.cmd_words.specs.Options.{default_options}
use Rattle.cmd_words.specs.Words.{CountSaid, NameSaid, Request, ThreadSaid}
use Rattle.cmd_words.specs.declared.verb.Verb.TheVariants.{Ckpt, Replay, Resume}

abbrev pub checkpoint_asked : List ℕ → List ℕ → ℕ → ℕ → Request
checkpoint_asked program report thread count =
    asking Ckpt (NameSaid program ∷ NameSaid report ∷ ThreadSaid thread ∷ CountSaid count ∷ [])
    default_options

abbrev pub replay_asked : List ℕ → List ℕ → ℕ → Request
replay_asked program report thread =
    asking Replay (NameSaid program ∷ NameSaid report ∷ ThreadSaid thread ∷ []) default_options

abbrev pub resume_asked : List ℕ → List ℕ → List ℕ → Request
resume_asked program report checkpoint =
    asking Resume (NameSaid program ∷ NameSaid report ∷ NameSaid checkpoint ∷ []) default_options
