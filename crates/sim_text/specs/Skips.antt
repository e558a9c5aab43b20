-- What is written of the events of a plan that were not enabled. Source: this project's own.
use Rattle.std.specs.Prelude.{ℕ, ◌∷◌, [], List, decimal, codes, zip}
use Rattle.std.specs.List.{concat, flat_map}
use Rattle.world_core.specs.declared.event.Applied.{Applied}
use Rattle.world_core.specs.declared.event.Applied.TheVariants.{Done, Ran, NotEnabled}
use Rattle.world_core.specs.declared.event.Why.{Why}
use Rattle.world_core.specs.declared.event.Why.TheVariants.{NoCore, NoResident, OneResident, CoreFull}
use Rattle.world_core.specs.declared.event.Why.TheVariants.{QueueEmpty}

-- why an event is not enabled, with its value
unfoldable pub why_words : Why → List ℕ
why_words (NoCore core) = concat (codes "nocore " ∷ decimal core ∷ [])
why_words NoResident = codes "noresident"
why_words OneResident = codes "oneresident"
why_words (CoreFull residents) = concat (codes "corefull " ∷ decimal residents ∷ [])
why_words QueueEmpty = codes "queueempty"

-- an event that a line of the plan says, with this answer: where it was not enabled, that line and why
unfoldable pub skip_line : ℕ → Applied → List ℕ
skip_line line Done = []
skip_line line (Ran run) = []
skip_line line (NotEnabled why) =
    concat (codes "skip " ∷ decimal line ∷ codes " " ∷ why_words why ∷ codes "\n" ∷ [])

-- the events of a plan, of which these are the lines and these the answers, in their order
unfoldable pub skips_text : List ℕ → List Applied → List ℕ
skips_text lines answers = flat_map (λ event. skip_line event.0 event.1) (zip lines answers)
