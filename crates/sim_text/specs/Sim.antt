-- What is written of a world after the events of a plan. Source: this project's own.
use Rattle.std.specs.Prelude.{ℕ, ◌∷◌, [], List}
use Rattle.std.specs.List.{concat}
use Rattle.sm_types.specs.declared.shared_words.Entry.{Entry}
use Rattle.world_core.specs.declared.event.Applied.{Applied}
use Rattle.sim_text.specs.History.{history_text}
use Rattle.sim_text.specs.Skips.{skips_text}

-- the events that were not enabled, then the report, then the history
unfoldable pub sim_text : List ℕ → List Applied → List ℕ → List Entry → List ℕ
sim_text lines answers report history =
    concat (skips_text lines answers ∷ report ∷ history_text history ∷ [])
