-- What is written of the history of the operations on the shared words. Source: this project's own.
use Rattle.std.specs.Prelude.{ℕ, ◌∷◌, [], List, decimal, codes, length}
use Rattle.std.specs.List.{concat, flat_map}
use Rattle.sm_types.specs.declared.shared_words.Entry.{Entry}
use Rattle.text_lines.specs.Lines.{number_line}
use Rattle.text_lines.specs.Words.{event_words}

-- the line of an entry: its thread, and the operation with its answer
unfoldable pub entry_line : Entry → List ℕ
entry_line entry =
    concat (codes "h " ∷ decimal entry.thread ∷ codes " " ∷ event_words entry.event ∷ codes "\n" ∷ [])

-- the number of the entries, and each of them, the oldest first
unfoldable pub history_text : List Entry → List ℕ
history_text history =
    concat (number_line (codes "history") (length history) ∷ flat_map entry_line history ∷ [])
