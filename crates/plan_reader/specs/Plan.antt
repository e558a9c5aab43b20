-- The plan of a world: a file with an event on each line that is not empty.
use Rattle.std.specs.Prelude.{◌≡◌, ℕ, ◌^◌, ◌<◌, ◌≤◌, List, [], ◌∷◌, length, map, codes, decimal, Result}
use Rattle.line_reader.specs.Lines.{line_text, words_in}
pub use Rattle.line_reader.specs.File.{Fault}
use Rattle.line_reader.specs.File.{Say, file_lines, file_in}
use Rattle.plan_reader.specs.Words.{event_in}
use Rattle.sm_types.specs.declared.world_event.WorldEvent.{WorldEvent}
use Rattle.sm_types.specs.declared.world_event.WorldEvent.TheVariants.{Run, Next, Fetch, Offer}

-- the words that say an event
abbrev pub words_for : WorldEvent → List (List ℕ)
words_for (Run core k) = codes "run" ∷ decimal core ∷ decimal k ∷ []
words_for (Next core) = codes "next" ∷ decimal core ∷ []
words_for (Fetch core) = codes "fetch" ∷ decimal core ∷ []
words_for (Offer core) = codes "offer" ∷ decimal core ∷ []

-- its numbers are below 2^32, and a run is let make at least one turn
abbrev pub IsInRange : WorldEvent → Type 0
IsInRange (Run core k) = (core < 2 ^ 32) × (1 ≤ k) × (k < 2 ^ 32)
IsInRange (Next core) = core < 2 ^ 32
IsInRange (Fetch core) = core < 2 ^ 32
IsInRange (Offer core) = core < 2 ^ 32

-- a line says an event, with one space between two words, whether or not a line feed ends it
abbrev pub IsLineOf : List ℕ → WorldEvent → Type 0
IsLineOf line event = IsInRange event × (words_in (line_text line) ≡ words_for event)

-- a file is the plan of these events
pub record IsPlanOf (bytes : List ℕ) (events : List WorldEvent) : Type 0 where
  pub fits : length bytes ≤ 67108864
  pub said : Say IsLineOf (file_lines bytes) events

-- the events of the plan that a file is, or its first line at fault
unfoldable pub plan_in : List ℕ → Result (List WorldEvent) Fault
plan_in bytes = file_in event_in bytes

-- the numbers of the lines that are not empty
unfoldable pub event_lines : List ℕ → List ℕ
event_lines bytes = map (λ it. it.number) (file_lines bytes)
