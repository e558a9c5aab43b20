-- The event that the words of a line say, or what is wrong with the first of them that does not say it.
use Rattle.std.specs.Prelude.{ℕ, ◌^◌, List, codes, Option, Some, None, if◌then◌else◌}
use Rattle.std.specs.Str.{bytes_eq}
use Rattle.line_reader.specs.Phrases.{Phrase, Start, ◌>>=◌, give, first_word, number, ended}
use Rattle.sm_types.specs.declared.world_event.WorldEvent.{WorldEvent}
use Rattle.sm_types.specs.declared.world_event.WorldEvent.TheVariants as event
use Rattle.plan_reader.specs.declared.words.Verb.{Verb}
use Rattle.plan_reader.specs.declared.words.Verb.TheVariants as verb

-- the event of a word
unfoldable pub verb_of : List ℕ → Option Verb
verb_of word =
    if bytes_eq word (codes "run") then Some verb.Run
    else if bytes_eq word (codes "next") then Some verb.Next
    else if bytes_eq word (codes "fetch") then Some verb.Fetch
    else if bytes_eq word (codes "offer") then Some verb.Offer
    else None

-- the event on a core: a run has a further number, which is not 0
unfoldable pub event_on : Verb → ℕ → Start WorldEvent
event_on verb.Run core = do
  k ← number 1 (2 ^ 32)
  give (event.Run core k)
event_on verb.Next core = give (event.Next core)
event_on verb.Fetch core = give (event.Fetch core)
event_on verb.Offer core = give (event.Offer core)

-- the word of an event, its core, and its further number
unfoldable pub event_in : Phrase WorldEvent
event_in = do
  verb ← first_word verb_of
  core ← number 0 (2 ^ 32)
  event ← event_on verb core
  ended event
