-- Histories of the shared words: lists of entries, the oldest first.
use Rattle.std.specs.Prelude.{◌≡◌, ℕ, ◌<◌, ◌==◌, List, [], ◌∷◌, Some, All, length}
use Rattle.std.specs.Prelude.{take, map, filter, slice_get}
use Rattle.sm_types.specs.declared.shared_op.SharedOp.{SharedOp}
use Rattle.sm_types.specs.declared.shared_op.Event.{Event}
use Rattle.sm_types.specs.declared.shared_words.Entry.{Entry}
use Rattle.sm_types.specs.declared.shared_words.Words.{Words}
use Rattle.shared_region.specs.WordRule.{applied, answer_to, zero_words}

-- an operation with its answer
abbrev pub event_of : SharedOp → ℕ → Event
event_of op answer = record { op = op; answer = answer }

-- an event of a thread
abbrev pub entry_of : ℕ → SharedOp → ℕ → Entry
entry_of thread op answer = record { thread = thread; event = event_of op answer }

-- the entries that events of the thread of that number make
abbrev pub entries_of : ℕ → List Event → List Entry
entries_of thread events = map (λ (e : Event). record { thread = thread; event = e }) events

-- the words after some entries, from those before them
unfoldable pub words_after : Words → List Entry → Words
words_after w [] = w
words_after w (e ∷ es) = words_after (applied w e.event.op) es

-- each entry's answer is that of the word rule, on the words that the entries before it leave
abbrev pub AnswersFrom : Words → List Entry → Type 0
AnswersFrom w history =
    (i : ℕ) (e : Entry) → slice_get history i ≡ Some e
    → e.event.answer ≡ answer_to (words_after w (take i history)) e.event.op

-- a legal history begins with words that are all zero
abbrev pub IsLegal : List Entry → Type 0
IsLegal history = AnswersFrom zero_words history

-- the words in which a history ends
abbrev pub ends_in : List Entry → Words
ends_in history = words_after zero_words history

-- the events of a thread in a history
unfoldable pub part_of : ℕ → List Entry → List Event
part_of thread history = map (λ e. e.event) (filter (λ e. e.thread == thread) history)

-- the journals of the threads, by number, are the parts of one legal history that ends in the words, and
-- which has no entry of another thread
pub record AreOneHistory (journals : List (List Event)) (words : Words) : Type 0 where
  pub history : List Entry
  pub legal : IsLegal history
  pub ends : ends_in history ≡ words
  pub parts : (t : ℕ) (journal : List Event)
      → slice_get journals t ≡ Some journal → part_of t history ≡ journal
  pub alone : All (λ e. e.thread < length journals) history
