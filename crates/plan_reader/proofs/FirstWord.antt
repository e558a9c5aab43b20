-- The first word of an event that is at fault.
use Rattle.std.proofs.Common.{◌≡◌, ℕ, ◌^◌, Bool, true, false, cond, List, [], ◌∷◌, Some, None, Ok, Err, refl, sym, ◌∙◌}
use Rattle.std.specs.Prelude.{codes, ◌||◌, option_map}
use Rattle.std.specs.Str.{bytes_eq}
use Rattle.line_reader.specs.Phrases.{Phrase, and_then, number_of, number, ended}
use Rattle.plan_reader.specs.Words.{verb_of, event_on, event_in}
use Rattle.line_reader.specs.Places.{Slot, number_slot, word_fault, IsFirst}
use Rattle.plan_reader.specs.Faults.{numbers_after}
use Rattle.sm_types.specs.declared.world_event.WorldEvent.{WorldEvent}
use Rattle.sm_types.specs.declared.world_event.WorldEvent.TheVariants as event
use Rattle.line_reader.specs.declared.text_fault.TextKind.{TextKind}
use Rattle.plan_reader.specs.declared.words.Verb.{Verb}
use Rattle.plan_reader.specs.declared.words.Verb.TheVariants as verb
use Rattle.line_reader.proofs.Readings.{fitting}
use Rattle.line_reader.proofs.Slots.{first_of, field_first, ended_first, grouped, number_is, word_first}

-- the numbers after the core of an event, as the code has it
abbrev further : Verb → List Slot
further verb.Run = number_slot 1 (2 ^ 32) ∷ []
further verb.Next = []
further verb.Fetch = []
further verb.Offer = []

-- the numbers after its word
abbrev numbers : Verb → List Slot
numbers v = number_slot 0 (2 ^ 32) ∷ further v

-- the event of a word, once its word is read
abbrev event_for : Verb → Phrase WorldEvent
event_for v left = and_then (number 0 (2 ^ 32) left) (λ core left. and_then (event_on v core left) ended)

on_first : (v : Verb) (core : ℕ) (words : List (List ℕ)) (k : TextKind) → and_then (event_on v core words) ended ≡ Err k
    → first_of (further v) words ≡ Some k
unfolding event_on
on_first verb.Run core words k e =
    field_first (number_of 1 (2 ^ 32)) (number_slot 1 (2 ^ 32)) [] words (λ turns left. ended (event.Run core turns) left) k
    (number_is 1 (2 ^ 32) fitting) (λ turns left h. ended_first (event.Run core turns) left k h)
    (sym (grouped (number 1 (2 ^ 32) words) (λ turns left. Ok (event.Run core turns, left)) ended) ∙ e)
on_first verb.Next core words k e = ended_first (event.Next core) words k e
on_first verb.Fetch core words k e = ended_first (event.Fetch core) words k e
on_first verb.Offer core words k e = ended_first (event.Offer core) words k e

for_first : (v : Verb) (words : List (List ℕ)) (k : TextKind) → event_for v words ≡ Err k → first_of (numbers v) words ≡ Some k
for_first v words k e =
    field_first (number_of 0 (2 ^ 32)) (number_slot 0 (2 ^ 32)) (further v) words
    (λ core left. and_then (event_on v core left) ended) k (number_is 0 (2 ^ 32) fitting)
    (λ core left h. on_first v core left k h) e

-- the word of an event has the numbers that stand after it
numbers_by : (run next fetch offer : Bool)
    → cond run (Some (number_slot 0 (2 ^ 32) ∷ number_slot 1 (2 ^ 32) ∷ []))
    (cond (next || fetch || offer) (Some (number_slot 0 (2 ^ 32) ∷ [])) None)
    ≡ option_map numbers (cond run (Some verb.Run) (cond next (Some verb.Next)
    (cond fetch (Some verb.Fetch) (cond offer (Some verb.Offer) None))))
numbers_by true next fetch offer = refl
numbers_by false true fetch offer = refl
numbers_by false false true offer = refl
numbers_by false false false true = refl
numbers_by false false false false = refl

numbers_are : (word : List ℕ) → numbers_after word ≡ option_map numbers (verb_of word)
unfolding numbers_after verb_of
numbers_are word =
    numbers_by (bytes_eq word (codes "run")) (bytes_eq word (codes "next")) (bytes_eq word (codes "fetch"))
    (bytes_eq word (codes "offer"))

pub first_fault : (words : List (List ℕ)) (k : TextKind) → event_in words ≡ Err k → IsFirst (word_fault numbers_after words) k
unfolding event_in
first_fault words k e = word_first verb_of event_for numbers numbers_after numbers_are for_first words k e
