-- What words ask for.
use Rattle.std.proofs.Common.{◌≡◌, ℕ, Bool, true, false, cond, List, Option, Some, None}
use Rattle.std.proofs.lemmas.Option.{same_Some}
use Rattle.std.specs.Prelude.{slice_get, is_none, option_and_then, option_map}
use Rattle.cmd_words.specs.Words.{Request, verb_of, request_for, usage_fault, command_of}
use Rattle.cmd_words.specs.declared.verb.Verb.{Verb}

-- what a request is
abbrev pub IsAskedFor : List (List ℕ) → Request → Type 0
IsAskedFor words request = (verb : Verb) × (request_for words verb ≡ request)

asked_by : (words : List (List ℕ)) (verb : Option Verb) (request : Request) → option_map (request_for words) verb ≡ Some request
    → IsAskedFor words request
asked_by words None request e = cc
asked_by words (Some verb) request e = (verb, same_Some (request_for words verb) request e)

asked_without : (words : List (List ℕ)) (sound : Bool) (verb : Option Verb) (request : Request)
    → cond sound (option_map (request_for words) verb) None ≡ Some request → IsAskedFor words request
asked_without words true verb request e = asked_by words verb request e
asked_without words false verb request e = cc

-- it is that of the words for a command
pub asked_for : (words : List (List ℕ)) (request : Request) → command_of words ≡ Some request → IsAskedFor words request
unfolding command_of
asked_for words request e = asked_without words (is_none (usage_fault words)) (option_and_then verb_of (slice_get words 0)) request e
