-- What the words of a line say one after another, or what is wrong with the first of them at fault.
use Rattle.std.specs.Prelude.{ℕ, nat_le, List, [], ◌∷◌, Option, Some, None, option_and_then, Result, Ok, Err}
use Rattle.std.specs.Prelude.{if◌then◌else◌}
use Rattle.line_reader.specs.Numbers.{number_below}
use Rattle.line_reader.specs.declared.text_fault.TextKind.{TextKind}
use Rattle.line_reader.specs.declared.text_fault.TextKind.TheVariants.{Unknown, BadNumber, Extra, Missing}

-- what the next words say; or what is wrong with the first of them that does not say it
abbrev pub Phrase : Type 0 → Type 0
Phrase A = List (List ℕ) → Result A TextKind

-- what they say, and the words that are left then
abbrev pub Start : Type 0 → Type 0
Start A = Phrase (A × List (List ℕ))

-- what the first words say, and then those that are left
abbrev pub and_then : {A B : Type 0} → Result (A × List (List ℕ)) TextKind → (A → Phrase B)
    → Result B TextKind
and_then (Err kind) next = Err kind
and_then (Ok said) next = next said.0 said.1

infixl 10 ◌>>=◌
abbrev pub ◌>>=◌ : {A B : Type 0} → Start A → (A → Phrase B) → Phrase B
◌>>=◌ first next words = and_then (first words) next

-- no further word, and this is said
abbrev pub give : {A : Type 0} → A → Start A
give a words = Ok (a, words)

-- what a word says, before others; or what is wrong with it
abbrev pub said_or : {A : Type 0} → TextKind → Option A → Start A
said_or kind None words = Err kind
said_or kind (Some a) words = Ok (a, words)

-- the first word of a line, by which it is known what the line says
unfoldable pub first_word : {A : Type 0} → (List ℕ → Option A) → Start A
first_word says [] = Err Unknown
first_word says (word ∷ words) = said_or Unknown (says word) words

-- a further word; one that does not say it is at fault in that way
unfoldable pub field : {A : Type 0} → TextKind → (List ℕ → Option A) → Start A
field kind says [] = Err Missing
field kind says (word ∷ words) = said_or kind (says word) words

-- a decimal number that is at least so much, and below a bound
unfoldable pub number_of : ℕ → ℕ → List ℕ → Option ℕ
number_of least bound word =
    option_and_then (λ n. if nat_le least n then Some n else None) (number_below bound word)

-- the next word is such a number
abbrev pub number : ℕ → ℕ → Start ℕ
number least bound = field BadNumber (number_of least bound)

-- no word is left
unfoldable pub ended : {A : Type 0} → A → Phrase A
ended a [] = Ok a
ended a (word ∷ words) = Err Extra
