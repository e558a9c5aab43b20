-- What the words of a line say, one after another.
use Rattle.std.specs.Prelude.{◌≡◌, ℕ, List, [], ◌∷◌, Option, Some, None, option_map, if◌then◌else◌}
use Rattle.std.specs.Str.{bytes_eq}
use Rattle.line_reader.specs.Lines.{words_of, words_in}
use Rattle.line_reader.specs.Numbers.{number_below, hex_number}

-- what the next words say, and the words that are left then; none where they do not say it
abbrev pub Saying : Type 0 → Type 0
Saying A = List (List ℕ) → Option (A × List (List ℕ))

-- what two say, the second of what the first has left
abbrev pub and_then : {A B : Type 0}
    → Option (A × List (List ℕ)) → (A → Saying B) → Option (B × List (List ℕ))
and_then None next = None
and_then (Some said) next = next said.0 said.1

infixl 10 ◌>>=◌
abbrev pub ◌>>=◌ : {A B : Type 0} → Saying A → (A → Saying B) → Saying B
◌>>=◌ first next words = and_then (first words) next

-- the next word says it
abbrev pub field : {A : Type 0} → (List ℕ → Option A) → Saying A
field says [] = None
field says (word ∷ words) = option_map (λ a. (a, words)) (says word)

-- that word
unfoldable pub is_name : List ℕ → List ℕ → Option (Unit {0})
is_name name word = if bytes_eq word name then Some tt else None

-- the next word is that one
unfoldable pub named : List ℕ → Saying (Unit {0})
named name = field (is_name name)

-- the next word is a decimal number below the bound
unfoldable pub number : ℕ → Saying ℕ
number bound = field (number_below bound)

-- the next word is a number of so many hexadecimal digits
unfoldable pub hex : ℕ → Saying ℕ
hex count = field (hex_number count)

-- no further word, and this is said
abbrev pub give : {A : Type 0} → A → Saying A
give a words = Some (a, words)

-- no word is left, and this was said
abbrev pub ended : {A : Type 0} → A → Saying A
ended a [] = Some (a, [])
ended a (word ∷ words) = None

-- what a line says
unfoldable pub said_by : {A : Type 0} → Saying A → List ℕ → Option A
said_by saying line = option_map (λ said. said.0) (saying (words_of line))

-- ---- what the code tells of them

-- the words that are left: of a text, or none
abbrev pub words_left : Option (List ℕ) → List (List ℕ)
words_left None = []
words_left (Some text) = words_in text

-- the result is what is said, and these words are left
abbrev pub Says : {A : Type 0} → Option (A × List (List ℕ)) → Option A → List (List ℕ) → Type 0
Says said None words = said ≡ None
Says said (Some a) words = said ≡ Some (a, words)
