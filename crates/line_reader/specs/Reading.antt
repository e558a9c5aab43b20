-- Reading a text line by line, up to the first line that does not say what it should. What is wrong with a
-- line is of a kind K, which is the reader's own.
use Rattle.std.specs.Prelude.{ℕ, zero, suc, ◌+◌, Bool, List, [], ◌∷◌, length, Option, Some, None}
use Rattle.std.specs.Prelude.{Result, Ok, Err, if◌then◌else◌}
use Rattle.line_reader.specs.Lines.{is_text}

-- what is left of a text: how many lines and how many bytes stand before it, and its lines
pub record Left : Type 0 where
  pub line : ℕ
  pub place : ℕ
  pub lines : List (List ℕ)

-- a line that does not say what it should, counted from 1, and what is wrong with it
pub record Fault (K : Type 0) : Type 0 where
  pub line : ℕ
  pub kind : K

-- what the next lines say, and what is left after them; or the first of them that does not say it
abbrev pub Reading : Type 0 → Type 0 → Type 0
Reading K A = Left → Result (A × Left) (Fault K)

-- two readings, the second of what the first has left
abbrev pub and_then : {K A B : Type 0}
    → Result (A × Left) (Fault K) → (A → Reading K B) → Result (B × Left) (Fault K)
and_then (Err fault) next = Err fault
and_then (Ok read) next = next read.0 read.1

infixl 10 ◌>>=◌
abbrev pub ◌>>=◌ : {K A B : Type 0} → Reading K A → (A → Reading K B) → Reading K B
◌>>=◌ first next left = and_then (first left) next

-- no further line, and this is read
abbrev pub give : {K A : Type 0} → A → Reading K A
give a left = Ok (a, left)

-- what is left here
abbrev pub here : {K : Type 0} → Reading K Left
here left = Ok (left, left)

-- the first of some lines, which is empty where there is none
abbrev pub first_of : List (List ℕ) → List ℕ
first_of [] = []
first_of (line ∷ lines) = line

-- the next line
abbrev pub next_line : Left → List ℕ
next_line left = first_of left.lines

-- past the first of some lines
abbrev pub past_first : ℕ → ℕ → List (List ℕ) → Left
past_first line place [] = record { line = line; place = place; lines = [] }
past_first line place (text ∷ lines) = record { line = line + 1; place = place + length text; lines = lines }

-- past the next line
unfoldable pub past_line : Left → Left
past_line left = past_first left.line left.place left.lines

-- the fault of the next line, which should be of that kind; a line that is not UTF-8 is no text
unfoldable pub fault_at : {K : Type 0} → K → K → Left → Fault K
fault_at no_text kind left =
    record { line = left.line + 1; kind = if is_text (next_line left) then kind else no_text }

-- the next line, where it says something; it is at fault where it does not
abbrev pub taken : {K A : Type 0} → K → K → Option A → Reading K A
taken no_text kind None left = Err (fault_at no_text kind left)
taken no_text kind (Some a) left = Ok (a, past_line left)

-- the next line, of that kind, says it
abbrev pub line : {K A : Type 0} → K → K → (List ℕ → Option A) → Reading K A
line no_text kind says left = taken no_text kind (says (next_line left)) left

-- something is said, where it holds
abbrev pub said_if : Bool → Option (Unit {0})
said_if holds = if holds then Some tt else None

-- the next line is as it should be; of which kind it should be else goes by the line
abbrev pub line_by : {K : Type 0} → K → (List ℕ → K) → (List ℕ → Bool) → Reading K (Unit {0})
line_by no_text kind is left = taken no_text (kind (next_line left)) (said_if (is (next_line left))) left

-- past the lines of a kind that come first
abbrev pub past_first_all : (List ℕ → Bool) → ℕ → ℕ → List (List ℕ) → Left
past_first_all is line place [] = record { line = line; place = place; lines = [] }
past_first_all is line place (text ∷ lines) =
    if is text then past_first_all is (line + 1) (place + length text) lines
    else record { line = line; place = place; lines = text ∷ lines }

-- past the lines of a kind that come next, however many there are
unfoldable pub past_all : (List ℕ → Bool) → Left → Left
past_all is left = past_first_all is left.line left.place left.lines

-- as many lines of a kind as come next
abbrev pub any_lines : {K : Type 0} → (List ℕ → Bool) → Reading K (Unit {0})
any_lines is left = Ok (tt, past_all is left)

-- one line of a kind, or none
abbrev pub maybe_line : {K : Type 0} → (List ℕ → Bool) → Reading K (Unit {0})
maybe_line is left = Ok (tt, (if is (next_line left) then past_line left else left))

-- what the first of some lines say, up to the first that says nothing
abbrev pub onto_said : {A : Type 0} → Option A → List A → List A
onto_said None others = []
onto_said (Some a) others = a ∷ others

abbrev pub first_said : {A : Type 0} → (List ℕ → Option A) → List (List ℕ) → List A
first_said says [] = []
first_said says (text ∷ lines) = onto_said (says text) (first_said says lines)

-- so many readings, each by its number, of which the first is k
unfoldable pub each : {K A : Type 0} → (ℕ → Reading K A) → ℕ → ℕ → Reading K (List A)
each reads zero k left = Ok ([], left)
each reads (suc n) k left = and_then (reads k left) (λ a. do
  others ← each reads n (k + 1)
  give (a ∷ others))

-- no line is left; a line that is, is at fault
abbrev pub nothing_of : {K : Type 0} → K → K → List (List ℕ) → Reading K (Unit {0})
nothing_of no_text kind [] left = Ok (tt, left)
nothing_of no_text kind (text ∷ lines) left = Err (fault_at no_text kind left)

abbrev pub nothing : {K : Type 0} → K → K → Reading K (Unit {0})
nothing no_text kind left = nothing_of no_text kind left.lines left
