-- The line of an operation by the operation's number: the code's own.
use Rattle.std.specs.Prelude.{ℕ, ◌≡◌, ◌≢◌, List, Option, Some, None, slice_get}
use Rattle.insn_forms.specs.declared.line.Line.{Line}

-- a line of the list whose operation has the number
pub record IsListed {O : Type 0} (number_of : O → ℕ) (lines : List (Line O)) (number : ℕ) (line : Line O)
    : Type 0 where
  pub place : ℕ
  pub listed : slice_get lines place ≡ Some line
  pub same : number_of line.operation ≡ number

-- a line of the list whose operation has the number, or none where there is none
abbrev pub IsLineOf : {O : Type 0} → (O → ℕ) → List (Line O) → ℕ → Option (Line O) → Type 0
IsLineOf {O = O} number_of lines number None =
    (place : ℕ) (line : Line O) → slice_get lines place ≡ Some line → number_of line.operation ≢ number
IsLineOf number_of lines number (Some line) = IsListed number_of lines number line
