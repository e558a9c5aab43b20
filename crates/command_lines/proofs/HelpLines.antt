-- What the text of help says of the options and of the statuses.
use Rattle.std.proofs.Common.{◌≡◌, ℕ, ◌==◌, ◌||◌, Bool, true, false, List, [], ◌∷◌, refl, sym, arith}
use Rattle.std.proofs.lemmas.Bool.Decides.{nat_tests}
use Rattle.std.specs.Fmt.{digits}
use Rattle.cmd_words.specs.Options.{takes}
use Rattle.cmd_words.specs.declared.setting.Setting.{Setting}
use Rattle.cmd_words.specs.declared.setting.Setting.TheVariants.{Vl, Svl, Slice, Budget, Threads, Cores}
use Rattle.command_lines.specs.Texts.{has_number, help_text, numbers_taken, option_line, HasFront, HasPart, status_line}
use Rattle.command_lines.specs.declared.status.Status.{Status}
use Rattle.command_lines.specs.declared.status.Status.TheVariants.{Done}

-- ---- a part of a text, wherever it stands

-- the text begins with the part
begins : List ℕ → List ℕ → Bool
begins [] text = true
begins (p ∷ part) [] = false
begins (p ∷ part) (t ∷ text) = elim (p == t) [ true ↦ begins part text | false ↦ false ]

begins_so : (part text : List ℕ) → begins part text ≡ true → HasFront text part
unfolding begins
begins_so [] text e = (text, refl)
begins_so (p ∷ part) [] e = cc
begins_so (p ∷ part) (t ∷ text) e =
    elim (p == t) as (λ b. (p == t) ≡ b → elim b [ true ↦ begins part text | false ↦ false ] ≡ true → HasFront (t ∷ text) (p ∷ part)) [
      | true ↦ λ is h.
          let rest = begins_so part text h in
          let same : p ≡ t = grind (arith, nat_tests) in
          (rest.0, (λ i. sym same i ∷ rest.1 i))
      | false ↦ λ is h. cc
    ] refl e

-- the part stands somewhere in the text
stands_in : List ℕ → List ℕ → Bool
stands_in part [] = false
stands_in part (t ∷ text) = elim (begins part (t ∷ text)) [ true ↦ true | false ↦ stands_in part text ]

stands_so : (part text : List ℕ) → stands_in part text ≡ true → HasPart text part
unfolding stands_in
stands_so part [] e = cc
stands_so part (t ∷ text) e =
    elim (begins part (t ∷ text)) as (λ b. begins part (t ∷ text) ≡ b → elim b [ true ↦ true | false ↦ stands_in part text ] ≡ true
    → HasPart (t ∷ text) part) [
      | true ↦ λ is h. let front = begins_so part (t ∷ text) is in ([], front.0, front.1)
      | false ↦ λ is h. let later = stands_so part text h in (t ∷ later.0, later.1, (λ i. t ∷ later.2 i))
    ] refl e

pub has_line : (setting : Setting) → HasPart help_text (option_line setting)
unfolding help_text digits stands_in begins
has_line Vl = stands_so (option_line Vl) help_text refl
has_line Svl = stands_so (option_line Svl) help_text refl
has_line Slice = stands_so (option_line Slice) help_text refl
has_line Budget = stands_so (option_line Budget) help_text refl
has_line Threads = stands_so (option_line Threads) help_text refl
has_line Cores = stands_so (option_line Cores) help_text refl

-- one of five, from the left or from the right
any_of_five : (a b c d e : Bool) → (a || (b || (c || (d || (e || false))))) ≡ ((((a || b) || c) || d) || e)
any_of_five true b c d e = refl
any_of_five false true c d e = refl
any_of_five false false true d e = refl
any_of_five false false false true e = refl
any_of_five false false false false true = refl
any_of_five false false false false false = refl

pub has_numbers : (setting : Setting) (n : ℕ) → has_number (numbers_taken setting) n ≡ takes setting n
has_numbers Vl n = any_of_five (n == 128) (n == 256) (n == 512) (n == 1024) (n == 2048)
has_numbers Svl n = any_of_five (n == 128) (n == 256) (n == 512) (n == 1024) (n == 2048)
has_numbers Slice n = refl
has_numbers Budget n = refl
has_numbers Threads n = refl
has_numbers Cores n = refl

pub has_status : (status : Status) → HasPart help_text (status_line status)
unfolding help_text digits stands_in begins
has_status Done = stands_so (status_line Done) help_text refl
has_status status = stands_so (status_line status) help_text refl
