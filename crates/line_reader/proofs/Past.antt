-- Past a line, and past the lines of a kind.
use Rattle.std.proofs.Common.{◌≡◌, ℕ, Bool, true, false, List, [], ◌∷◌, length, Option, Some, None, Result, Ok, Err, refl, sym, ap, ◌∙◌, arith}
use Rattle.std.proofs.Common.{◌≢◌}
use Rattle.line_reader.specs.Lines.{lines_of, with_first}
use Rattle.line_reader.specs.Reading.{Left, Fault, first_of, next_line, past_first, past_line, past_all, onto_said, first_said, fault_at, nothing}
use Rattle.line_reader.proofs.Cuts.{no_lines}

no_text : (text : List ℕ) → length text ≡ 0 → lines_of text ≡ []
no_text [] e = no_lines
no_text (b ∷ bs) e = absurd (omega arith)

-- the first line of what is left is the next
pub first_is : (line rest : List ℕ) → (length line ≡ 0 → length rest ≡ 0) → line ≡ first_of (with_first line (lines_of rest))
first_is [] rest whole = sym (ap first_of (no_text rest (whole refl)))
first_is (b ∷ bs) rest whole = refl

-- past no line
pub past_none : (number place : ℕ) (line rest : List ℕ) → length line ≡ 0 → length rest ≡ 0
    → record { line = number; place = place; lines = with_first line (lines_of rest) }
    ≡ past_line (record { line = number; place = place; lines = with_first line (lines_of rest) })
unfolding past_line
past_none number place [] rest e none =
    let left : List (List ℕ) → Left = λ ls. record { line = number; place = place; lines = ls } in
    ap left (no_text rest none) ∙ sym (ap (past_first number place) (no_text rest none))
past_none number place (b ∷ bs) rest e none = absurd (omega arith)

all_first : (is : List ℕ → Bool) (line place : ℕ) (lines : List (List ℕ)) → is (first_of lines) ≡ true
    → past_all is (record { line = line; place = place; lines = lines }) ≡ past_all is (past_first line place lines)
unfolding past_all
all_first is line place [] e = refl
all_first is line place (text ∷ lines) e = rw e refl

-- one line of the kind more
pub all-more : (is : List ℕ → Bool) (left : Left) → is (next_line left) ≡ true → past_all is left ≡ past_all is (past_line left)
unfolding past_line
all-more is left e = all_first is left.line left.place left.lines e

all_last : (is : List ℕ → Bool) (line place : ℕ) (lines : List (List ℕ)) → is (first_of lines) ≡ false
    → past_all is (record { line = line; place = place; lines = lines }) ≡ record { line = line; place = place; lines = lines }
unfolding past_all
all_last is line place [] e = refl
all_last is line place (text ∷ lines) e = rw e refl

-- the next line is of another kind
pub all-end : (is : List ℕ → Bool) (left : Left) → is (next_line left) ≡ false → past_all is left ≡ left
all-end is left e = all_last is left.line left.place left.lines e

-- one line more
first_more : {A : Type 0} (says : List ℕ → Option A) (line place : ℕ) (lines : List (List ℕ)) (a : A) → length (first_of lines) ≢ 0
    → says (first_of lines) ≡ Some a → first_said says lines ≡ a ∷ first_said says (past_first line place lines).lines
first_more says line place [] a some e = absurd (some refl)
first_more says line place (text ∷ lines) a some e = ap (λ o. onto_said o (first_said says lines)) e

pub said-more : {A : Type 0} (says : List ℕ → Option A) (left : Left) (a : A) → length (next_line left) ≢ 0
    → says (next_line left) ≡ Some a → first_said says left.lines ≡ a ∷ first_said says (past_line left).lines
unfolding past_line
said-more says left a some e = first_more says left.line left.place left.lines a some e

-- the next line says nothing
pub said-end : {A : Type 0} (says : List ℕ → Option A) (lines : List (List ℕ)) → says (first_of lines) ≡ None → first_said says lines ≡ []
said-end says [] e = refl
said-end says (text ∷ lines) e = ap (λ o. onto_said o (first_said says lines)) e

-- ---- the end of the lines

pub ends : {K : Type 0} (none_is kind : K) (number place : ℕ) (line rest : List ℕ) → length line ≡ 0 → length rest ≡ 0
    → nothing none_is kind (record { line = number; place = place; lines = with_first line (lines_of rest) })
    ≡ Ok (tt, record { line = number; place = place; lines = with_first line (lines_of rest) })
ends {K} none_is kind number place [] rest e none =
    let left : List (List ℕ) → Left = λ ls. record { line = number; place = place; lines = ls } in
    ap (λ ls. nothing none_is kind (left ls)) (no_text rest none)
    ∙ ap (λ ls. let read : Result (Unit {0} × Left) (Fault K) = Ok (tt, left ls) in read) (sym (no_text rest none))
ends none_is kind number place (b ∷ bs) rest e none = absurd (omega arith)

pub goes_on : {K : Type 0} (none_is kind : K) (number place : ℕ) (line rest : List ℕ) → length line ≢ 0
    → nothing none_is kind (record { line = number; place = place; lines = with_first line (lines_of rest) })
    ≡ Err (fault_at none_is kind (record { line = number; place = place; lines = with_first line (lines_of rest) }))
goes_on none_is kind number place [] rest some = absurd (some refl)
goes_on none_is kind number place (b ∷ bs) rest some = refl
