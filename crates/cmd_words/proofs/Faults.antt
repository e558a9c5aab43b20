-- What is wrong at the places of an option and of its value, and with the words as a whole.
use Rattle.std.proofs.Common.{◌≡◌, ℕ, ◌+◌, ◌-◌, ◌%◌, ◌<◌, ◌≤◌, true, false, ◌==◌, List, [], length, Option, Some, None}
use Rattle.std.proofs.Common.{refl, ◌∙◌, ap, arith}
use Rattle.std.specs.Prelude.{slice_get, is_some, option_and_then, option_map}
use Rattle.std.specs.List.{find, range_with_len}
use Rattle.std.proofs.lemmas.Bool.Decides.{nat_tests}
use Rattle.std.proofs.lemmas.Bool.{le-leb}
use Rattle.std.proofs.lemmas.Option.{slice_get_past}
use Rattle.cmd_words.specs.Forms.{Form, options_from}
use Rattle.cmd_words.specs.Options.{setting_in}
use Rattle.cmd_words.specs.Words.{Fault, form_asked, is_option_place, operand_fault, option_fault, value_fault, rest_fault, fault_at}
use Rattle.cmd_words.specs.Words.{place_fault, usage_fault}
use Rattle.cmd_words.specs.declared.command.UsageKind.{UsageKind}
use Rattle.cmd_words.specs.declared.form.Operand.{Operand}
use Rattle.sm_types.proofs.Places.{find-none, find-first}

-- ---- the first fault

is_some-none : {A : Type 0} (o : Option A) → o ≡ None → is_some o ≡ false
is_some-none o e = rw e refl

is_some-some : {A : Type 0} (o : Option A) (x : A) → o ≡ Some x → is_some o ≡ true
is_some-some o x e = rw e refl

-- the first place with a fault, which is at most that past the last word
pub usage_at : (words : List (List ℕ)) (place : ℕ) (kind : UsageKind) → place ≤ length words → fault_at words place ≡ Some kind
    → ((q : ℕ) → q < place → fault_at words q ≡ None) → usage_fault words ≡ Some (record { place = place; kind = kind })
unfolding usage_fault
usage_at words place kind l here before =
    let found : find (λ q. is_some (fault_at words q)) (range_with_len 0 (length words + 1)) ≡ Some place =
    find-first (λ q. is_some (fault_at words q)) (length words + 1) place (omega arith) (is_some-some (fault_at words place) kind here)
    (λ q low. is_some-none (fault_at words q) (before q low)) in
    ap (option_and_then (place_fault words)) found
    ∙ ap (option_map (λ (k : UsageKind). let f : Fault = record { place = place; kind = k } in f)) here

-- no place has a fault
pub usage_none : (words : List (List ℕ)) → ((q : ℕ) → q < length words + 1 → fault_at words q ≡ None) → usage_fault words ≡ None
unfolding usage_fault
usage_none words sound =
    ap (option_and_then (place_fault words))
    (find-none (λ q. is_some (fault_at words q)) (length words + 1) (λ q l. is_some-none (fault_at words q) (sound q l)))

-- ---- the faults of the words after a command

not_first : (p : ℕ) → 1 ≤ p → (p == 0) ≡ false
not_first p l = grind (arith, nat_tests)

rest_at : (words : List (List ℕ)) (form : Form) (p : ℕ) → form_asked words ≡ Some form → 1 ≤ p
    → fault_at words p ≡ rest_fault form words p (slice_get form.operands (p - 1))
unfolding fault_at
rest_at words form p asked l = rw (not_first p l, asked) refl

-- past the operands
past_at : (words : List (List ℕ)) (form : Form) (p : ℕ) → form_asked words ≡ Some form → options_from form ≤ p
    → fault_at words p ≡ rest_fault form words p None
past_at words form p asked l =
    rest_at words form p asked (omega arith) ∙ ap (rest_fault form words p) (slice_get_past form.operands (p - 1) (omega arith))

-- at an operand
pub fault_at-operand : (words : List (List ℕ)) (form : Form) (k : ℕ) (operand : Operand) → form_asked words ≡ Some form
    → slice_get form.operands k ≡ Some operand → fault_at words (k + 1) ≡ operand_fault operand (slice_get words (k + 1))
fault_at-operand words form k operand asked at =
    let before : k + 1 - 1 ≡ k = omega arith in
    rest_at words form (k + 1) asked (omega arith) ∙ ap (λ i. rest_fault form words (k + 1) (slice_get form.operands i)) before
    ∙ ap (rest_fault form words (k + 1)) at

even_here : (n : ℕ) → n % 2 ≡ 0 → (n % 2 == 0) ≡ true
even_here n even = grind (arith, nat_tests)

odd_here : (n : ℕ) → n % 2 ≡ 1 → (n % 2 == 0) ≡ false
odd_here n odd = grind (arith, nat_tests)

odd_next : (m p : ℕ) → m ≤ p → (p - m) % 2 ≡ 0 → (p + 1 - m) % 2 ≡ 1
odd_next m p l even = omega arith

pub at_option : (form : Form) (p : ℕ) → options_from form ≤ p → (p - options_from form) % 2 ≡ 0 → is_option_place form p ≡ true
at_option form p l even = rw (le-leb (options_from form) p l, even_here (p - options_from form) even) refl

pub at_value : (form : Form) (p : ℕ) → options_from form ≤ p → (p - options_from form) % 2 ≡ 0 → is_option_place form (p + 1) ≡ false
at_value form p l even =
    rw (le-leb (options_from form) (p + 1) (omega arith), odd_here (p + 1 - options_from form) (odd_next (options_from form) p l even))
    refl

pub fault_at-option : (words : List (List ℕ)) (form : Form) (p : ℕ) → form_asked words ≡ Some form → options_from form ≤ p
    → (p - options_from form) % 2 ≡ 0 → fault_at words p ≡ option_fault form words p (slice_get words p)
fault_at-option words form p asked l even = past_at words form p asked l ∙ rw (at_option form p l even) refl

pub fault_at-value : (words : List (List ℕ)) (form : Form) (p : ℕ) → form_asked words ≡ Some form → options_from form ≤ p
    → (p - options_from form) % 2 ≡ 0
    → fault_at words (p + 1) ≡ value_fault (option_and_then (setting_in form.options) (slice_get words p)) (slice_get words (p + 1))
fault_at-value words form p asked l even =
    let before : p + 1 - 1 ≡ p = omega arith in
    past_at words form (p + 1) asked (omega arith) ∙ rw (at_value form p l even, before) refl
