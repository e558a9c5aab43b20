-- The first word at fault is the one at the first place at which something is wrong.
use Rattle.std.proofs.Common.{◌≡◌, ℕ, zero, suc, ◌^◌, ◌<◌, ◌≤◌, ◌⊎◌, inl, inr, true, false, cond, nat_lt, List, [], ◌∷◌}
use Rattle.std.proofs.Common.{Option, Some, None, Result, Ok, Err, refl, sym, ap, ◌∙◌, arith}
use Rattle.std.specs.Prelude.{nat_le, ◌&&◌, slice_get, is_some, option_and_then, option_map}
use Rattle.std.proofs.lemmas.Bool.Decides.{nat_tests}
use Rattle.std.proofs.lemmas.Option.{same_Some}
use Rattle.plain_lemmas.proofs.Options.{same_Err, none_not_some}
use Rattle.line_reader.specs.Numbers.{is_decimal, decimal_value, decimal_number, number_below, if_fits, if_below}
use Rattle.line_reader.specs.Phrases.{Phrase, and_then, said_or, first_word, field, number_of, ended}
use Rattle.line_reader.specs.Places.{Slot, is_number, first_fault, slot_fault, rest_fault, word_fault, IsFirst}
use Rattle.line_reader.specs.declared.text_fault.TextKind.{TextKind}
use Rattle.line_reader.specs.declared.text_fault.TextKind.TheVariants as kind

-- ---- the first of some places

-- something is wrong at the first place
at_first : (wrong : ℕ → Option TextKind) (k : TextKind) → wrong 0 ≡ Some k → IsFirst wrong k
at_first wrong k here = record { place = 0; here = here; before = λ other l. absurd (omega arith) }

none_before : (wrong : ℕ → Option TextKind) (place : ℕ) → wrong 0 ≡ None
    → ((other : ℕ) → other < place → wrong (suc other) ≡ None) → (other : ℕ) → other < suc place → wrong other ≡ None
none_before wrong place first before zero l = first
none_before wrong place first before (suc other) l = before other (omega arith)

-- nothing is wrong there
past_one : (wrong : ℕ → Option TextKind) (k : TextKind) → wrong 0 ≡ None → IsFirst (λ place. wrong (suc place)) k → IsFirst wrong k
past_one wrong k first it =
    record { place = suc it.place; here = it.here; before = none_before wrong it.place first it.before }

order : (a b : ℕ) → (a < b) ⊎ (b < a) ⊎ (a ≡ b)
order a b = grind arith

-- there is one first place
pub one_first : (wrong : ℕ → Option TextKind) (j k : TextKind) → IsFirst wrong j → IsFirst wrong k → j ≡ k
one_first wrong j k a b =
    elim (order a.place b.place) [
      | inl l ↦ absurd (none_not_some (wrong a.place) j (b.before a.place l) a.here)
      | inr (inl l) ↦ absurd (none_not_some (wrong b.place) k (a.before b.place l) b.here)
      | inr (inr e) ↦ same_Some j k (sym a.here ∙ ap wrong e ∙ b.here)
    ]

-- ---- the words after the first

-- the first of them that is at fault, where there are to be these
abbrev pub first_of : List Slot → List (List ℕ) → Option TextKind
first_of [] [] = None
first_of [] (word ∷ words) = Some kind.Extra
first_of (slot ∷ slots) [] = Some kind.Missing
first_of (slot ∷ slots) (word ∷ words) = cond (slot.fits word) (first_of slots words) (Some slot.otherwise)

-- what is wrong at a place of them
abbrev at_place : List Slot → List (List ℕ) → ℕ → Option TextKind
at_place slots words place = slot_fault (slice_get slots place) (slice_get words place)

first_stands : (slots : List Slot) (words : List (List ℕ)) (k : TextKind) → first_of slots words ≡ Some k
    → IsFirst (at_place slots words) k
first_stands [] [] k e = cc
first_stands [] (word ∷ words) k e = at_first (at_place [] (word ∷ words)) k e
first_stands (slot ∷ slots) [] k e = at_first (at_place (slot ∷ slots) []) k e
first_stands (slot ∷ slots) (word ∷ words) k e =
    elim (slot.fits word) as (λ b. slot.fits word ≡ b → cond b (first_of slots words) (Some slot.otherwise) ≡ Some k
    → IsFirst (at_place (slot ∷ slots) (word ∷ words)) k) [
      | true ↦ λ is h. past_one (at_place (slot ∷ slots) (word ∷ words)) k (ap (λ b. cond b None (Some slot.otherwise)) is)
          (first_stands slots words k h)
      | false ↦ λ is h. at_first (at_place (slot ∷ slots) (word ∷ words)) k (ap (λ b. cond b None (Some slot.otherwise)) is ∙ h)
    ] refl e

-- the next word fits and is read, or is at fault
pub field_first : {A B : Type 0} (says : List ℕ → Option A) (slot : Slot) (slots : List Slot) (words : List (List ℕ))
    (next : A → Phrase B) (k : TextKind) → ((word : List ℕ) → is_some (says word) ≡ slot.fits word)
    → ((a : A) (left : List (List ℕ)) → next a left ≡ Err k → first_of slots left ≡ Some k)
    → and_then (field slot.otherwise says words) next ≡ Err k → first_of (slot ∷ slots) words ≡ Some k
unfolding field
field_first says slot slots [] next k same more e = cc
field_first says slot slots (word ∷ words) next k same more e =
    elim (says word) as (λ o. is_some o ≡ slot.fits word → and_then (said_or slot.otherwise o words) next ≡ Err k
    → first_of (slot ∷ slots) (word ∷ words) ≡ Some k) [
      | None ↦ λ is h. ap (λ b. cond b (first_of slots words) (Some slot.otherwise)) (sym is) ∙ cc
      | Some a ↦ λ is h. ap (λ b. cond b (first_of slots words) (Some slot.otherwise)) (sym is) ∙ more a words h
    ] (same word) e

pub ended_first : {A : Type 0} (a : A) (words : List (List ℕ)) (k : TextKind) → ended a words ≡ Err k → first_of [] words ≡ Some k
unfolding ended
ended_first a [] k h = cc
ended_first a (word ∷ words) k h = cc

-- two readings, the first of which is two
pub grouped : {A B C : Type 0} (first : Result (A × List (List ℕ)) TextKind) (f : A → Phrase (B × List (List ℕ))) (g : B → Phrase C)
    → and_then (and_then first f) g ≡ and_then first (λ a left. and_then (f a left) g)
grouped (Err k) f g = refl
grouped (Ok said) f g = refl

-- ---- a number

in_range : (least bound n : ℕ) → bound ≤ 2 ^ 64 → is_some (option_and_then (λ m. cond (nat_le least m) (Some m) None)
    (option_and_then (if_below bound) (if_fits n))) ≡ (nat_le least n && nat_lt n bound)
in_range least bound n bounded =
    elim (nat_lt n bound) as (λ b. nat_lt n bound ≡ b → is_some (option_and_then (λ m. cond (nat_le least m) (Some m) None)
    (option_and_then (if_below bound) (if_fits n))) ≡ (nat_le least n && b)) [
      | true ↦ λ is. (let fits : nat_lt n (2 ^ 64) ≡ true = grind (arith, nat_tests) in
          rw (fits, is) (elim (nat_le least n) as (λ c. is_some (cond c (Some n) None) ≡ (c && true)) [ true ↦ refl | false ↦ refl ]))
      | false ↦ λ is. elim (nat_lt n (2 ^ 64)) as (λ f. is_some (option_and_then (λ m. cond (nat_le least m) (Some m) None)
          (option_and_then (if_below bound) (cond f (Some n) None))) ≡ (nat_le least n && false)) [
            | true ↦ rw is (elim (nat_le least n) as (λ c. false ≡ (c && false)) [ true ↦ refl | false ↦ refl ])
            | false ↦ elim (nat_le least n) as (λ c. false ≡ (c && false)) [ true ↦ refl | false ↦ refl ]
          ]
    ] refl

pub number_is : (least bound : ℕ) → bound ≤ 2 ^ 64 → (word : List ℕ) → is_some (number_of least bound word) ≡ is_number least bound word
unfolding number_of number_below decimal_number is_number
number_is least bound bounded word =
    elim (is_decimal word) as (λ b. is_some (option_and_then (λ m. cond (nat_le least m) (Some m) None)
    (option_and_then (if_below bound) (cond b (if_fits (decimal_value word)) None)))
    ≡ (b && nat_le least (decimal_value word) && nat_lt (decimal_value word) bound)) [
      | true ↦ in_range least bound (decimal_value word) bounded
      | false ↦ refl
    ]

-- ---- the first word

-- the same is wrong at each place
as_wrong : (f g : ℕ → Option TextKind) (k : TextKind) → ((place : ℕ) → f place ≡ g place) → IsFirst g k → IsFirst f k
as_wrong f g k same it =
    record { place = it.place; here = same it.place ∙ it.here; before = λ other l. same other ∙ it.before other l }

module _ (after : List ℕ → Option (List Slot)) where
  no_words : word_fault after [] 0 ≡ Some kind.Unknown
  unfolding word_fault
  no_words = refl

  unknown : (word : List ℕ) (words : List (List ℕ)) → after word ≡ None → word_fault after (word ∷ words) 0 ≡ Some kind.Unknown
  unfolding word_fault
  unknown word words e = ap first_fault e

  known : (word : List ℕ) (words : List (List ℕ)) (slots : List Slot) → after word ≡ Some slots
      → word_fault after (word ∷ words) 0 ≡ None
  unfolding word_fault
  known word words slots e = ap first_fault e

  behind_it : (word : List ℕ) (words : List (List ℕ)) (slots : List Slot) (place : ℕ) → after word ≡ Some slots
      → word_fault after (word ∷ words) (suc place) ≡ at_place slots words place
  unfolding word_fault
  behind_it word words slots place e = ap (λ o. rest_fault o place (slice_get words place)) e

-- where the first word tells what is said, and so which words are to stand after it
module _ {V A : Type 0} (says : List ℕ → Option V) (rest : V → Phrase A) (slots : V → List Slot)
    (after : List ℕ → Option (List Slot)) (same : (word : List ℕ) → after word ≡ option_map slots (says word))
    (rests : (v : V) (words : List (List ℕ)) (k : TextKind) → rest v words ≡ Err k → first_of (slots v) words ≡ Some k) where
  pub word_first : (words : List (List ℕ)) (k : TextKind) → and_then (first_word says words) rest ≡ Err k
      → IsFirst (word_fault after words) k
  unfolding first_word
  word_first [] k e =
      at_first (word_fault after []) k (no_words after ∙ ap (λ (x : TextKind). Some x) (same_Err {A = A} kind.Unknown k e))
  word_first (word ∷ words) k e =
      elim (says word) as (λ o. says word ≡ o → and_then (said_or kind.Unknown o words) rest ≡ Err k
      → IsFirst (word_fault after (word ∷ words)) k) [
        | None ↦ λ is h. at_first (word_fault after (word ∷ words)) k
            (unknown after word words (same word ∙ ap (option_map slots) is)
            ∙ ap (λ (x : TextKind). Some x) (same_Err {A = A} kind.Unknown k h))
        | Some v ↦ λ is h. (
            let stand : after word ≡ Some (slots v) = same word ∙ ap (option_map slots) is in
            past_one (word_fault after (word ∷ words)) k (known after word words (slots v) stand)
            (as_wrong (λ place. word_fault after (word ∷ words) (suc place)) (at_place (slots v) words) k
            (λ place. behind_it after word words (slots v) place stand)
            (first_stands (slots v) words k (rests v words k h))))
      ] refl e
