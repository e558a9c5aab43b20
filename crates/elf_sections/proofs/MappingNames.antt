-- What the name of a mapping symbol says, by its first three bytes.
use Rattle.std.proofs.Common.{◌≡◌, ℕ, ◌+◌, Bool, true, false, List, [], ◌∷◌, ◌&&◌, ◌||◌, ◌==◌, Option, Some, None, drop, get_or, refl, sym}
use Rattle.std.proofs.Common.{ap, ◌∙◌, cond, arith}
use Rattle.std.proofs.lemmas.List.{get_or-drop}
use Rattle.std.proofs.lemmas.Bool.{eqb-true}
use Rattle.sm_types.specs.Objects.{dollar, dot, code_letter, data_letter, name_says, letter_says, letter_means, is_suffix}
use Rattle.sm_types.specs.declared.object.Content.{Content}
use Rattle.sm_types.specs.declared.object.Content.TheVariants as content
use Rattle.elf_headers.specs.Header.{number_at}
use Rattle.elf_sections.specs.MappingSymbols.{until_zero, name_in}
use Rattle.elf_sections.specs.FirstBytes.{is_mapping_name}

abbrev ends_or_dot : ℕ → Bool
ends_or_dot c = (c == 0) || (c == dot)

-- what the letter and the byte after it say
abbrev says_by : ℕ → ℕ → Option Content
says_by b c = cond (ends_or_dot c) (letter_means b) None

suffix : (cs : List ℕ) → is_suffix (until_zero cs) ≡ ends_or_dot (get_or cs 0 0)
suffix [] = refl
suffix (c ∷ cs) = elim (c == 0) as (λ t. is_suffix (cond t [] (c ∷ until_zero cs)) ≡ (t || (c == dot))) [
  | true ↦ refl
  | false ↦ refl
]

none_both : (t : Bool) → None ≡ cond t None (let none : Option Content = None in none)
none_both true = refl
none_both false = refl

letter : (cs : List ℕ) → letter_says (until_zero cs) ≡ says_by (get_or cs 0 0) (get_or cs 1 0)
letter [] = refl
letter (b ∷ cs) = elim (b == 0) as (λ t. (b == 0) ≡ t → letter_says (cond t [] (b ∷ until_zero cs)) ≡ says_by b (get_or cs 0 0)) [
  | true ↦ λ e. none_both (ends_or_dot (get_or cs 0 0)) ∙ sym (ap (λ n. says_by n (get_or cs 0 0)) (eqb-true b 0 e))
  | false ↦ λ e. ap (λ t. cond t (letter_means b) None) (suffix cs)
] refl

first : (cs : List ℕ) → name_says (until_zero cs) ≡ cond (get_or cs 0 0 == dollar) (says_by (get_or cs 1 0) (get_or cs 2 0)) None
first [] = refl
first (a ∷ cs) =
    elim (a == 0) as (λ t. (a == 0) ≡ t → name_says (cond t [] (a ∷ until_zero cs))
    ≡ cond (a == dollar) (says_by (get_or cs 0 0) (get_or cs 1 0)) None) [
      | true ↦ λ e. sym (ap (λ n. cond (n == dollar) (says_by (get_or cs 0 0) (get_or cs 1 0)) None) (eqb-true a 0 e))
      | false ↦ λ e. ap (λ o. cond (a == dollar) o None) (letter cs)
    ] refl

by_tests : (a x d z : Bool) → cond a (cond z (cond x (Some content.Code) (cond d (Some content.Data) None)) None) None
    ≡ cond ((a && x) && z) (Some content.Code) (cond ((a && d) && z) (Some content.Data) None)
by_tests false x d z = refl
by_tests true true d true = refl
by_tests true true true false = refl
by_tests true true false false = refl
by_tests true false true true = refl
by_tests true false true false = refl
by_tests true false false true = refl
by_tests true false false false = refl

byte : (file : List ℕ) (at k : ℕ) → get_or (drop at file) k 0 ≡ number_at file (at + k) 1
unfolding number_at
byte file at k =
    let here : at + k ≡ at + k + 0 = omega arith in
    let same : get_or (drop at file) k 0 ≡ get_or (drop (at + k) file) 0 0 =
    get_or-drop at file k 0 ∙ ap (λ n. get_or file n 0) here ∙ sym (get_or-drop (at + k) file 0 0) in
    omega (arith, same)

front_byte : (file : List ℕ) (at : ℕ) → get_or (drop at file) 0 0 ≡ number_at file at 1
front_byte file at = let here : at + 0 ≡ at = omega arith in byte file at 0 ∙ ap (λ p. number_at file p 1) here

pub name_says_at : (file : List ℕ) (at : ℕ)
    → name_says (name_in file at) ≡ cond (is_mapping_name file at code_letter) (Some content.Code)
    (cond (is_mapping_name file at data_letter) (Some content.Data) None)
unfolding is_mapping_name
name_says_at file at =
    first (drop at file)
    ∙ by_tests (get_or (drop at file) 0 0 == dollar) (get_or (drop at file) 1 0 == code_letter) (get_or (drop at file) 1 0 == data_letter)
    (ends_or_dot (get_or (drop at file) 2 0))
    ∙ rw (front_byte file at, byte file at 1, byte file at 2) refl
