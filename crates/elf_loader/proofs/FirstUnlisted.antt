-- The first of some code words that means no instruction.
use Rattle.std.proofs.Common.{◌≡◌, ℕ, suc, ◌+◌, ◌<◌, List, [], ◌∷◌, length, get_or, drop, Some, None, refl, ap, ◌∙◌, add-one, drop-cons}
use Rattle.std.specs.Option.{option_or}
use Rattle.elf_headers.specs.declared.fault.LoadFault.{LoadFault}
use Rattle.elf_loader.specs.Loading.{unlisted, words_fault}

fault_cons : (entry : ℕ × ℕ) (rest : List (ℕ × ℕ)) → words_fault (entry ∷ rest) ≡ option_or (unlisted entry) (words_fault rest)
unfolding words_fault
fault_cons entry rest = refl

fault_at : (code : List (ℕ × ℕ)) (i : ℕ) (d : ℕ × ℕ) → i < length code
    → words_fault (drop i code) ≡ option_or (unlisted (get_or code i d)) (words_fault (drop (i + 1) code))
fault_at code i d l = rw (add-one, drop-cons code i d l) (fault_cons (get_or code i d) (drop (suc i) code))

pub fault_here : (code : List (ℕ × ℕ)) (i : ℕ) (d : ℕ × ℕ) (fault : LoadFault) → i < length code
    → words_fault code ≡ words_fault (drop i code) → unlisted (get_or code i d) ≡ Some fault → words_fault code ≡ Some fault
fault_here code i d fault l before here = before ∙ fault_at code i d l ∙ ap (λ o. option_or o (words_fault (drop (i + 1) code))) here

pub fault_further : (code : List (ℕ × ℕ)) (i : ℕ) (d : ℕ × ℕ) → i < length code → words_fault code ≡ words_fault (drop i code)
    → unlisted (get_or code i d) ≡ None → words_fault code ≡ words_fault (drop (i + 1) code)
fault_further code i d l before here = before ∙ fault_at code i d l ∙ ap (λ o. option_or o (words_fault (drop (i + 1) code))) here

past_all : (code : List (ℕ × ℕ)) → drop (length code) code ≡ []
past_all [] = refl
past_all (entry ∷ code) = past_all code

no_words : words_fault [] ≡ None
unfolding words_fault
no_words = refl

pub fault_none : (code : List (ℕ × ℕ)) (i : ℕ) → i ≡ length code → words_fault code ≡ words_fault (drop i code) → words_fault code ≡ None
fault_none code i e before = before ∙ ap (λ k. words_fault (drop k code)) e ∙ ap words_fault (past_all code) ∙ no_words
