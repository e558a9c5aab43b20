-- The mapping symbol that each word is the first for.
use Rattle.std.proofs.Common.{◌≡◌, ℕ, zero, suc, ◌+◌, ◌<◌, List, [], ◌∷◌, length, get_or, drop, Option, Some, None, refl, ap, sym, ◌∙◌}
use Rattle.std.proofs.Common.{arith, add-one, drop-cons}
use Rattle.sm_types.specs.declared.object.Symbol.{Symbol}
use Rattle.sm_types.specs.Objects.{Mapping, mapping_of, mappings_of}
use Rattle.elf_writer.specs.declared.mapping_symbols.TextMapping.{TextMapping}
use Rattle.elf_writer.specs.TextMappings.{said_before}
use Rattle.elf_writer.specs.Slots.{as_mapping_if, kept_at, says_word, slots_say, AreSlots, KeepsMapping, KeepsSymbol}

-- ---- a symbol more

pub mappings_some : (s : Symbol) (rest : List Symbol) (m : Mapping) → mapping_of s ≡ Some m → mappings_of (s ∷ rest) ≡ m ∷ mappings_of rest
unfolding mappings_of
mappings_some s rest m h = rw h refl

pub mappings_none : (s : Symbol) (rest : List Symbol) → mapping_of s ≡ None → mappings_of (s ∷ rest) ≡ mappings_of rest
unfolding mappings_of
mappings_none s rest h = rw h refl

pub slots_skip : (slots : List (Option TextMapping)) (s : Symbol) → mapping_of s ≡ None → KeepsSymbol slots slots s
slots_skip slots s o rest all h n k = ap (kept_at n (as_mapping_if (get_or slots n None))) (sym (mappings_none s rest o)) ∙ h n k

pub slots_keep : (old new : List (Option TextMapping)) (s : Symbol) (m : Mapping) → mapping_of s ≡ Some m → length new ≡ length old
    → KeepsMapping old new m → KeepsSymbol old new s
slots_keep old new s m o e keeps rest all h n k =
    let below : n < length old = omega arith in
    ap (λ x. kept_at n x (mappings_of rest)) (keeps n below)
    ∙ sym (ap (kept_at n (as_mapping_if (get_or old n None))) (mappings_some s rest m o)) ∙ h n below

pub slots_more : (old new : List (Option TextMapping)) (symbols : List Symbol) (i : ℕ) (s : Symbol) (all : List Mapping)
    → i < length symbols
    → s ≡ get_or symbols i s → KeepsSymbol old new s
    → AreSlots old (mappings_of (drop i symbols)) all → AreSlots new (mappings_of (drop (i + 1) symbols)) all
slots_more old new symbols i s all l e keeps h =
    let rest : drop i symbols ≡ s ∷ drop (suc i) symbols = drop-cons symbols i s l ∙ ap (λ x. x ∷ drop (suc i) symbols) (sym e) in
    rw add-one (keeps (drop (suc i) symbols) all
    (λ n k. ap (λ ss. kept_at n (as_mapping_if (get_or old n None)) (mappings_of ss)) (sym rest) ∙ h n k))

past_all : (symbols : List Symbol) → drop (length symbols) symbols ≡ []
past_all [] = refl
past_all (s ∷ symbols) = past_all symbols

no_mappings : mappings_of [] ≡ []
unfolding mappings_of
no_mappings = refl

pub slots_all : (slots : List (Option TextMapping)) (symbols : List Symbol) (i : ℕ) (all : List Mapping) → i ≡ length symbols
    → AreSlots slots (mappings_of (drop i symbols)) all → AreSlots slots [] all
slots_all slots symbols i all e h n k =
    sym (ap (kept_at n (as_mapping_if (get_or slots n None)))
    (ap (λ j. mappings_of (drop j symbols)) e ∙ ap mappings_of (past_all symbols) ∙ no_mappings)) ∙ h n k

-- ---- what the mapping symbols say of a word

pub slots_say-at : (slots : List (Option TextMapping)) (n : ℕ)
    → slots_say slots n ≡ says_word (said_before (slots_say slots) n) (get_or slots n None)
unfolding slots_say
slots_say-at slots zero = refl
slots_say-at slots (suc n) = refl
