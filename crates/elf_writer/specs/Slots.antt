-- How the mapping symbols of a text are found: each mapping symbol is kept at the first word that it is for,
-- and what a word's own does not say was said before.
-- Source: ELF for the Arm 64-bit Architecture (AArch64), mapping symbols `$x` and `$d`.
use Rattle.std.specs.Prelude.{◌≡◌, ℕ, zero, suc, ◌+◌, ◌-◌, ◌/◌, ◌<◌, cond, List, [], ◌∷◌, length}
use Rattle.std.specs.Prelude.{get_or, Option, Some, None, ◌==◌, nat_le}
use Rattle.sm_types.specs.declared.object.Content.{Content}
use Rattle.sm_types.specs.declared.object.Content.TheVariants as content
use Rattle.sm_types.specs.declared.object.Symbol.{Symbol}
use Rattle.sm_types.specs.Objects.{text_address, Mapping, mappings_of}
use Rattle.elf_writer.specs.declared.mapping_symbols.TextMapping.{TextMapping}

-- a mapping symbol of the text as one of an object
abbrev pub as_mapping : TextMapping → Mapping
as_mapping m = record { address = m.address; content = m.content }

abbrev pub as_mapping_if : Option TextMapping → Option Mapping
as_mapping_if None = None
as_mapping_if (Some m) = Some (as_mapping m)

-- the first word that begins at an address or past it
abbrev pub word_from : ℕ → ℕ
word_from address = (address - text_address + 3) / 4

-- of one mapping symbol and a later one for the same word, that which says what stands there: the one of
-- the greater address, and of equal ones the later
abbrev pub newer : Option Mapping → Mapping → Mapping
newer None m = m
newer (Some best) m = cond (nat_le best.address m.address) m best

-- of one mapping symbol and later ones, that which says what stands at word number n, among those past the
-- word before
abbrev pub kept_at : ℕ → Option Mapping → List Mapping → Option Mapping
kept_at n best [] = best
kept_at n best (m ∷ ms) = kept_at n (cond (word_from m.address == n) (Some (newer best m)) best) ms

-- each word has the mapping symbol that it is the first for, of all mapping symbols but the rest
abbrev pub AreSlots : List (Option TextMapping) → List Mapping → List Mapping → Type 0
AreSlots slots rest all =
    (n : ℕ) → n < length slots → kept_at n (as_mapping_if (get_or slots n None)) rest ≡ kept_at n None all

-- the mapping symbol is kept at the first word that it is for, unless that has a newer one
abbrev pub KeepsMapping : List (Option TextMapping) → List (Option TextMapping) → Mapping → Type 0
KeepsMapping old new m =
    (n : ℕ) → n < length old → as_mapping_if (get_or new n None)
    ≡ cond (word_from m.address == n) (Some (newer (as_mapping_if (get_or old n None)) m))
    (as_mapping_if (get_or old n None))

-- the symbol's mapping symbol is kept, if it has one: the rest is one symbol less
abbrev pub KeepsSymbol : List (Option TextMapping) → List (Option TextMapping) → Symbol → Type 0
KeepsSymbol old new s =
    (rest : List Symbol) (all : List Mapping) → AreSlots old (mappings_of (s ∷ rest)) all
    → AreSlots new (mappings_of rest) all

-- what a word's own mapping symbol says, else what was said before, else that it is code
abbrev pub says_word : Option Content → Option TextMapping → Content
says_word before (Some m) = m.content
says_word (Some before) None = before
says_word None None = content.Code

-- what mapping symbols, each at the first word that it is for, say of word number n
unfoldable pub slots_say : List (Option TextMapping) → ℕ → Content
slots_say slots zero = says_word None (get_or slots 0 None)
slots_say slots (suc n) = says_word (Some (slots_say slots n)) (get_or slots (suc n) None)
