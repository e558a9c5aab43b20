-- The operands of an instruction: which tokens a shape takes, the word that they say, and the first token
-- with which no shape goes on.
-- Source: DDI 0487, C6.2, the assembler symbols of each page; this project's own assembly language for the
-- faults.
use Rattle.std.specs.Prelude.{ℕ, zero, suc, ◌+◌, ◌-◌, Bool, true, false, ◌&&◌, ◌==◌, List, [], ◌∷◌, length}
use Rattle.std.specs.Prelude.{take, drop, slice_get, slice_index, Option, Some, None, bit_and, bit_or, max}
use Rattle.std.specs.Prelude.{if◌then◌else◌, option_and_then, option_map, is_some}
use Rattle.std.specs.List.{list_any}
use Rattle.a64_encode.specs.Either.{instruction_of}
use Rattle.insn_forms.specs.Fields as fields
use Rattle.insn_text.specs.declared.item.Kind.{Kind}
use Rattle.insn_text.specs.declared.item.Kind.TheVariants as kind
use Rattle.insn_text.specs.declared.item.Item.{Item}
use Rattle.insn_text.specs.declared.shapes.TheConstants.{SHAPES, STARTS}
use Rattle.insn_text.specs.declared.item.Shape.{Shape}
use Rattle.insn_text.specs.Texts.{items_of, bits_of}
use Rattle.insn_text.specs.Rules.{meets}
use Rattle.asm_tokens.specs.Tokens.{is_name, is_number_token}
use Rattle.asm_tokens.specs.declared.token.Token.{Token}
use Rattle.asm_operands.specs.declared.fault.FaultKind.{FaultKind}
use Rattle.asm_operands.specs.declared.fault.FaultKind.TheVariants.{BadOperand, BadNumber, Extra}
use Rattle.asm_operands.specs.declared.operands.Target.{Target}
use Rattle.asm_operands.specs.Fields.{field_said}

-- ---- one operand

-- the bits of an operand's field in a word
abbrev pub mask_of : Item → ℕ
mask_of i = fields.mask_of i.field

-- the field at its place in a word
abbrev pub placed : Item → ℕ → ℕ
placed i field = fields.placed i.field field

-- the known bits of a word, and their values
pub record PartialWord : Type 0 where
  pub mask : ℕ
  pub value : ℕ

unfoldable pub with_field : Item → PartialWord → ℕ → PartialWord
with_field i partial field =
    record { mask = bit_or partial.mask (mask_of i); value = bit_or partial.value (placed i field) }

-- a field agrees with the bits that are known of it, and the registers known then meet the operand's rule
unfoldable pub agrees : Item → PartialWord → ℕ → Bool
agrees i partial field =
    (bit_and partial.value (mask_of i) == bit_and (placed i field) partial.mask)
    && meets i.rule (with_field i partial field).value

-- what is known with a field, where it agrees
unfoldable pub partial_with : Item → PartialWord → Option ℕ → Option PartialWord
partial_with i partial None = None
partial_with i partial (Some field) =
    if agrees i partial field then Some (with_field i partial field) else None

-- what is known once a token is read as an operand
unfoldable pub partial_after : Item → PartialWord → Token → Option PartialWord
partial_after i partial token = partial_with i partial (field_said i.kind (bits_of i) token)

-- ---- one shape

abbrev pub taken_on : (PartialWord → Option ℕ) → Option PartialWord → Option ℕ
taken_on on None = None
taken_on on (Some partial) = on partial

-- the word that the tokens say as these operands, all of them
unfoldable pub taken : List Item → PartialWord → List Token → Option ℕ
taken [] partial [] = Some partial.value
taken [] partial (t ∷ ts) = None
taken (i ∷ is) partial [] = None
taken (i ∷ is) partial (t ∷ ts) = taken_on (λ next. taken is next ts) (partial_after i partial t)

abbrev pub count_on : (PartialWord → ℕ) → Option PartialWord → ℕ
count_on on None = zero
count_on on (Some partial) = suc (on partial)

-- how many tokens the operands take, in order, before the first that they do not
unfoldable pub taken_count : List Item → PartialWord → List Token → ℕ
taken_count [] partial ts = zero
taken_count (i ∷ is) partial [] = zero
taken_count (i ∷ is) partial (t ∷ ts) = count_on (λ next. taken_count is next ts) (partial_after i partial t)

-- the bits that a shape fixes
unfoldable pub fixed : Shape → PartialWord
fixed s = record { mask = s.mask; value = s.value }

-- the word that the tokens say in the shape
unfoldable pub word_in : Shape → List Token → Option ℕ
word_in s ts = taken (items_of s) (fixed s) ts

unfoldable pub taken_count_in : Shape → List Token → ℕ
taken_count_in s ts = taken_count (items_of s) (fixed s) ts

-- ---- the shapes of a mnemonic

-- the shapes of the mnemonic of that index
unfoldable pub shapes_of : ℕ → List Shape
shapes_of mnemonic =
    take (slice_index STARTS (mnemonic + 1) - slice_index STARTS mnemonic)
    (drop (slice_index STARTS mnemonic) SHAPES)

abbrev pub first_of_words : Option ℕ → Option ℕ → Option ℕ
first_of_words None second = second
first_of_words (Some word) second = Some word

-- the first word that a shape gives the tokens
unfoldable pub first_word : List Shape → List Token → Option ℕ
first_word [] ts = None
first_word (s ∷ ss) ts = first_of_words (word_in s ts) (first_word ss ts)

-- the tokens that a shape of the list takes, at most
unfoldable pub furthest : List Shape → List Token → ℕ
furthest [] ts = 0
furthest (s ∷ ss) ts = max (taken_count_in s ts) (furthest ss ts)

-- ---- faults

-- the kind is written as a number
unfoldable pub is_number_kind : Kind → Bool
is_number_kind (kind.Punctuation c) = false
is_number_kind (kind.Keyword first count) = false
is_number_kind (kind.Register file last) = false
is_number_kind (kind.Opposite first count) = false
is_number_kind (kind.Sized file few first) = false
is_number_kind kind.SliceRegister = false
is_number_kind other = true

-- the kind is a distance, for which a name may stand
unfoldable pub is_distance : Kind → Bool
is_distance (kind.Distance scale) = true
is_distance other = false

abbrev pub is_number_item : Option Item → Bool
is_number_item None = false
is_number_item (Some i) = is_number_kind i.kind

-- the shape takes so many tokens, and a number is its next operand
unfoldable pub wants_number : ℕ → List Token → Shape → Bool
wants_number count ts s = (taken_count_in s ts == count) && is_number_item (slice_get (items_of s) count)

-- the shape takes so many tokens, and has no more operands
unfoldable pub is_whole : ℕ → List Token → Shape → Bool
is_whole count ts s = (taken_count_in s ts == count) && (length (items_of s) == count)

-- why no shape goes on with the token after so many
unfoldable pub kind_at : List Shape → ℕ → List Token → Option Token → FaultKind
kind_at ss count ts None = BadOperand
kind_at ss count ts (Some t) =
    if is_number_token t && list_any (wants_number count ts) ss then BadNumber
    else if list_any (is_whole count ts) ss then Extra
    else BadOperand

-- the index of a token among those of the operands, or just past the last, and what is wrong there
pub record Fault : Type 0 where
  pub index : ℕ
  pub kind : FaultKind

-- the first token with which no shape goes on
unfoldable pub operand_fault : List Shape → List Token → Fault
operand_fault ss ts =
    record { index = furthest ss ts; kind = kind_at ss (furthest ss ts) ts (slice_get ts (furthest ss ts)) }

-- ---- what a name and its operands say

-- the word, where it means an instruction
unfoldable pub if_meant : ℕ → Option ℕ
if_meant word = if is_some (instruction_of word) then Some word else None

-- the word that the tokens say after the mnemonic of that index
unfoldable pub word_said : ℕ → List Token → Option ℕ
word_said mnemonic ts = option_and_then if_meant (first_word (shapes_of mnemonic) ts)

-- a name may stand for a distance
abbrev pub is_name_token : Option Token → Bool
is_name_token None = false
is_name_token (Some t) = is_name t

-- the operand is a distance, and the token a name
abbrev pub names : Option Token → Item → Option Item
names t i = if is_distance i.kind && is_name_token t then Some i else None

-- the last operand with its token, where that is a name for a distance: a distance is the last
-- operand of each shape that has one
unfoldable pub target_in : List Item → List Token → Option Target
target_in is ts =
    option_map (λ i. record { index = length is - 1; operand = i })
    (option_and_then (names (slice_get ts (length is - 1))) (slice_get is (length is - 1)))

-- the token that names the target, and its operand, in the first shape that takes the tokens
unfoldable pub target_of : List Shape → List Token → Option Target
target_of [] ts = None
target_of (s ∷ ss) ts = if is_some (word_in s ts) then target_in (items_of s) ts else target_of ss ts

-- what the operands after a mnemonic say: the word, and which of their tokens names its target; or the first
-- fault
pub data OperandsSaid : Type 0 where
  Says : ℕ → Option Target → OperandsSaid
  Fails : Fault → OperandsSaid

abbrev pub said_or : OperandsSaid → Option Target → Option ℕ → OperandsSaid
said_or fault target None = fault
said_or fault target (Some word) = Says word target

-- what the tokens say after the mnemonic of that index
unfoldable pub operands_said : ℕ → List Token → OperandsSaid
operands_said mnemonic ts =
    said_or (Fails (operand_fault (shapes_of mnemonic) ts)) (target_of (shapes_of mnemonic) ts)
    (word_said mnemonic ts)
