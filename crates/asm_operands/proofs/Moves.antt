-- What `mov` of a number says.
use Rattle.std.proofs.Common.{◌≡◌, ℕ, ◌-◌, ◌^◌, ◌<◌, ◌==◌, Bool, true, false, bit_and, List, [], ◌∷◌, Option, Some, None, cond}
use Rattle.std.proofs.Common.{get_or, drop}
use Rattle.std.proofs.Common.{refl, sym, ap, ap₂, ◌∙◌, codes}
use Rattle.std.specs.Prelude.{bit_or, option_map, option_and_then}
use Rattle.std.proofs.lemmas.Nat.{and_assoc, and_comm, or_comm}
use Rattle.std.proofs.lemmas.Bool.{and_from}
use Rattle.bit_ops.specs.Bits.{width_of}
use Rattle.insn_forms.proofs.Bits.{placed-within, joined_within}
use Rattle.insn_forms.specs.Fields as fields
use Rattle.insn_forms.specs.declared.field.Field.{Field}
use Rattle.a64_table.specs.declared.fields.TheConstants.{NONE, RD, RM}
use Rattle.insn_text.specs.declared.operands.TheConstants.{X as X_OR_ZERO, W as W_OR_ZERO, X_SP, W_SP, HW_IMM16, SHORT_HW_IMM16}
use Rattle.insn_text.specs.declared.operands.TheConstants.{N_IMMR_IMMS, IMMR_IMMS}
use Rattle.insn_text.specs.declared.item.RegisterFile.TheVariants.{X, W}
use Rattle.insn_text.specs.declared.item.Kind.{Kind}
use Rattle.insn_text.specs.declared.item.Kind.TheVariants as kind
use Rattle.insn_text.specs.declared.item.Item.{Item}
use Rattle.insn_text.specs.declared.item.ItemList.TheVariants.{Scalar}
use Rattle.insn_text.specs.declared.item.Rule.TheVariants.{Free}
use Rattle.insn_text.specs.declared.item.Shape.{Shape}
use Rattle.insn_text.specs.Texts.{text_in, bits_of, items_in, items_of}
use Rattle.insn_text.specs.Rules.{meets}
use Rattle.asm_tokens.specs.declared.token.Token.{Token}
use Rattle.asm_tokens.specs.declared.token.Token.TheVariants.{Register, Number, Punctuation}
use Rattle.asm_operands.specs.Fields.{on_punctuation, on_register, on_number, on_keyword, register_field, same_file, inverted_if}
use Rattle.asm_operands.specs.Fields.{halfword_field}
use Rattle.asm_operands.specs.Fields.{mask_field}
use Rattle.asm_operands.specs.Fields.{immediate_of, field_said}
use Rattle.asm_operands.specs.Operands.{PartialWord, mask_of, placed, with_field, agrees, partial_with, partial_after, taken_on, taken}
use Rattle.asm_operands.specs.Operands.{fixed}
use Rattle.asm_operands.specs.Operands.{word_in}
use Rattle.asm_operands.specs.Operands.{shapes_of, first_of_words, first_word}
use Rattle.asm_operands.specs.Moves.{index_of, file_of, move_tokens, movz, movn, orr, halfword_index, mask_index, word_with, moved}
use Rattle.asm_operands.proofs.PrintedTokens.{register-said}
use Rattle.asm_operands.proofs.WordBits.{upper_mask, lower_mask}

-- ---- an operand whose field is not known yet
nothing_and : (v : ℕ) → bit_and v 0 ≡ 0
nothing_and v = and_comm v 0

nothing_or : (v : ℕ) → bit_or v 0 ≡ v
nothing_or v = or_comm v 0

outside : (v mask own : ℕ) → bit_and v mask ≡ v → bit_and mask own ≡ 0 → bit_and v own ≡ 0
outside v mask own within apart =
    ap (λ n. bit_and n own) (sym within) ∙ and_assoc own v mask ∙ ap (bit_and v) apart ∙ nothing_and v

record IsOpen (i : Item) (mask : ℕ) : Type 0 where
  free : i.rule ≡ Free
  parts : bit_and (upper_mask i) (lower_mask i) ≡ 0
  nothing_known : bit_and mask (mask_of i) ≡ 0

IsWithin : PartialWord → Type 0
IsWithin partial = bit_and partial.value partial.mask ≡ partial.value

with_within : (i : Item) (partial : PartialWord) (field : ℕ) → IsOpen i partial.mask → IsWithin partial
    → IsWithin (with_field i partial field)
unfolding IsWithin with_field
with_within i partial field n w =
    joined_within partial.value (placed i field) partial.mask (mask_of i) w (placed-within i.field field n.parts)

opened : (i : Item) (partial : PartialWord) (f : ℕ) → IsOpen i partial.mask → IsWithin partial
    → partial_with i partial (Some f) ≡ Some (with_field i partial f)
unfolding IsWithin partial_with agrees with_field meets
opened i partial f n w =
    let before : bit_and partial.value (mask_of i) ≡ 0 = outside partial.value partial.mask (mask_of i) w n.nothing_known in
    let own : bit_and (placed i f) (mask_of i) ≡ placed i f = placed-within i.field f n.parts in
    let here : bit_and (placed i f) partial.mask ≡ 0 =
    outside (placed i f) (mask_of i) partial.mask own (and_comm (mask_of i) partial.mask ∙ n.nothing_known) in
    let rule : meets i.rule (bit_or partial.value (placed i f)) ≡ true = ap (λ r. meets r (bit_or partial.value (placed i f))) n.free in
    ap (λ b. cond b (Some (with_field i partial f)) None) (and_from _ _ (ap₂ (λ a b. a == b) before here) rule)

last : (k : Item) (partial : PartialWord) (o : Option ℕ) → IsOpen k partial.mask → IsWithin partial
    → taken_on (λ next. taken [] next []) (partial_with k partial o) ≡ option_map (λ f. bit_or partial.value (placed k f)) o
unfolding taken partial_with with_field
last k partial None n w = refl
last k partial (Some f) n w = ap (taken_on (λ next. taken [] next [])) (opened k partial f n w)

-- three operands, of which the second is a mark
three : (i j k : Item) (partial : PartialWord) (t u v : Token) (r : ℕ) (o : Option ℕ) → IsWithin partial → IsOpen i partial.mask
    → IsOpen j (bit_or partial.mask (mask_of i)) → IsOpen k (bit_or (bit_or partial.mask (mask_of i)) (mask_of j)) → placed j 0 ≡ 0
    → field_said i.kind (bits_of i) t ≡ Some r → field_said j.kind (bits_of j) u ≡ Some 0 → field_said k.kind (bits_of k) v ≡ o
    → taken (i ∷ j ∷ k ∷ []) partial (t ∷ u ∷ v ∷ []) ≡ option_map (λ f. bit_or (bit_or partial.value (placed i r)) (placed k f)) o
unfolding taken partial_after with_field
three i j k partial t u v r o w a b c z first second third =
    let one = with_field i partial r in
    let two = with_field j one 0 in
    let w1 = with_within i partial r a w in
    let w2 = with_within j one 0 b w1 in
    ap (λ o. taken_on (λ next. taken (j ∷ k ∷ []) next (u ∷ v ∷ [])) (partial_with i partial o)) first
    ∙ ap (taken_on (λ next. taken (j ∷ k ∷ []) next (u ∷ v ∷ []))) (opened i partial r a w)
    ∙ ap (λ o. taken_on (λ next. taken (k ∷ []) next (v ∷ [])) (partial_with j one o)) second
    ∙ ap (taken_on (λ next. taken (k ∷ []) next (v ∷ []))) (opened j one 0 b w1)
    ∙ ap (λ o. taken_on (λ next. taken [] next []) (partial_with k two o)) third
    ∙ last k two o c w2
    ∙ ap (λ n. option_map (λ f. bit_or n (placed k f)) o)
    (ap (bit_or (bit_or partial.value (placed i r))) z ∙ nothing_or (bit_or partial.value (placed i r)))

-- the third takes no such token
last_none : (k : Item) (v : Token) → field_said k.kind (bits_of k) v ≡ None → (partial : PartialWord)
    → taken (k ∷ []) partial (v ∷ []) ≡ None
unfolding taken partial_after partial_with
last_none k v e partial = ap (λ o. taken_on (λ next. taken [] next []) (partial_with k partial o)) e

none_on : (on : PartialWord → Option ℕ) → ((partial : PartialWord) → on partial ≡ None) → (o : Option PartialWord) → taken_on on o ≡ None
none_on on e None = refl
none_on on e (Some partial) = e partial

deaf : (i j k : Item) (partial : PartialWord) (t u v : Token) → field_said k.kind (bits_of k) v ≡ None
    → taken (i ∷ j ∷ k ∷ []) partial (t ∷ u ∷ v ∷ []) ≡ None
unfolding taken
deaf i j k partial t u v e =
    none_on (λ next. taken (j ∷ k ∷ []) next (u ∷ v ∷ []))
    (λ one. none_on (λ next. taken (k ∷ []) next (v ∷ [])) (last_none k v e) (partial_after j one u)) (partial_after i partial t)

-- ---- the shapes of `mov`
skip : (s : Shape) (ss : List Shape) (ts : List Token) (rest : Option ℕ) → word_in s ts ≡ None → first_word ss ts ≡ rest
    → first_word (s ∷ ss) ts ≡ rest
unfolding first_word
skip s ss ts rest e h = ap (λ o. first_of_words o (first_word ss ts)) e ∙ h

pick : (s : Shape) (ss : List Shape) (ts : List Token) (o rest : Option ℕ) → word_in s ts ≡ o → first_word ss ts ≡ rest
    → first_word (s ∷ ss) ts ≡ first_of_words o rest
unfolding first_word
pick s ss ts o rest e h = ap₂ first_of_words e h

nothing_after : (o : Option ℕ) → first_of_words o None ≡ o
nothing_after None = refl
nothing_after (Some n) = refl

-- the operands of those with a number
abbrev item : Kind → Field → Item
item k f = record { kind = k; field = f; rule = Free }

abbrev COMMA : Item
COMMA = item (kind.Punctuation 44) NONE

-- the shapes
abbrev MOV : List Shape
MOV = shapes_of (index_of (codes "mov"))

abbrev at : ℕ → Shape
at n = get_or MOV n (record { mask = 0; value = 0; mnemonic = 0; list = Scalar; first = 0; count = 0; alias = true })

abbrev after : ℕ → List Shape
after n = drop n MOV

says : (s : Shape) (register size last : ℕ) (negative wide : Bool) (k : Kind) (f : Field) → register < 31
    → items_of s ≡ item (kind.Register (file_of wide) last) RD ∷ COMMA ∷ item k f ∷ [] → IsWithin (fixed s)
    → IsOpen (item (kind.Register (file_of wide) last) RD) s.mask → bit_and (upper_mask (item k f)) (lower_mask (item k f)) ≡ 0
    → bit_and (bit_or (bit_or s.mask (mask_of (item (kind.Register (file_of wide) last) RD))) (mask_of COMMA)) (mask_of (item k f)) ≡ 0
    → word_in s (move_tokens wide register negative size)
    ≡ option_map (word_with s.value register f) (field_said k (bits_of (item k f)) (Number negative size))
unfolding word_in fixed fields.mask_of fields.placed field_said on_register on_punctuation
says s register size last negative wide k f lt same within first parts nothing_known =
    let rd = item (kind.Register (file_of wide) last) RD in
    ap (λ is. taken is (fixed s) (move_tokens wide register negative size)) same
    ∙ three rd COMMA (item k f) (fixed s) (Register (file_of wide) register) (Punctuation 44) (Number negative size) register
    (field_said k (bits_of (item k f)) (Number negative size)) within first
    (record { free = refl; parts = refl; nothing_known = nothing_and (bit_or s.mask (mask_of rd)) })
    (record { free = refl; parts = parts; nothing_known = nothing_known }) refl
    (register-said (file_of wide) register lt) refl refl

-- what the shapes with a number say
abbrev said_as : Bool → ℕ → Option ℕ → Option ℕ
said_as wide register imm =
    first_of_words
    (option_map (word_with (movz wide) register (halfword_index wide))
    (option_and_then (λ n. halfword_field wide (inverted_if wide false n)) imm))
    (first_of_words
    (option_map (word_with (movn wide) register (halfword_index wide))
    (option_and_then (λ n. halfword_field wide (inverted_if wide true n)) imm))
    (first_of_words (option_map (word_with (orr wide) register (mask_index wide)) (option_and_then (mask_field wide) imm)) None))

by_number : (wide : Bool) (register : ℕ) (imm : Option ℕ) → said_as wide register imm ≡ option_and_then (moved wide register) imm
unfolding inverted_if
by_number wide register None = refl
by_number wide register (Some n) =
    ap (λ o. first_of_words (option_map (word_with (movz wide) register (halfword_index wide)) (halfword_field wide n))
    (first_of_words
    (option_map (word_with (movn wide) register (halfword_index wide)) (halfword_field wide (2 ^ width_of wide - 1 - n))) o))
    (nothing_after (option_map (word_with (orr wide) register (mask_index wide)) (mask_field wide n)))

wide_moves : (negative : Bool) (register size : ℕ) → register < 31
    → first_word MOV (move_tokens true register negative size) ≡ said_as true register (immediate_of true negative size)
unfolding first_word word_in taken partial_after partial_with items_in items_of shapes_of index_of text_in fixed fields.mask_of field_said
    on_register on_number on_keyword register_field same_file IsWithin
wide_moves negative register size lt =
    let ts = move_tokens true register negative size in
    skip (at 0) (after 1) ts _
    (deaf (item X_OR_ZERO RD) COMMA (item X_OR_ZERO RM) (fixed (at 0)) (Register X register) (Punctuation 44) (Number negative size) refl)
    (skip (at 1) (after 2) ts _ refl
    (skip (at 2) (after 3) ts _ refl
    (skip (at 3) (after 4) ts _ refl
    (skip (at 4) (after 5) ts _
    (deaf (item X_SP RD) COMMA (item (kind.Keyword 1 1) NONE) (fixed (at 4)) (Register X register) (Punctuation 44) (Number negative size)
    refl)
    (skip (at 5) (after 6) ts _ refl
    (pick (at 6) (after 7) ts _ _
    (says (at 6) register size 0 negative true (kind.Halfword true false) HW_IMM16 lt refl refl
    (record { free = refl; parts = refl; nothing_known = refl }) refl refl)
    (skip (at 7) (after 8) ts _ refl
    (pick (at 8) (after 9) ts _ _
    (says (at 8) register size 0 negative true (kind.Halfword true true) HW_IMM16 lt refl refl
    (record { free = refl; parts = refl; nothing_known = refl }) refl refl)
    (skip (at 9) (after 10) ts _ refl
    (pick (at 10) (after 11) ts _ _
    (says (at 10) register size 1 negative true (kind.SignedMask true) N_IMMR_IMMS lt refl refl
    (record { free = refl; parts = refl; nothing_known = refl }) refl refl)
    (skip (at 11) (after 12) ts _ refl refl)))))))))))

narrow_moves : (negative : Bool) (register size : ℕ) → register < 31
    → first_word MOV (move_tokens false register negative size) ≡ said_as false register (immediate_of false negative size)
unfolding first_word word_in taken partial_after partial_with items_in items_of shapes_of index_of text_in fixed fields.mask_of field_said
    on_register on_number on_keyword register_field same_file IsWithin
narrow_moves negative register size lt =
    let ts = move_tokens false register negative size in
    skip (at 0) (after 1) ts _ refl
    (skip (at 1) (after 2) ts _
    (deaf (item W_OR_ZERO RD) COMMA (item W_OR_ZERO RM) (fixed (at 1)) (Register W register) (Punctuation 44) (Number negative size) refl)
    (skip (at 2) (after 3) ts _ refl
    (skip (at 3) (after 4) ts _ refl
    (skip (at 4) (after 5) ts _ refl
    (skip (at 5) (after 6) ts _
    (deaf (item W_SP RD) COMMA (item (kind.Keyword 3 1) NONE) (fixed (at 5)) (Register W register) (Punctuation 44) (Number negative size)
    refl)
    (skip (at 6) (after 7) ts _ refl
    (pick (at 7) (after 8) ts _ _
    (says (at 7) register size 2 negative false (kind.Halfword false false) SHORT_HW_IMM16 lt refl refl
    (record { free = refl; parts = refl; nothing_known = refl }) refl refl)
    (skip (at 8) (after 9) ts _ refl
    (pick (at 9) (after 10) ts _ _
    (says (at 9) register size 2 negative false (kind.Halfword false true) SHORT_HW_IMM16 lt refl refl
    (record { free = refl; parts = refl; nothing_known = refl }) refl refl)
    (skip (at 10) (after 11) ts _ refl
    (pick (at 11) (after 12) ts _ _
    (says (at 11) register size 3 negative false (kind.SignedMask false) IMMR_IMMS lt refl refl
    (record { free = refl; parts = refl; nothing_known = refl }) refl refl)
    refl)))))))))))

pub moves : (wide negative : Bool) (register size : ℕ) → register < 31
    → first_word (shapes_of (index_of (codes "mov"))) (move_tokens wide register negative size)
    ≡ option_and_then (moved wide register) (immediate_of wide negative size)
moves true negative register size lt = wide_moves negative register size lt ∙ by_number true register (immediate_of true negative size)
moves false negative register size lt = narrow_moves negative register size lt ∙ by_number false register (immediate_of false negative size)
