-- The tokens of a word say the word in its shape.
use Rattle.std.proofs.Common.{◌≡◌, ℕ, ◌-◌, ◌^◌, ◌<◌, ◌==◌, ◌&&◌, Bool, true, List, [], ◌∷◌, map, Some, None, cond, bit_and, sym, ap}
use Rattle.std.proofs.Common.{◌∙◌, eqb-true, eq-eqb, mod-eq_of_lt}
use Rattle.std.specs.Prelude.{bit_or}
use Rattle.std.specs.List.{list_all}
use Rattle.std.proofs.lemmas.Bool.{and_parts, and_from}
use Rattle.std.proofs.lemmas.Nat.{and_mask}
use Rattle.insn_text.specs.declared.item.Item.{Item}
use Rattle.insn_text.specs.declared.item.Shape.{Shape}
use Rattle.insn_text.specs.Texts.{bits_of, field_in, items_of}
use Rattle.insn_text.specs.Rules.{is_within, meets, is_sayable}
use Rattle.asm_operands.specs.Fields.{field_said}
use Rattle.asm_operands.specs.Operands.{PartialWord, mask_of, placed, with_field, agrees, partial_with, partial_after, taken_on, taken}
use Rattle.asm_operands.specs.Operands.{fixed}
use Rattle.asm_operands.specs.Operands.{word_in}
use Rattle.asm_operands.specs.Shown.{item_token, tokens_shown}
use Rattle.insn_forms.proofs.Bits.{or_of_ands, field_in-lt, placed-field}
use Rattle.asm_operands.proofs.WordBits.{and_swap, upper_mask, lower_mask, covers, meets-kept}
use Rattle.asm_operands.proofs.PrintedTokens.{is_printed_kind, said-heard}

-- the kind is printed, and the two parts of the field have no bit in common
unfoldable pub is_printed_item : Item → Bool
is_printed_item i = is_printed_kind i.kind (bits_of i) && (bit_and (upper_mask i) (lower_mask i) == 0)

-- the operands say all bits but those of the mask, each rule once its registers are known
unfoldable pub says_rest : List Item → ℕ → Bool
says_rest [] mask = mask == 2 ^ 32 - 1
says_rest (i ∷ is) mask = is_printed_item i && (covers i.rule (bit_or mask (mask_of i)) && says_rest is (bit_or mask (mask_of i)))

-- the bits of a word that a mask has
abbrev pub partial_at : ℕ → ℕ → PartialWord
partial_at w mask = record { mask = mask; value = bit_and w mask }

pub item-heard : (i : Item) (w : ℕ) → is_printed_item i ≡ true → is_sayable w i ≡ true
    → field_said i.kind (bits_of i) (item_token w i) ≡ Some (field_in i w)
unfolding is_printed_item is_sayable item_token
item-heard i w p e =
    said-heard i.kind (bits_of i) (field_in i w)
    (and_parts (is_printed_kind i.kind (bits_of i)) (bit_and (upper_mask i) (lower_mask i) == 0) p).0
    (and_parts (is_within i.kind (field_in i w)) (meets i.rule w) e).0 (field_in-lt i.field w)

placed_back : (i : Item) (w : ℕ) → is_printed_item i ≡ true → placed i (field_in i w) ≡ bit_and w (mask_of i)
unfolding is_printed_item
placed_back i w p =
    placed-field i.field w (eqb-true _ 0 (and_parts (is_printed_kind i.kind (bits_of i)) (bit_and (upper_mask i) (lower_mask i) == 0) p).1)

next_value : (i : Item) (w mask : ℕ) → is_printed_item i ≡ true
    → bit_or (bit_and w mask) (placed i (field_in i w)) ≡ bit_and w (bit_or mask (mask_of i))
next_value i w mask p = ap (bit_or (bit_and w mask)) (placed_back i w p) ∙ or_of_ands w mask (mask_of i)

meets_here : (i : Item) (w : ℕ) → is_sayable w i ≡ true → meets i.rule w ≡ true
unfolding is_sayable
meets_here i w e = (and_parts (is_within i.kind (field_in i w)) (meets i.rule w) e).1

item-taken : (i : Item) (w mask : ℕ) → is_printed_item i ≡ true → covers i.rule (bit_or mask (mask_of i)) ≡ true → is_sayable w i ≡ true
    → partial_after i (partial_at w mask) (item_token w i) ≡ Some (partial_at w (bit_or mask (mask_of i)))
unfolding partial_after partial_with agrees with_field
item-taken i w mask p c e =
    let f = field_in i w in
    let partial = partial_at w mask in
    let same : bit_and (bit_and w mask) (mask_of i) ≡ bit_and (placed i f) mask =
    and_swap w mask (mask_of i) ∙ ap (λ b. bit_and b mask) (sym (placed_back i w p)) in
    let value = next_value i w mask p in
    let rule : meets i.rule (bit_or (bit_and w mask) (placed i f)) ≡ true =
    ap (meets i.rule) value ∙ meets-kept i.rule w (bit_or mask (mask_of i)) c ∙ meets_here i w e in
    ap (partial_with i partial) (item-heard i w p e)
    ∙ ap (λ b. cond b (Some (with_field i partial f)) None) (and_from _ _ (eq-eqb _ _ same) rule)
    ∙ ap (λ v. Some (record { mask = bit_or mask (mask_of i); value = v })) value

pub taken-shown : (is : List Item) (mask w : ℕ) → w < 2 ^ 32 → says_rest is mask ≡ true → list_all (is_sayable w) is ≡ true
    → taken is (partial_at w mask) (map (item_token w) is) ≡ Some w
unfolding taken says_rest
taken-shown [] mask w lt s e = ap (λ m. Some (bit_and w m)) (eqb-true mask (2 ^ 32 - 1) s) ∙ ap Some (and_mask w 32 ∙ mod-eq_of_lt lt)
taken-shown (i ∷ is) mask w lt s e =
    let p = and_parts (is_printed_item i) (covers i.rule (bit_or mask (mask_of i)) && says_rest is (bit_or mask (mask_of i))) s in
    let q = and_parts (covers i.rule (bit_or mask (mask_of i))) (says_rest is (bit_or mask (mask_of i))) p.1 in
    let r = and_parts (is_sayable w i) (list_all (is_sayable w) is) e in
    ap (taken_on (λ next. taken is next (map (item_token w) is))) (item-taken i w mask p.0 q.0 r.0)
    ∙ taken-shown is (bit_or mask (mask_of i)) w lt q.1 r.1

pub word-shown : (s : Shape) (w : ℕ) → w < 2 ^ 32 → bit_and w s.mask ≡ s.value → says_rest (items_of s) s.mask ≡ true
    → list_all (is_sayable w) (items_of s) ≡ true → word_in s (tokens_shown s w) ≡ Some w
unfolding word_in fixed tokens_shown
word-shown s w lt m r e =
    ap (λ v. taken (items_of s) (record { mask = s.mask; value = v }) (map (item_token w) (items_of s))) (sym m)
    ∙ taken-shown (items_of s) s.mask w lt r e
