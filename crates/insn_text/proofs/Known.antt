-- What a region and a group's condition say of the operands of a shape, and which regions have no word of the group.
use Rattle.std.proofs.Common.{◌≡◌, ◌≢◌, inl, inr, ℕ, ◌+◌, ◌*◌, ◌/◌, ◌%◌, ◌^◌, ◌<◌, ◌≤◌, Bool, true, false, not, ◌&&◌, ◌||◌, ◌==◌}
use Rattle.std.proofs.Common.{nat_lt, nat_le, cond, List, [], ◌∷◌, bit_and, refl, sym, ap, ap₂, ◌∙◌, arith, eqb-true, eq-eqb, lt-ltb}
use Rattle.std.proofs.Common.{ltb-true, leb-true}
use Rattle.std.specs.List.{list_all}
use Rattle.std.proofs.lemmas.Bool.{and_from, and_parts, both_ways, le-leb, or_cases}
use Rattle.plain_lemmas.proofs.Tests.{not_both}
use Rattle.bit_ops.specs.Masks.{are_mask_fields, is_reserved}
use Rattle.sm_types.specs.declared.insn.PairOp.TheVariants.{Ldp}
use Rattle.sm_types.specs.declared.insn.PairIndex.TheVariants as index
use Rattle.insn_forms.specs.Fields.{field_of, bit_of}
use Rattle.insn_forms.specs.Fields.{field_in as number_in}
use Rattle.insn_forms.specs.Tables.{numbers_in}
use Rattle.insn_forms.proofs.Bits.{field_in-lt}
use Rattle.insn_forms.proofs.Sums.{split, field_below, fixed_field, plain}
use Rattle.a64_table.specs.declared.fields.TheConstants.{HW, IMM3, IMM6, IMMR, IMMS, N, OPTION, RN, RT, RT2, SF, SHIFT}
use Rattle.a64_table.specs.declared.operation.Operation.{Operation}
use Rattle.a64_table.specs.declared.operation.Operation.TheVariants.{G2, G3, G4, G5, G6, G7, G8, G18, G20}
use Rattle.a64_table.specs.declared.operation.AddressForm.{AddressForm}
use Rattle.a64_table.specs.declared.operation.AddressForm.TheVariants.{Offset, Unscaled, PostIndex, PreIndex, Register}
use Rattle.a64_table.specs.Conditions.{is_below_width, has_load, is_address_option, is_apart, are_two, is_pair_apart, fits_of}
use Rattle.insn_text.specs.declared.item.Kind.{Kind}
use Rattle.insn_text.specs.declared.item.Kind.TheVariants as kind
use Rattle.insn_text.specs.declared.item.Kind.TheVariants.{Punctuation, Keyword, Unsigned, Signed, Distance, Mask, SignedMask, ShiftLeft}
use Rattle.insn_text.specs.declared.item.Kind.TheVariants.{Opposite}
use Rattle.insn_text.specs.declared.item.Kind.TheVariants.{Halfword, Sized, SliceRegister, Index, Pattern, Descending}
use Rattle.insn_text.specs.declared.item.Rule.{Rule}
use Rattle.insn_text.specs.declared.item.Rule.TheVariants.{Free, SecondApart, BaseApart, BasePairApart, OffsetGiven}
use Rattle.insn_text.specs.declared.item.Item.{Item}
use Rattle.insn_text.specs.declared.item.Shape.{Shape}
use Rattle.insn_text.specs.Texts.{bits_of, field_in, items_of}
use Rattle.insn_text.specs.Rules.{is_within, meets, is_sayable}

-- ---- bits of a region

unfoldable pub same : Bool → Bool → Bool
same true b = b
same false b = not b

-- the region fixes the bit at this value
unfoldable pub fixed : ℕ → ℕ → ℕ → Bool → Bool
fixed mask value bit b = bit_of mask bit && same b (bit_of value bit)

from_same : (a b : Bool) → same a b ≡ true → b ≡ a
unfolding same
from_same true b e = e
from_same false true e = cc
from_same false false e = refl

fixed_bit : (word mask value bit : ℕ) (b : Bool) → bit_and word mask ≡ value → fixed mask value bit b ≡ true → bit_of word bit ≡ b
unfolding fixed bit_of
fixed_bit word mask value bit b m e =
    let parts = and_parts (field_of mask bit 1 == 1) (same b (field_of value bit 1 == 1)) e in
    ap (λ n. n == 1) (fixed_field word mask value bit 1 m (eqb-true _ _ parts.0)) ∙ from_same b _ parts.1

one_at : (word bit : ℕ) → bit_of word bit ≡ true → field_of word bit 1 ≡ 1
unfolding bit_of
one_at word bit e = eqb-true _ _ e

zero_at : (word bit : ℕ) → bit_of word bit ≡ false → field_of word bit 1 ≡ 0
unfolding bit_of
zero_at word bit e =
    let lt = field_below word bit 1 in
    let ne : field_of word bit 1 ≢ 1 = λ f. both_ways _ e (eq-eqb _ _ f) in
    omega arith

-- ---- regions without words

-- no load or store of the size with the sign
unfoldable pub sizes : ℕ → ℕ → Bool
sizes m v =
    ((fixed m v 31 true && fixed m v 30 true) && fixed m v 23 true)
    || ((fixed m v 31 true && fixed m v 30 false) && (fixed m v 23 true && fixed m v 22 true))

unfoldable pub ends : Operation → ℕ → ℕ → Bool
ends (G2 op) m v = fixed m v 31 false && fixed m v 15 true
ends (G3 op inverted) m v = fixed m v 31 false && fixed m v 15 true
ends (G5 op) m v = fixed m v 31 false && fixed m v 22 true
ends (G6 op) m v = fixed m v 31 false && fixed m v 22 true
ends (G7 op false) m v = fixed m v 21 true || fixed m v 15 true
ends (G8 false) m v = fixed m v 15 true
ends (G18 Register) m v = sizes m v || fixed m v 14 false
ends (G18 form) m v = sizes m v
ends g m v = false

-- both bits
record Two (word p : ℕ) (a : Bool) (q : ℕ) (b : Bool) : Type 0 where
  first : bit_of word p ≡ a
  second : bit_of word q ≡ b

two : (word m v p : ℕ) (a : Bool) (q : ℕ) (b : Bool) → bit_and word m ≡ v → (fixed m v p a && fixed m v q b) ≡ true → Two word p a q b
two word m v p a q b r e =
    let parts = and_parts (fixed m v p a) (fixed m v q b) e in
    record { first = fixed_bit word m v p a r parts.0; second = fixed_bit word m v q b r parts.1 }

narrow : (word n : ℕ) → bit_of word 31 ≡ false → is_below_width (bit_of word 31) n ≡ true → n < 32
unfolding is_below_width
narrow word n z e = ltb-true n 32 (sym (ap (λ b. cond b (nat_lt n 64) (nat_lt n 32)) z) ∙ e)

amount_top : (word : ℕ) → bit_of word 15 ≡ true → 32 ≤ field_of word 10 6
amount_top word e = omega (arith, one_at word 15 e, split word 10 5, split word 15 1, split word 10 6)

immr_top : (word : ℕ) → bit_of word 21 ≡ true → 32 ≤ field_of word 16 6
immr_top word e = omega (arith, one_at word 21 e, split word 16 5, split word 21 1, split word 16 6)

no_narrow_amount : (word : ℕ) → Two word 31 false 15 true → is_below_width (number_in SF word == 1) (number_in IMM6 word) ≡ true → ⊥
unfolding bit_of
no_narrow_amount word t e =
    let a =
    narrow word (field_of word 10 6) t.first (sym (ap₂ (λ x n. is_below_width (x == 1) n) (plain 31 1 word) (plain 10 6 word)) ∙ e) in
    let b = amount_top word t.second in
    omega arith

below_32 : (n : ℕ) → is_below_width false n ≡ true → n < 32
unfolding is_below_width
below_32 n e = ltb-true n 32 e

no_high_amount : (word : ℕ) → bit_of word 15 ≡ true → is_below_width false (number_in IMMS word) ≡ true → ⊥
no_high_amount word t e = let a = below_32 _ e in let b = amount_top word t in omega (arith, plain 10 6 word)

no_high_immr : (word : ℕ) → bit_of word 21 ≡ true → is_below_width false (number_in IMMR word) ≡ true → ⊥
no_high_immr word t e = let a = below_32 _ e in let b = immr_top word t in omega (arith, plain 16 6 word)

no_narrow_n : (n wide : Bool) (imms immr : ℕ) → wide ≡ false → n ≡ true → are_mask_fields n imms immr wide ≡ true → ⊥
unfolding are_mask_fields is_reserved
no_narrow_n true false imms immr a b e = cc
no_narrow_n true true imms immr a b e = cc
no_narrow_n false wide imms immr a b e = cc

no_mask : (word imms immr : ℕ) → Two word 31 false 22 true
    → are_mask_fields (number_in N word == 1) imms immr (number_in SF word == 1) ≡ true → ⊥
unfolding bit_of
no_mask word imms immr t e =
    no_narrow_n (field_of word 22 1 == 1) (field_of word 31 1 == 1) imms immr t.first t.second
    (sym (ap₂ (λ x y. are_mask_fields (x == 1) imms immr (y == 1)) (plain 22 1 word) (plain 31 1 word)) ∙ e)

no_halfword : (word : ℕ) → Two word 31 false 22 true → (number_in SF word == 1 || nat_lt (number_in HW word) 2) ≡ true → ⊥
unfolding bit_of
no_halfword word t f =
    let e = sym (ap₂ (λ x n. (x == 1) || nat_lt n 2) (plain 31 1 word) (plain 21 2 word)) ∙ f in
    elim (or_cases (field_of word 31 1 == 1) (nat_lt (field_of word 21 2) 2) e) [
      | inl h ↦ both_ways _ t.first h
      | inr h ↦ let lt =
          ltb-true (field_of word 21 2) 2 h in omega (arith, one_at word 22 t.second, split word 21 1, split word 22 1, split word 21 2)
    ]

no_and : (a b : Bool) → not (a && b) ≡ true → a ≡ true → b ≡ true → ⊥
no_and true true x y z = cc
no_and true false x y z = cc
no_and false b x y z = cc

no_long_signed_load : (word : ℕ) → Two word 31 true 30 true → bit_of word 23 ≡ true
    → has_load (field_of word 30 2) (field_of word 22 2) ≡ true → ⊥
unfolding has_load
no_long_signed_load word t b e =
    let size : field_of word 30 2 ≡ 3 =
    omega (arith, one_at word 31 t.first, one_at word 30 t.second, split word 30 1, split word 31 1, split word 30 2) in
    let opc : 2 ≤ field_of word 22 2 = omega (arith, one_at word 23 b, split word 22 1, split word 23 1, split word 22 2) in
    no_and (field_of word 30 2 == 3) (nat_le 2 (field_of word 22 2)) (and_parts _ _ e).0 (eq-eqb _ _ size) (le-leb _ _ opc)

no_narrow_signed_word : (word : ℕ) → Two word 31 true 30 false → Two word 23 true 22 true
    → has_load (field_of word 30 2) (field_of word 22 2) ≡ true → ⊥
unfolding has_load
no_narrow_signed_word word t u e =
    let size : field_of word 30 2 ≡ 2 =
    omega (arith, one_at word 31 t.first, zero_at word 30 t.second, split word 30 1, split word 31 1, split word 30 2) in
    let opc : field_of word 22 2 ≡ 3 =
    omega (arith, one_at word 23 u.first, one_at word 22 u.second, split word 22 1, split word 23 1, split word 22 2) in
    no_and (field_of word 30 2 == 2) (field_of word 22 2 == 3)
    (and_parts (not (field_of word 30 2 == 3 && nat_le 2 (field_of word 22 2))) _ e).1 (eq-eqb _ _ size) (eq-eqb _ _ opc)

no_option : (word : ℕ) → field_of word 14 1 ≡ 0 → is_address_option (field_of word 13 3) ≡ true → ⊥
unfolding is_address_option
no_option word z e =
    let option = field_of word 13 3 in
    elim (or_cases (option == 2 || option == 3 || option == 6) (option == 7) e) [
      | inr h ↦ (let n : option ≡ 7 = eqb-true _ _ h in
          omega (
            arith,
            z,
            split word 13 1,
            split word 14 1,
            split word 15 1,
            split word 13 3,
            field_below word 13 1,
            field_below word 15 1,
          ))
      | inl f ↦ elim (or_cases (option == 2 || option == 3) (option == 6) f) [
        | inr h ↦ (let n : option ≡ 6 = eqb-true _ _ h in
            omega (
              arith,
              z,
              split word 13 1,
              split word 14 1,
              split word 15 1,
              split word 13 3,
              field_below word 13 1,
              field_below word 15 1,
            ))
        | inl g ↦ elim (or_cases (option == 2) (option == 3) g) [
          | inr h ↦ (let n : option ≡ 3 = eqb-true _ _ h in
              omega (
                arith,
                z,
                split word 13 1,
                split word 14 1,
                split word 15 1,
                split word 13 3,
                field_below word 13 1,
                field_below word 15 1,
              ))
          | inl h ↦ (let n : option ≡ 2 = eqb-true _ _ h in
              omega (
                arith,
                z,
                split word 13 1,
                split word 14 1,
                split word 15 1,
                split word 13 3,
                field_below word 13 1,
                field_below word 15 1,
              ))
        ]
      ]
    ]

-- what is asked of a load or store of one register, by bits
loads : (f : AddressForm) (word : ℕ) → fits_of (G18 f) (numbers_in word) ≡ true → has_load (field_of word 30 2) (field_of word 22 2) ≡ true
unfolding fits_of
loads Offset word f = sym (ap₂ has_load (plain 30 2 word) (plain 22 2 word)) ∙ f
loads Unscaled word f = sym (ap₂ has_load (plain 30 2 word) (plain 22 2 word)) ∙ f
loads PostIndex word f = sym (ap₂ has_load (plain 30 2 word) (plain 22 2 word)) ∙ (and_parts _ _ f).0
loads PreIndex word f = sym (ap₂ has_load (plain 30 2 word) (plain 22 2 word)) ∙ (and_parts _ _ f).0
loads Register word f = sym (ap₂ has_load (plain 30 2 word) (plain 22 2 word)) ∙ (and_parts _ _ f).0

no_size : (word m v : ℕ) → bit_and word m ≡ v → sizes m v ≡ true → has_load (field_of word 30 2) (field_of word 22 2) ≡ true → ⊥
unfolding sizes
no_size word m v r e l =
    let long = fixed m v 31 true && fixed m v 30 true in
    let short = fixed m v 31 true && fixed m v 30 false in
    let both_set = fixed m v 23 true && fixed m v 22 true in
    elim (or_cases (long && fixed m v 23 true) (short && both_set) e) [
      | inl h ↦ (let p = and_parts long (fixed m v 23 true) h in
          no_long_signed_load word (two word m v 31 true 30 true r p.0) (fixed_bit word m v 23 true r p.1) l)
      | inr h ↦ (let p = and_parts short both_set h in
          no_narrow_signed_word word (two word m v 31 true 30 false r p.0) (two word m v 23 true 22 true r p.1) l)
    ]

no_extension : (word m v : ℕ) → bit_and word m ≡ v → fixed m v 14 false ≡ true → is_address_option (number_in OPTION word) ≡ true → ⊥
no_extension word m v r h e =
    no_option word (zero_at word 14 (fixed_bit word m v 14 false r h)) (sym (ap is_address_option (plain 13 3 word)) ∙ e)

never-register : (word m v : ℕ) → bit_and word m ≡ v → (sizes m v || fixed m v 14 false) ≡ true
    → fits_of (G18 Register) (numbers_in word) ≡ true → ⊥
unfolding fits_of
never-register word m v r e f = elim (or_cases (sizes m v) (fixed m v 14 false) e) [
  | inl h ↦ no_size word m v r h (loads Register word f)
  | inr h ↦ no_extension word m v r h (and_parts _ _ f).1
]

pub never : (g : Operation) (word m v : ℕ) → bit_and word m ≡ v → ends g m v ≡ true → fits_of g (numbers_in word) ≡ true → ⊥
unfolding ends fits_of
never (G2 op) word m v r e f = no_narrow_amount word (two word m v 31 false 15 true r e) (and_parts _ _ f).1
never (G3 op inverted) word m v r e f = no_narrow_amount word (two word m v 31 false 15 true r e) f
never (G5 op) word m v r e f = no_mask word _ _ (two word m v 31 false 22 true r e) f
never (G6 op) word m v r e f = no_halfword word (two word m v 31 false 22 true r e) f
never (G7 op false) word m v r e f = elim (or_cases (fixed m v 21 true) (fixed m v 15 true) e) [
  | inl h ↦ no_high_immr word (fixed_bit word m v 21 true r h) (and_parts _ _ f).0
  | inr h ↦ no_high_amount word (fixed_bit word m v 15 true r h) (and_parts _ _ f).1
]
never (G8 false) word m v r e f = no_high_amount word (fixed_bit word m v 15 true r e) f
never (G18 Register) word m v r e f = never-register word m v r e f
never (G18 Offset) word m v r e f = no_size word m v r e (loads Offset word f)
never (G18 Unscaled) word m v r e f = no_size word m v r e (loads Unscaled word f)
never (G18 PostIndex) word m v r e f = no_size word m v r e (loads PostIndex word f)
never (G18 PreIndex) word m v r e f = no_size word m v r e (loads PreIndex word f)
never g word m v r e f = cc

-- ---- operands

-- the operand's field is these bits
unfoldable pub is_field : Item → ℕ → ℕ → Bool
is_field i low width = i.field.low == low && i.field.width == width && i.field.upper_width == 0

-- three of the four shifts have an instruction
unfoldable pub has_three_shifts : Operation → Bool
has_three_shifts (G2 op) = true
has_three_shifts g = false

unfoldable pub has_amounts : Operation → Bool
has_amounts (G4 op) = true
has_amounts g = false

unfoldable pub has_masks : Operation → Bool
has_masks (G5 op) = true
has_masks g = false

-- the base of one register's load or store is written
unfoldable pub accesses_one : Operation → Bool
accesses_one (G18 PostIndex) = true
accesses_one (G18 PreIndex) = true
accesses_one g = false

-- a pair is loaded
unfoldable pub loads_two : Operation → Bool
loads_two (G20 Ldp wide index) = true
loads_two g = false

-- the base of a pair is written
unfoldable pub writes_two : Operation → Bool
writes_two (G20 op wide index.PostIndex) = true
writes_two (G20 op wide index.PreIndex) = true
writes_two g = false

-- the field of a mask, of either width
unfoldable pub is_mask_field : Bool → ℕ → ℕ → Item → Bool
is_mask_field true m v i = is_field i 10 13 && fixed m v 31 true
is_mask_field false m v i = is_field i 10 12 && (fixed m v 31 false && fixed m v 22 false)

-- each word of the region that meets the group's condition has a text of the kind for the number of the operand's field
unfoldable pub says_kind : Operation → ℕ → ℕ → Item → Kind → Bool
says_kind g m v i (Punctuation c) = true
says_kind g m v i (Keyword first count) =
    nat_le (2 ^ bits_of i) count || (count == 3
    && ((has_three_shifts g && is_field i 22 2) || (is_field i 13 2 && (fixed m v 13 false || fixed m v 14 false))))
says_kind g m v i (kind.Register file last) = true
says_kind g m v i (Unsigned base scale most) = nat_le (2 ^ bits_of i) (most + 1) || (has_amounts g && (is_field i 10 3 && most == 4))
says_kind g m v i (Signed scale) = true
says_kind g m v i (Distance scale) = true
says_kind g m v i (Mask wide) = has_masks g && is_mask_field wide m v i
says_kind g m v i (SignedMask wide) = true
says_kind g m v i (ShiftLeft wide) = true
says_kind g m v i (Opposite first count) = true
says_kind g m v i (Halfword wide inverted) = true
says_kind g m v i (Sized file bits suffix) = true
says_kind g m v i SliceRegister = true
says_kind g m v i Index = true
says_kind g m v i (Pattern first) = nat_le (2 ^ bits_of i) 32
says_kind g m v i (Descending from) = nat_le (2 ^ bits_of i) from

-- and meets the rule
unfoldable pub says_rule : Operation → ℕ → ℕ → Rule → Bool
says_rule g m v Free = true
says_rule g m v SecondApart = loads_two g
says_rule g m v BaseApart = accesses_one g
says_rule g m v BasePairApart = writes_two g
says_rule g m v OffsetGiven = false

unfoldable pub says_item : Operation → ℕ → ℕ → Item → Bool
says_item g m v i = says_kind g m v i i.kind && says_rule g m v i.rule

unfoldable pub says : Operation → ℕ → ℕ → Shape → Bool
says g m v s = list_all (says_item g m v) (items_of s)

mod_one : (n : ℕ) → n % 1 ≡ 0
mod_one n = omega arith

field_is : (i : Item) (word low width : ℕ) → is_field i low width ≡ true → field_in i word ≡ field_of word low width
unfolding is_field number_in field_of
field_is i word low width e =
    let parts = and_parts (i.field.low == low && i.field.width == width) (i.field.upper_width == 0) e in
    let firsts = and_parts (i.field.low == low) (i.field.width == width) parts.0 in
    let none : word / 2 ^ i.field.upper_low % 2 ^ i.field.upper_width ≡ 0 =
    ap (λ n. word / 2 ^ i.field.upper_low % 2 ^ n) (eqb-true _ _ parts.1) ∙ mod_one (word / 2 ^ i.field.upper_low) in
    ap (λ n. n * 2 ^ i.field.width + word / 2 ^ i.field.low % 2 ^ i.field.width) none
    ∙ ap₂ (λ (a b : ℕ). 0 * 2 ^ b + word / 2 ^ a % 2 ^ b) (eqb-true _ _ firsts.0) (eqb-true _ _ firsts.1)
    ∙ (let z : 0 * 2 ^ width + word / 2 ^ low % 2 ^ width ≡ word / 2 ^ low % 2 ^ width = omega arith in z)

field_bound : (i : Item) (word : ℕ) → field_in i word < 2 ^ bits_of i
field_bound i word = field_in-lt i.field word

three_shifts : (g : Operation) (word : ℕ) → has_three_shifts g ≡ true → fits_of g (numbers_in word) ≡ true → field_of word 22 2 < 3
unfolding has_three_shifts fits_of
three_shifts (G2 op) word h f =
    let ne : number_in SHIFT word ≢ 3 = λ e. not_both _ (and_parts _ _ f).0 (eq-eqb _ _ e) in
    omega (arith, field_below word 22 2, plain 22 2 word)
three_shifts g word h f = cc

amounts : (g : Operation) (word : ℕ) → has_amounts g ≡ true → fits_of g (numbers_in word) ≡ true → field_of word 10 3 < 5
unfolding has_amounts fits_of
amounts (G4 op) word h f = let lt = ltb-true (number_in IMM3 word) 5 f in omega (arith, plain 10 3 word)
amounts g word h f = cc

masks : (g : Operation) (word : ℕ) → has_masks g ≡ true → fits_of g (numbers_in word) ≡ true
    → are_mask_fields (bit_of word 22) (field_of word 10 6) (field_of word 16 6) (bit_of word 31) ≡ true
unfolding has_masks fits_of bit_of
masks (G5 op) word h f =
    sym (ap₂ (λ x y. are_mask_fields (x == 1) y (number_in IMMR word) (number_in SF word == 1)) (plain 22 1 word) (plain 10 6 word)
    ∙ ap₂ (λ x y. are_mask_fields (field_of word 22 1 == 1) (field_of word 10 6) x (y == 1)) (plain 16 6 word) (plain 31 1 word)) ∙ f
masks g word h f = cc

one_access : (g : Operation) (word : ℕ) → accesses_one g ≡ true → fits_of g (numbers_in word) ≡ true
    → (not (field_of word 5 5 == field_of word 0 5) || field_of word 5 5 == 31) ≡ true
unfolding accesses_one fits_of is_apart
one_access (G18 PostIndex) word h f = sym (ap₂ is_apart (plain 5 5 word) (plain 0 5 word)) ∙ (and_parts _ _ f).1
one_access (G18 PreIndex) word h f = sym (ap₂ is_apart (plain 5 5 word) (plain 0 5 word)) ∙ (and_parts _ _ f).1
one_access g word h f = cc

two_loaded : (g : Operation) (word : ℕ) → loads_two g ≡ true → fits_of g (numbers_in word) ≡ true
    → not (field_of word 0 5 == field_of word 10 5) ≡ true
unfolding loads_two fits_of are_two
two_loaded (G20 Ldp wide index) word h f = sym (ap₂ (λ a b. not (a == b)) (plain 0 5 word) (plain 10 5 word)) ∙ (and_parts _ _ f).0
two_loaded g word h f = cc

pair_base : (word : ℕ) → (number_in RN word == 31
    || (not (number_in RN word == number_in RT word) && not (number_in RN word == number_in RT2 word))) ≡ true
    → (field_of word 5 5 == 31 || (not (field_of word 5 5 == field_of word 0 5) && not (field_of word 5 5 == field_of word 10 5))) ≡ true
pair_base word f =
    sym (ap (λ a. a == 31 || (not (a == number_in RT word) && not (a == number_in RT2 word))) (plain 5 5 word)
    ∙ ap₂ (λ b c. field_of word 5 5 == 31 || (not (field_of word 5 5 == b) && not (field_of word 5 5 == c))) (plain 0 5 word)
    (plain 10 5 word)) ∙ f

two_written : (g : Operation) (word : ℕ) → writes_two g ≡ true → fits_of g (numbers_in word) ≡ true
    → (field_of word 5 5 == 31 || (not (field_of word 5 5 == field_of word 0 5) && not (field_of word 5 5 == field_of word 10 5))) ≡ true
unfolding writes_two fits_of is_pair_apart
two_written (G20 op wide index.PostIndex) word h f = pair_base word (and_parts _ _ f).1
two_written (G20 op wide index.PreIndex) word h f = pair_base word (and_parts _ _ f).1
two_written g word h f = cc

named_within : (g : Operation) (word m v : ℕ) (i : Item) (count : ℕ) → bit_and word m ≡ v → fits_of g (numbers_in word) ≡ true
    → (nat_le (2 ^ bits_of i) count || (count == 3
    && ((has_three_shifts g && is_field i 22 2) || (is_field i 13 2 && (fixed m v 13 false || fixed m v 14 false))))) ≡ true
    → field_in i word < count
named_within g word m v i count r f e = elim (or_cases (nat_le (2 ^ bits_of i) count) _ e) [
  | inl h ↦ (let le = leb-true (2 ^ bits_of i) count h in let lt = field_bound i word in omega arith)
  | inr h ↦ (let three : count ≡ 3 = eqb-true _ _ (and_parts (count == 3) _ h).0 in
      elim (or_cases (has_three_shifts g && is_field i 22 2) _ (and_parts (count == 3) _ h).1) [
        | inl k ↦ (let p = and_parts (has_three_shifts g) (is_field i 22 2) k in let same_field = field_is i word 22 2 p.1 in
            let lt = three_shifts g word p.0 f in omega arith)
        | inr k ↦ (let p = and_parts (is_field i 13 2) (fixed m v 13 false || fixed m v 14 false) k in
            let same_field = field_is i word 13 2 p.0 in
            elim (or_cases (fixed m v 13 false) (fixed m v 14 false) p.1) [
              | inl x ↦ (let z = zero_at word 13 (fixed_bit word m v 13 false r x) in
                  omega (arith, z, same_field, three, split word 13 1, split word 14 1, split word 13 2, field_below word 14 1))
              | inr x ↦ (let z = zero_at word 14 (fixed_bit word m v 14 false r x) in
                  omega (arith, z, same_field, three, split word 13 1, split word 14 1, split word 13 2, field_below word 13 1))
            ])
      ])
]

mask_same : (w w' n n' : Bool) (r r' s s' : ℕ) → w ≡ w' → n ≡ n' → r ≡ r' → s ≡ s' → are_mask_fields n s r w ≡ true
    → are_mask_fields n' s' r' w' ≡ true
mask_same w w' n n' r r' s s' a b c d h =
    sym (ap (are_mask_fields n s r) a ∙ ap (λ x. are_mask_fields x s r w') b ∙ ap (λ x. are_mask_fields n' s x w') c
    ∙ ap (λ x. are_mask_fields n' x r' w') d) ∙ h

mask_within : (wide : Bool) (word m v : ℕ) (i : Item) → bit_and word m ≡ v
    → are_mask_fields (bit_of word 22) (field_of word 10 6) (field_of word 16 6) (bit_of word 31) ≡ true → is_mask_field wide m v i ≡ true
    → are_mask_fields (field_of (field_in i word) 12 1 == 1) (field_of (field_in i word) 0 6) (field_of (field_in i word) 6 6) wide ≡ true
unfolding is_mask_field bit_of
mask_within true word m v i r h e =
    let p = and_parts (is_field i 10 13) (fixed m v 31 true) e in
    let f = field_in i word in
    let is_13 : f ≡ field_of word 10 13 = field_is i word 10 13 p.0 in
    let small = field_below word 10 13 in
    let whole = split word 10 13 in
    let low = split word 10 6 in
    let high = split word 16 6 in
    let top = split word 22 1 in
    let f_low = split f 0 6 in
    let f_high = split f 6 6 in
    let f_top = split f 12 1 in
    let low_below = field_below word 10 6 in
    let high_below = field_below word 16 6 in
    let f_low_below = field_below f 0 6 in
    let f_high_below = field_below f 6 6 in
    let n : field_of word 22 1 ≡ field_of f 12 1 =
    omega (arith, whole, low, high, top, f_low, f_high, f_top, low_below, high_below, f_low_below, f_high_below) in
    let immr : field_of word 16 6 ≡ field_of f 6 6 =
    omega (arith, whole, low, high, top, f_low, f_high, f_top, low_below, high_below, f_low_below, f_high_below) in
    let imms : field_of word 10 6 ≡ field_of f 0 6 =
    omega (arith, whole, low, high, top, f_low, f_high, f_top, low_below, high_below, f_low_below, f_high_below) in
    mask_same (field_of word 31 1 == 1) true (field_of word 22 1 == 1) (field_of f 12 1 == 1) (field_of word 16 6) (field_of f 6 6)
    (field_of word 10 6) (field_of f 0 6)
    (fixed_bit word m v 31 true r p.1) (ap (λ x. x == 1) n) immr imms h
mask_within false word m v i r h e =
    let p = and_parts (is_field i 10 12) (fixed m v 31 false && fixed m v 22 false) e in
    let t = two word m v 31 false 22 false r p.1 in
    let f = field_in i word in
    let is_12 : f ≡ field_of word 10 12 = field_is i word 10 12 p.0 in
    let small = field_below word 10 12 in
    let whole = split word 10 12 in
    let low = split word 10 6 in
    let high = split word 16 6 in
    let f_low = split f 0 6 in
    let f_high = split f 6 6 in
    let f_top = split f 12 1 in
    let low_below = field_below word 10 6 in
    let high_below = field_below word 16 6 in
    let f_low_below = field_below f 0 6 in
    let f_high_below = field_below f 6 6 in
    let n : 0 ≡ field_of f 12 1 = omega (arith, f_top) in
    let immr : field_of word 16 6 ≡ field_of f 6 6 =
    omega (arith, whole, low, high, f_low, f_high, f_top, low_below, high_below, f_low_below, f_high_below) in
    let imms : field_of word 10 6 ≡ field_of f 0 6 =
    omega (arith, whole, low, high, f_low, f_high, f_top, low_below, high_below, f_low_below, f_high_below) in
    mask_same (field_of word 31 1 == 1) false (field_of word 22 1 == 1) (field_of f 12 1 == 1) (field_of word 16 6) (field_of f 6 6)
    (field_of word 10 6) (field_of f 0 6)
    t.first (t.second ∙ ap (λ x. x == 1) n) immr imms h

kind_within : (g : Operation) (word m v : ℕ) (i : Item) (kind : Kind) → bit_and word m ≡ v → fits_of g (numbers_in word) ≡ true
    → says_kind g m v i kind ≡ true → is_within kind (field_in i word) ≡ true
unfolding says_kind is_within
kind_within g word m v i (Punctuation c) r f e = refl
kind_within g word m v i (Keyword first count) r f e = lt-ltb (field_in i word) count (named_within g word m v i count r f e)
kind_within g word m v i (kind.Register file last) r f e = refl
kind_within g word m v i (Unsigned base scale most) r f e =
    elim (or_cases (nat_le (2 ^ bits_of i) (most + 1)) (has_amounts g && (is_field i 10 3 && most == 4)) e) [
      | inl h ↦ (let le = leb-true (2 ^ bits_of i) (most + 1) h in let lt = field_bound i word in le-leb _ _ (omega arith))
      | inr h ↦ (let p = and_parts (has_amounts g) (is_field i 10 3 && most == 4) h in
          let q = and_parts (is_field i 10 3) (most == 4) p.1 in
          let same_field =
          field_is i word 10 3 q.0 in let lt = amounts g word p.0 f in let four : most ≡ 4 = eqb-true _ _ q.1 in le-leb _ _ (omega arith))
    ]
kind_within g word m v i (Signed scale) r f e = refl
kind_within g word m v i (Distance scale) r f e = refl
kind_within g word m v i (Mask wide) r f e =
    let p = and_parts (has_masks g) (is_mask_field wide m v i) e in mask_within wide word m v i r (masks g word p.0 f) p.1
kind_within g word m v i (SignedMask wide) r f e = refl
kind_within g word m v i (ShiftLeft wide) r f e = refl
kind_within g word m v i (Opposite first count) r f e = refl
kind_within g word m v i (Halfword wide inverted) r f e = refl
kind_within g word m v i (Sized file bits suffix) r f e = refl
kind_within g word m v i SliceRegister r f e = refl
kind_within g word m v i Index r f e = refl
kind_within g word m v i (Pattern first) r f e =
    let le = leb-true (2 ^ bits_of i) 32 e in let lt = field_bound i word in lt-ltb (field_in i word) 32 (omega arith)
kind_within g word m v i (Descending from) r f e =
    let le = leb-true (2 ^ bits_of i) from e in let lt = field_bound i word in lt-ltb (field_in i word) from (omega arith)

-- ---- rules

base_rule : (alike sp : Bool) → (not alike || sp) ≡ true → (sp || not alike) ≡ true
base_rule true true h = refl
base_rule true false h = cc
base_rule false true h = refl
base_rule false false h = refl

pair_rule : (sp one other : Bool) → (sp || (not one && not other)) ≡ true → ((sp || not one) && (sp || not other)) ≡ true
pair_rule true one other h = refl
pair_rule false one other h = h

rule_met : (g : Operation) (word m v : ℕ) (rule : Rule) → bit_and word m ≡ v → fits_of g (numbers_in word) ≡ true
    → says_rule g m v rule ≡ true → meets rule word ≡ true
unfolding says_rule meets
rule_met g word m v Free r f e = refl
rule_met g word m v SecondApart r f e = two_loaded g word e f
rule_met g word m v BaseApart r f e = base_rule (field_of word 5 5 == field_of word 0 5) (field_of word 5 5 == 31) (one_access g word e f)
rule_met g word m v BasePairApart r f e =
    pair_rule (field_of word 5 5 == 31) (field_of word 5 5 == field_of word 0 5) (field_of word 5 5 == field_of word 10 5)
    (two_written g word e f)
rule_met g word m v OffsetGiven r f e = cc

item_said : (g : Operation) (word m v : ℕ) (i : Item) → bit_and word m ≡ v → fits_of g (numbers_in word) ≡ true → says_item g m v i ≡ true
    → is_sayable word i ≡ true
unfolding says_item is_sayable
item_said g word m v i r f e =
    let p = and_parts (says_kind g m v i i.kind) (says_rule g m v i.rule) e in
    and_from _ _ (kind_within g word m v i i.kind r f p.0) (rule_met g word m v i.rule r f p.1)

all_said : (g : Operation) (word m v : ℕ) (is : List Item) → bit_and word m ≡ v → fits_of g (numbers_in word) ≡ true
    → list_all (says_item g m v) is ≡ true → list_all (is_sayable word) is ≡ true
all_said g word m v [] r f e = refl
all_said g word m v (i ∷ is) r f e =
    let p = and_parts (says_item g m v i) (list_all (says_item g m v) is) e in
    and_from _ _ (item_said g word m v i r f p.0) (all_said g word m v is r f p.1)

pub said : (g : Operation) (word m v : ℕ) (s : Shape) → bit_and word m ≡ v → fits_of g (numbers_in word) ≡ true → says g m v s ≡ true
    → list_all (is_sayable word) (items_of s) ≡ true
unfolding says
said g word m v s r f e = all_said g word m v (items_of s) r f e
