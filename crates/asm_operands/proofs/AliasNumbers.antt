-- What an alias says is the number that it is written with.
use Rattle.std.proofs.Common.{◌≡◌, ℕ, ◌+◌, ◌-◌, ◌*◌, ◌/◌, ◌%◌, ◌^◌, ◌<◌, ◌==◌, Bool, true, false, nat_lt, nat_le, cond, []}
use Rattle.std.proofs.Common.{Option, Some, None, refl, sym, ap, ap₂, ◌∙◌, subst, arith, eqb-true, ltb-true}
use Rattle.std.specs.Prelude.{option_map, option_and_then}
use Rattle.std.specs.List.{find, range_with_len}
use Rattle.std.proofs.lemmas.Bool.{and_parts}
use Rattle.std.proofs.lemmas.Nat.{shr_split, mod_below, pow_pos}
use Rattle.std.proofs.lemmas.Option.{same_Some}
use Rattle.plain_lemmas.proofs.Lists.{find-passes}
use Rattle.bit_ops.specs.Bits.{width_of}
use Rattle.bit_ops.specs.Masks.{are_mask_fields}
use Rattle.insn_forms.specs.Fields.{field_of}
use Rattle.insn_text.specs.declared.item.Kind.TheVariants as kind
use Rattle.insn_text.specs.Texts.{mask_in}
use Rattle.asm_tokens.specs.declared.token.Token.TheVariants.{Number}
use Rattle.asm_operands.specs.Aliases.{halfword_number, IsShiftLeft}
use Rattle.asm_operands.specs.Fields.{on_number, is_that, is_field_of, mask_field, immediate_of, shift_bits, shift_left_field}
use Rattle.asm_operands.specs.Fields.{is_halfword_at, halfword_field, inverted_if, field_said}

-- ---- halfwords

parts_of : (index q : ℕ) → q < 65536 → ((index * 65536 + q) / 65536 ≡ index) × ((index * 65536 + q) % 65536 ≡ q)
parts_of index q lt = (omega arith, omega arith)

at_index : (n index field : ℕ) → is_halfword_at n index ≡ true → index * 65536 + n / 2 ^ (16 * index) ≡ field → halfword_number field ≡ n
unfolding is_halfword_at
at_index n index field e f =
    let p = and_parts (n % 2 ^ (16 * index) == 0) (nat_lt (n / 2 ^ (16 * index)) 65536) e in
    let parts = parts_of index (n / 2 ^ (16 * index)) (ltb-true _ _ p.1) in
    let none : n % 2 ^ (16 * index) ≡ 0 = eqb-true _ _ p.0 in
    let whole = shr_split n (16 * index) in
    ap (λ m. m % 65536 * 2 ^ (16 * (m / 65536))) (sym f)
    ∙ ap₂ (λ a b. a * 2 ^ (16 * b)) parts.1 parts.0
    ∙ (let same : n / 2 ^ (16 * index) * 2 ^ (16 * index) ≡ n = omega (arith, whole, none) in same)

found_at : (n field : ℕ) (o : Option ℕ) → ((index : ℕ) → o ≡ Some index → is_halfword_at n index ≡ true)
    → option_map (λ index. index * 65536 + n / 2 ^ (16 * index)) o ≡ Some field → halfword_number field ≡ n
found_at n field None h e = cc
found_at n field (Some index) h e = at_index n index field (h index refl) (same_Some _ field e)

halfword-is : (wide : Bool) (n field : ℕ) → halfword_field wide n ≡ Some field → halfword_number field ≡ n
unfolding halfword_field
halfword-is wide n field e =
    found_at n field (find (is_halfword_at n) (range_with_len 0 (width_of wide / 16)))
    (λ index f. find-passes (is_halfword_at n) (range_with_len 0 (width_of wide / 16)) index f) e

pub halfword : (wide negative : Bool) (bits size number field : ℕ) → immediate_of wide negative size ≡ Some number
    → field_said (kind.Halfword wide false) bits (Number negative size) ≡ Some field → halfword_number field ≡ number
unfolding field_said on_number inverted_if
halfword wide negative bits size number field e f =
    halfword-is wide number field (sym (ap (option_and_then (λ n. halfword_field wide n)) e) ∙ f)

-- a number of the width is less than its greatest and one
below : (wide negative : Bool) (size number : ℕ) → immediate_of wide negative size ≡ Some number → number < 2 ^ width_of wide
unfolding immediate_of
below wide true size number e =
    elim (nat_le size (2 ^ (width_of wide - 1))) as (λ b. cond b (Some ((2 ^ width_of wide - size) % 2 ^ width_of wide)) None ≡ Some number
    → number < 2 ^ width_of wide) [
      | true ↦ λ h. subst (λ n. n < 2 ^ width_of wide) (same_Some _ number h)
          (mod_below (2 ^ width_of wide - size) (2 ^ width_of wide) (pow_pos (width_of wide)))
      | false ↦ λ h. cc
    ] e
below wide false size number e =
    elim (nat_lt size (2 ^ width_of wide)) as (λ b. nat_lt size (2 ^ width_of wide) ≡ b → cond b (Some size) None ≡ Some number
    → number < 2 ^ width_of wide) [
      | true ↦ λ is h. subst (λ n. n < 2 ^ width_of wide) (same_Some size number h) (ltb-true _ _ is)
      | false ↦ λ is h. cc
    ] refl e

back : (all n : ℕ) → n < all → all - 1 - (all - 1 - n) ≡ n
back all n lt = omega arith

pub inverted : (wide negative : Bool) (bits size number field : ℕ) → immediate_of wide negative size ≡ Some number
    → field_said (kind.Halfword wide true) bits (Number negative size) ≡ Some field
    → 2 ^ width_of wide - 1 - halfword_number field ≡ number
unfolding field_said on_number inverted_if
inverted wide negative bits size number field e f =
    let is =
    halfword-is wide (2 ^ width_of wide - 1 - number) field
    (sym (ap (option_and_then (λ n. halfword_field wide (2 ^ width_of wide - 1 - n))) e) ∙ f) in
    ap (λ n. 2 ^ width_of wide - 1 - n) is ∙ back (2 ^ width_of wide) number (below wide negative size number e)

-- ---- masks

that : (number : ℕ) (o : Option ℕ) → is_that number o ≡ true → o ≡ Some number
that number None e = cc
that number (Some mask) e = ap Some (eqb-true mask number e)

pub mask : (wide negative : Bool) (bits size number field : ℕ) → immediate_of wide negative size ≡ Some number
    → field_said (kind.SignedMask wide) bits (Number negative size) ≡ Some field → mask_in wide field ≡ Some number
unfolding field_said on_number mask_field is_field_of
mask wide negative bits size number field e f =
    let found = sym (ap (option_and_then (mask_field wide)) e) ∙ f in
    that number (mask_in wide field) (and_parts (are_mask_fields (field_of field 12 1 == 1) (field_of field 0 6) (field_of field 6 6) wide)
    _ (find-passes (is_field_of wide number) (range_with_len 0 8192) field found)).1

-- ---- shifts

wide_shift : (size field : ℕ) → size < 64 → (64 - size) % 64 * 64 + (63 - size) ≡ field → IsShiftLeft true size field
wide_shift size field lt e = record { imms = omega arith; immr = omega arith }

narrow_shift : (size field : ℕ) → size < 32 → (32 - size) % 32 * 32 + (31 - size) ≡ field → IsShiftLeft false size field
narrow_shift size field lt e = record { imms = omega arith; immr = omega arith }

shift_if : (wide b : Bool) (size field : ℕ) → nat_lt size (width_of wide) ≡ b
    → cond b (Some ((width_of wide - size) % width_of wide * 2 ^ shift_bits wide + (width_of wide - 1 - size))) None ≡ Some field
    → IsShiftLeft wide size field
shift_if wide false size field is e = cc
shift_if true true size field is e = wide_shift size field (ltb-true _ _ is) (same_Some _ field e)
shift_if false true size field is e = narrow_shift size field (ltb-true _ _ is) (same_Some _ field e)

pub shift : (wide negative : Bool) (bits size field : ℕ) → field_said (kind.ShiftLeft wide) bits (Number negative size) ≡ Some field
    → IsShiftLeft wide size field
unfolding field_said on_number shift_left_field
shift wide true bits size field e = cc
shift wide false bits size field e = shift_if wide (nat_lt size (width_of wide)) size field refl e
