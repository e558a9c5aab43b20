-- Slots, and the words that pass the first test.
use Rattle.std.proofs.Common.{inl, inr, ◌≡◌, ℕ, ◌+◌, ◌*◌, ◌/◌, ◌%◌, ◌^◌, ◌<◌, List, length, ap, sym, ◌∙◌, arith, Bool, true, false, bit_and, refl}
use Rattle.std.specs.Prelude.{◌==◌, ◌&&◌, ◌||◌, slice_index_or, slice_set}
use Rattle.std.specs.Int.Bits.{and_zero_r}
use Rattle.std.proofs.lemmas.List.{get_or-set_same, get_or-set_other}
use Rattle.std.proofs.lemmas.Bool.{cases_Bool, eqb-true, eq-eqb, both_ways, and_parts}
use Rattle.std.proofs.lemmas.Nat.{and_block}
use Rattle.plain_lemmas.proofs.Numbers.{cases_lt_eq_gt}
use Rattle.plain_lemmas.proofs.Tests.{or_resolve_left}
use Rattle.abi_checker.specs.Marks.{is_call_word}
use Rattle.abi_checker.specs.Slots.{IsTest}

-- ---- slots

pub slot_here : (slots : List Bool) (slot : ℕ) → slot < length slots → slice_index_or (slice_set slots slot true) slot false ≡ true
slot_here slots slot l = get_or-set_same slots slot true false l

-- one that was set stays so
pub slot_set : (slots : List Bool) (slot q : ℕ) → slot < length slots → slice_index_or slots q false ≡ true
    → slice_index_or (slice_set slots slot true) q false ≡ true
slot_set slots slot q l h = elim (cases_lt_eq_gt q slot) [
  | inl less ↦ get_or-set_other slots slot q true false (λ e. absurd (omega (arith, less, e))) ∙ h
  | inr (inl same) ↦ ap (λ i. slice_index_or (slice_set slots slot true) i false) same ∙ slot_here slots slot l
  | inr (inr more) ↦ get_or-set_other slots slot q true false (λ e. absurd (omega (arith, more, e))) ∙ h
]

-- ---- the first test

bits_of : (word a : ℕ) → word / 2 ^ 26 ≡ a → bit_and a 0x2F ≡ 0x25 → bit_and word 0xBC000000 ≡ 0x94000000
bits_of word a e same =
    let split : word ≡ a * 2 ^ 26 + word % 2 ^ 26 = omega (arith, e) in
    let block : bit_and (a * 2 ^ 26 + word % 2 ^ 26) 0xBC000000 ≡ bit_and a 0x2F * 2 ^ 26 + bit_and (word % 2 ^ 26) 0 =
    and_block 26 a 0x2F (word % 2 ^ 26) 0 (omega arith) (omega arith) in
    let none = and_zero_r (word % 2 ^ 26) in
    ap (λ w. bit_and w 0xBC000000) split ∙ block ∙ omega (arith, none, same)

call_bits : (word : ℕ) → is_call_word word ≡ true → bit_and word 0xBC000000 ≡ 0x94000000
call_bits word h = elim (cases_Bool (word / 2 ^ 26 == 0x25)) [
  | inl bl ↦ bits_of word 0x25 (eqb-true (word / 2 ^ 26) 0x25 bl) refl
  | inr other ↦
      let blr = and_parts (word / 2 ^ 10 == 0x358FC0) (word % 32 == 0)
      (or_resolve_left (word / 2 ^ 26 == 0x25) ((word / 2 ^ 10 == 0x358FC0) && (word % 32 == 0)) h other) in
      let top = eqb-true (word / 2 ^ 10) 0x358FC0 blr.0 in
      bits_of word 0x35 (omega (arith, top)) refl
]

-- a word that fails it is no call's, and there is no address
pub fails : (mask bits word : ℕ) (some : Bool) → IsTest mask bits some → (bit_and word mask == bits) ≡ false
    → (is_call_word word ≡ false) × (some ≡ false)
fails mask bits word true all h =
    let same : bit_and word mask ≡ bits = ap (λ m. bit_and word m) all.0 ∙ and_zero_r word ∙ sym all.1 in
    absurd (both_ways (bit_and word mask == bits) h (eq-eqb (bit_and word mask) bits same))
fails mask bits word false none h = (
  elim (cases_Bool (is_call_word word)) as (λ _. is_call_word word ≡ false) [
    | inl call ↦
        let same : bit_and word mask ≡ bits = ap (λ m. bit_and word m) none.0 ∙ call_bits word call ∙ sym none.1 in
        absurd (both_ways (bit_and word mask == bits) h (eq-eqb (bit_and word mask) bits same))
    | inr other ↦ other
  ],
  refl,
)
