-- A token that is printed says the field that it is printed for.
use Rattle.std.proofs.Common.{◌≡◌, ℕ, zero, suc, ◌+◌, ◌-◌, ◌*◌, ◌/◌, ◌%◌, ◌^◌, ◌<◌, ◌≤◌, ◌==◌, ◌&&◌, ◌||◌, not, Bool, true, false, nat_lt}
use Rattle.std.proofs.Common.{nat_le}
use Rattle.std.proofs.Common.{Some, None, cond, refl, sym, ap, ap₂, ◌∙◌, subst, arith, inl, inr, eqb-true, eq-eqb, lt-ltb, ltb-true, le-leb}
use Rattle.std.proofs.Common.{leb-true, mod-eq_of_lt}
use Rattle.std.proofs.lemmas.Bool.{and_parts, cases_lt, le-ltb, and_from}
use Rattle.std.proofs.lemmas.Nat.{pow-add, pow_pos}
use Rattle.std.proofs.Math.Nat.{mul-div_cancel, mul-mod_left}
use Rattle.std.specs.Prelude.{Option, option_map}
use borrow.Author.Tests.{ne_eqb}
use Rattle.insn_forms.specs.Fields.{field_of}
use Rattle.bit_ops.specs.Masks.{are_mask_fields}
use Rattle.insn_text.specs.declared.item.RegisterFile.{RegisterFile}
use Rattle.insn_text.specs.declared.item.RegisterFile.TheVariants.{X, W}
use Rattle.insn_text.specs.declared.item.VectorFile.{VectorFile}
use Rattle.insn_text.specs.declared.item.Kind.{Kind}
use Rattle.insn_text.specs.declared.item.Kind.TheVariants as kind
use Rattle.insn_text.specs.Texts.{is_positive, size_of, mask_in, is_named_pattern, pattern_index}
use Rattle.insn_text.specs.Wordings.{file_number}
use Rattle.insn_text.specs.Rules.{is_within}
use Rattle.asm_operands.specs.Fields.{on_punctuation, on_keyword, on_register, on_number, on_target, keyword_field, same_file}
use Rattle.asm_operands.specs.Fields.{register_field}
use Rattle.asm_operands.specs.Fields.{last_field, unsigned_field, signed_field, mask_field, field_said}
use Rattle.asm_operands.specs.Fields.{on_sized, on_bare, on_pattern, same_vector_file, sized_field, slice_field, index_field}
use Rattle.asm_operands.specs.Fields.{pattern_after, pattern_of_keyword, pattern_of_number, descending_field}
use Rattle.std.specs.Prelude.{if◌then◌else◌}
use Rattle.plain_lemmas.proofs.Numbers.{two_pow-halves}
use Rattle.asm_tokens.specs.declared.token.Token.TheVariants.{Register, Keyword, Number}
use Rattle.asm_operands.specs.Shown.{mask_token, token_said}
use Rattle.asm_operands.proofs.MaskFields.{mask-given}
use Rattle.asm_operands.proofs.Registers.{sized-parts}

-- the kind is one that is printed, with so many bits
unfoldable pub is_printed_kind : Kind → ℕ → Bool
is_printed_kind (kind.Punctuation c) bits = bits == 0
is_printed_kind (kind.Keyword first count) bits = true
is_printed_kind (kind.Register file last) bits = bits == 5
is_printed_kind (kind.Sized file few first) bits = nat_le few bits
is_printed_kind kind.SliceRegister bits = true
is_printed_kind kind.Index bits = true
is_printed_kind (kind.Pattern first) bits = true
is_printed_kind (kind.Descending from) bits = true
is_printed_kind (kind.Unsigned base scale most) bits = nat_lt 0 scale
is_printed_kind (kind.Signed scale) bits = nat_lt 0 scale && nat_lt 0 bits
is_printed_kind (kind.Distance scale) bits = nat_lt 0 scale && nat_lt 0 bits
is_printed_kind (kind.Mask wide) bits = nat_le bits 13
is_printed_kind (kind.SignedMask wide) bits = false
is_printed_kind (kind.ShiftLeft wide) bits = false
is_printed_kind (kind.Opposite first count) bits = false
is_printed_kind (kind.Halfword wide inverted) bits = false

-- ---- words
word_back : (first count field : ℕ) → field < count → keyword_field first count (first + field) ≡ Some field
unfolding keyword_field
word_back first count field lt =
    let le : first ≤ first + field = omega arith in
    let less : first + field < first + count = omega arith in
    let back : first + field - first ≡ field = omega arith in
    ap₂ (λ b n. cond b (Some n) None) (and_from _ _ (le-leb first (first + field) le) (lt-ltb (first + field) (first + count) less)) back

own_file : (file : RegisterFile) → same_file file file ≡ true
unfolding same_file
own_file X = refl
own_file W = refl

pub register-said : (file : RegisterFile) (number : ℕ) → number < 31 → register_field file file number ≡ Some number
unfolding register_field
register-said file number lt = ap (λ b. cond b (Some number) None) (and_from _ _ (own_file file) (lt-ltb number 31 lt))

pub last-said : (last : ℕ) → last_field last last ≡ Some 31
unfolding last_field
last-said last = ap (λ b. cond b (Some 31) None) (eq-eqb last last refl)

register_back : (file : RegisterFile) (last field : ℕ) → field < 32
    → on_register (register_field file) (last_field last) (cond (field == 31) (Keyword last) (Register file field)) ≡ Some field
unfolding on_register
register_back file last field lt = elim (cases_lt field 31) [
  | inl low ↦
      let other : (field ≡ 31) → ⊥ = λ e. omega arith in
      ap (λ b. on_register (register_field file) (last_field last) (cond b (Keyword last) (Register file field))) (ne_eqb field 31 other)
      ∙ register-said file field low
  | inr high ↦
      let e : field ≡ 31 = omega arith in
      ap (λ b. on_register (register_field file) (last_field last) (cond b (Keyword last) (Register file field))) (eq-eqb field 31 e)
      ∙ last-said last ∙ ap Some (sym e)
]

-- ---- numbers
scaled_in : {X : Type 0} (P : ℕ → ℕ → X) (f scale : ℕ) → 0 < scale → P (f * scale / scale) (f * scale % scale) ≡ P f 0
scaled_in P f scale positive = ap₂ P (mul-div_cancel f positive) (mul-mod_left f scale)

unsigned_back : (base scale most f : ℕ) → 0 < scale → f ≤ most → unsigned_field base scale most false (f * scale + base) ≡ Some f
unfolding unsigned_field
unsigned_back base scale most f positive le =
    let s = f * scale + base in
    let e : s - base ≡ f * scale = omega arith in
    let l : base ≤ s = omega arith in
    ap (λ m. cond (nat_le base s && (m % scale == 0) && nat_le (m / scale) most) (Some (m / scale)) None) e
    ∙ scaled_in (λ q r. cond (nat_le base s && (r == 0) && nat_le q most) (Some q) None) f scale positive
    ∙ ap (λ b. cond b (Some f) None) (and_from _ _ (and_from (nat_le base s) (0 == 0) (le-leb base s l) refl) (le-leb f most le))

signed_back : (scale n f : ℕ) → 0 < scale → 0 < n → f < 2 ^ n → signed_field n scale (not (is_positive n f)) (size_of n f * scale) ≡ Some f
unfolding signed_field size_of is_positive
signed_back scale n f positive signed lt =
    let two = two_pow-halves n signed in
    elim (cases_lt f (2 ^ (n - 1))) [
      | inl l ↦
          ap (λ b. signed_field n scale (not b) (cond b f (2 ^ n - f) * scale)) (lt-ltb f (2 ^ (n - 1)) l)
          ∙ scaled_in (λ q r. cond (not (r == 0)) None (cond (nat_lt q (2 ^ (n - 1))) (Some q) None)) f scale positive
          ∙ ap (λ b. cond b (Some f) None) (lt-ltb f (2 ^ (n - 1)) l)
      | inr g ↦
          let q = 2 ^ n - f in
          let within : q ≤ 2 ^ (n - 1) = omega arith in
          let back : 2 ^ n - q ≡ f = omega arith in
          ap (λ b. signed_field n scale (not b) (cond b f (2 ^ n - f) * scale)) (le-ltb f (2 ^ (n - 1)) g)
          ∙ scaled_in (λ q r. cond (not (r == 0)) None (cond (nat_le q (2 ^ (n - 1))) (Some ((2 ^ n - q) % 2 ^ n)) None)) q scale positive
          ∙ ap (λ b. cond b (Some ((2 ^ n - q) % 2 ^ n)) None) (le-leb q (2 ^ (n - 1)) within)
          ∙ ap (λ m. Some (m % 2 ^ n)) back ∙ ap Some (mod-eq_of_lt lt)
    ]

-- ---- registers with a size, slices, patterns
own_vector_file : (file : VectorFile) → same_vector_file file file ≡ true
unfolding same_vector_file
own_vector_file file = eq-eqb (file_number file) (file_number file) refl

sized_back : (file : VectorFile) (few first bits field : ℕ) → few ≤ bits → field < 2 ^ bits
    → sized_field file few first bits file (field % 2 ^ few) (first + field / 2 ^ few) ≡ Some field
unfolding sized_field
sized_back file few first bits field le lt =
    let p = sized-parts few bits field le lt in
    let suffix = first + field / 2 ^ few in
    let from : first ≤ suffix = omega arith in
    let back : suffix - first ≡ field / 2 ^ few = omega arith in
    ap (λ n. cond (same_vector_file file file && nat_lt (field % 2 ^ few) (2 ^ few) && nat_le first suffix
    && nat_lt n (2 ^ (bits - few))) (Some (n * 2 ^ few + field % 2 ^ few)) None) back
    ∙ ap (λ b. cond b (Some (field / 2 ^ few * 2 ^ few + field % 2 ^ few)) None)
    (and_from _ _
    (and_from _ _ (and_from _ _ (own_vector_file file) (lt-ltb (field % 2 ^ few) (2 ^ few) p.low)) (le-leb first suffix from))
    (lt-ltb (field / 2 ^ few) (2 ^ (bits - few)) p.high))
    ∙ ap Some p.whole

slice_back : (bits field : ℕ) → field < 2 ^ bits → slice_field bits W (12 + field) ≡ Some field
unfolding slice_field same_file
slice_back bits field lt =
    let le : 12 ≤ 12 + field = omega arith in
    let back : 12 + field - 12 ≡ field = omega arith in
    ap₂ (λ b n. cond (b && nat_lt n (2 ^ bits)) (Some n) None) (le-leb 12 (12 + field) le) back
    ∙ ap (λ b. cond b (Some field) None) (lt-ltb field (2 ^ bits) lt)

index_back : (bits field : ℕ) → field < 2 ^ bits → index_field bits field ≡ Some field
unfolding index_field
index_back bits field lt = ap (λ b. cond b (Some field) None) (lt-ltb field (2 ^ bits) lt)

-- a pattern has a word, the one after so many others, or none
pattern_word_back : (first field count : ℕ) → pattern_index field ≡ count → count < 17 → pattern_after count ≡ field
    → pattern_of_keyword first (first + pattern_index field) ≡ Some field
unfolding pattern_of_keyword
pattern_word_back first field count e lt back =
    ap (λ n. option_map pattern_after (keyword_field first 17 (first + n))) e
    ∙ ap (option_map pattern_after) (word_back first 17 count lt) ∙ ap Some back

pattern_back : (first : ℕ) (field : ℕ) → field < 32
    → on_pattern (pattern_of_keyword first) pattern_of_number
    (cond (is_named_pattern field) (Keyword (first + pattern_index field)) (Number false field))
    ≡ Some field
unfolding on_pattern pattern_of_number is_named_pattern pattern_index pattern_after
pattern_back first field lt = elim (cases_lt field 14) [
  | inl low ↦
      ap (λ b. said_pattern (b || nat_lt 28 field)) (lt-ltb field 14 low)
      ∙ pattern_word_back first field field (ap (λ b. cond b field (field - 15)) (lt-ltb field 14 low)) (omega arith)
      (ap (λ b. cond b field (field + 15)) (lt-ltb field 14 low))
  | inr high ↦ elim (cases_lt 28 field) [
    | inl top ↦
        let less : field - 15 < 17 = omega arith in
        let more : 14 ≤ field - 15 = omega arith in
        let back : field - 15 + 15 ≡ field = omega arith in
        ap₂ (λ a b. said_pattern (a || b)) (le-ltb field 14 high) (lt-ltb 28 field top)
        ∙ pattern_word_back first field (field - 15) (ap (λ b. cond b field (field - 15)) (le-ltb field 14 high)) less
        (ap (λ b. cond b (field - 15) (field - 15 + 15)) (le-ltb (field - 15) 14 more) ∙ back)
    | inr mid ↦
        ap₂ (λ a b. said_pattern (a || b)) (le-ltb field 14 high) (le-ltb 28 field mid)
        ∙ ap₂ (λ a b. cond (not (a || b)) (Some field) None) (le-ltb field 14 high) (le-ltb 28 field mid)
  ]
]
  where
    said_pattern : Bool → Option ℕ
    said_pattern b =
        on_pattern (pattern_of_keyword first) pattern_of_number (cond b (Keyword (first + pattern_index field)) (Number false field))

descending_back : (from bits field : ℕ) → field < from → field < 2 ^ bits → descending_field from bits false (from - field) ≡ Some field
unfolding descending_field
descending_back from bits field lt fits =
    let n = from - field in
    let some : 0 < n = omega arith in
    let le : n ≤ from = omega arith in
    let back : from - n ≡ field = omega arith in
    ap (λ m. cond (not false && nat_lt 0 n && nat_le n from && nat_lt m (2 ^ bits)) (Some m) None) back
    ∙ ap (λ b. cond b (Some field) None)
    (and_from _ _ (and_from _ _ (lt-ltb 0 n some) (le-leb n from le)) (lt-ltb field (2 ^ bits) fits))

-- ---- masks
mask_back : (wide : Bool) (bits field : ℕ) → field < 8192
    → are_mask_fields (field_of field 12 1 == 1) (field_of field 0 6) (field_of field 6 6) wide ≡ true
    → on_number (λ negative size. if negative then None else mask_field wide size) (mask_token (mask_in wide field)) ≡ Some field
unfolding on_number
mask_back wide bits field lt e =
    let g = mask-given wide field lt e in
    ap (λ o. on_number (λ negative size. if negative then None else mask_field wide size) (mask_token o)) g.given ∙ g.back

-- ---- any
pow_le_13 : (bits field : ℕ) → bits ≤ 13 → field < 2 ^ bits → field < 8192
pow_le_13 bits field le lt =
    let e : bits + (13 - bits) ≡ 13 = omega arith in
    let whole : 2 ^ bits * 2 ^ (13 - bits) ≡ 8192 = sym (pow-add 2 bits (13 - bits)) ∙ ap (λ n. 2 ^ n) e in
    let more = grow (2 ^ bits) (2 ^ (13 - bits)) (pow_pos (13 - bits)) in
    omega arith
  where
    grow : (a b : ℕ) → 0 < b → a ≤ a * b
    grow a zero h = absurd (omega arith)
    grow a (suc b) h = omega arith

below_32 : (bits field : ℕ) → bits ≡ 5 → field < 2 ^ bits → field < 32
below_32 bits field e lt = subst (λ n. field < 2 ^ n) e lt

punctuation_back : (c field bits : ℕ) → bits ≡ 0 → field < 2 ^ bits → cond (c == c) (Some 0) None ≡ Some field
punctuation_back c field bits e lt =
    let small : field < 2 ^ 0 = subst (λ n. field < 2 ^ n) e lt in
    let z : 0 ≡ field = omega arith in
    ap (λ b. cond b (Some 0) None) (eq-eqb c c refl) ∙ ap Some z

pub said-heard : (k : Kind) (bits field : ℕ) → is_printed_kind k bits ≡ true → is_within k field ≡ true → field < 2 ^ bits
    → field_said k bits (token_said k bits field) ≡ Some field
unfolding is_printed_kind is_within field_said token_said on_punctuation on_keyword on_register on_number on_target on_sized on_bare
said-heard (kind.Punctuation c) bits field p w lt = punctuation_back c field bits (eqb-true bits 0 p) lt
said-heard (kind.Keyword first count) bits field p w lt = word_back first count field (ltb-true field count w)
said-heard (kind.Register file last) bits field p w lt =
    register_back file last field (below_32 bits field (eqb-true bits 5 p) lt)
said-heard (kind.Sized file few first) bits field p w lt = sized_back file few first bits field (leb-true few bits p) lt
said-heard kind.SliceRegister bits field p w lt = slice_back bits field lt
said-heard kind.Index bits field p w lt = index_back bits field lt
said-heard (kind.Pattern first) bits field p w lt = pattern_back first field (ltb-true field 32 w)
said-heard (kind.Descending from) bits field p w lt = descending_back from bits field (ltb-true field from w) lt
said-heard (kind.Unsigned base scale most) bits field p w lt =
    unsigned_back base scale most field (ltb-true 0 scale p) (leb-true field most w)
said-heard (kind.Signed scale) bits field p w lt =
    let q = and_parts (nat_lt 0 scale) (nat_lt 0 bits) p in signed_back scale bits field (ltb-true 0 scale q.0) (ltb-true 0 bits q.1) lt
said-heard (kind.Distance scale) bits field p w lt =
    let q = and_parts (nat_lt 0 scale) (nat_lt 0 bits) p in signed_back scale bits field (ltb-true 0 scale q.0) (ltb-true 0 bits q.1) lt
said-heard (kind.Mask wide) bits field p w lt = mask_back wide bits field (pow_le_13 bits field (leb-true bits 13 p) lt) w
said-heard (kind.SignedMask wide) bits field p w lt = cc
said-heard (kind.ShiftLeft wide) bits field p w lt = cc
said-heard (kind.Opposite first count) bits field p w lt = cc
said-heard (kind.Halfword wide inverted) bits field p w lt = cc
