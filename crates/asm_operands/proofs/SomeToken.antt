-- A token that each kind takes, one that a kind takes for each number, and one that is a number.
use Rattle.std.proofs.Common.{◌≡◌, ℕ, ◌+◌, ◌-◌, ◌*◌, ◌/◌, ◌%◌, ◌^◌, ◌<◌, ◌≤◌, ◌==◌, ◌&&◌, not, Bool, true, false, nat_lt}
use Rattle.std.proofs.Common.{nat_le, Some, None, cond, refl, ap}
use Rattle.std.proofs.Common.{ap₂, ◌∙◌, arith, eq-eqb, ltb-true, lt-ltb, leb-true, le-leb, lit<}
use Rattle.std.specs.Prelude.{bit_xor, option_map, option_and_then}
use Rattle.std.proofs.lemmas.Bool.{and_parts}
use Rattle.std.proofs.lemmas.Nat.{pow_pos}
use Rattle.std.proofs.Math.Nat.{zero-mod, zero-div}
use Rattle.bit_ops.specs.Masks.{are_mask_fields}
use Rattle.insn_forms.specs.Fields.{field_of}
use Rattle.bit_ops.specs.Bits.{number_of_digits}
use Rattle.bit_ops.specs.Masks.{highest_one, length_of, is_reserved, bit_mask_of, mask_of as mask_of_fields}
use Rattle.insn_text.specs.declared.item.Kind.{Kind}
use Rattle.insn_text.specs.declared.item.Kind.TheVariants as kind
use Rattle.insn_text.specs.Texts.{mask_in, is_named_pattern}
use Rattle.insn_text.specs.Wordings.{file_number}
use Rattle.insn_text.specs.declared.item.RegisterFile.TheVariants.{W}
use Rattle.insn_text.specs.declared.item.VectorFile.{VectorFile}
use Rattle.insn_text.specs.Rules.{is_within}
use Rattle.asm_tokens.specs.Tokens.{is_number_token}
use Rattle.asm_tokens.specs.declared.token.Token.{Token}
use Rattle.asm_tokens.specs.declared.token.Token.TheVariants.{Register, Keyword, Name, Number, Distance, Punctuation}
use Rattle.asm_tokens.specs.declared.token.Token.TheVariants.{Sized, Bare}
use Rattle.asm_operands.specs.Fields.{is_field_of, on_punctuation, on_keyword, on_register, on_number, on_target, keyword_field}
use Rattle.asm_operands.specs.Fields.{unsigned_field}
use Rattle.asm_operands.specs.Fields.{signed_field, mask_field, immediate_of, shift_left_field, is_halfword_at, halfword_field, inverted_if}
use Rattle.asm_operands.specs.Fields.{on_sized, on_bare, on_pattern, same_file, same_vector_file, sized_field, slice_field, index_field}
use Rattle.asm_operands.specs.Fields.{pattern_of_number, descending_field, field_said}
use Rattle.asm_operands.specs.Shown.{token_said}
use Rattle.asm_operands.specs.Operands.{is_number_kind}
use Rattle.asm_operands.proofs.PrintedTokens.{register-said, last-said, is_printed_kind}
use Rattle.asm_operands.proofs.MaskFields.{mask_field-is}

-- ---- a token that each kind takes
pub record IsSaid (k : Kind) (bits : ℕ) : Type 0 where
  pub token : Token
  pub field : ℕ
  pub said : field_said k bits token ≡ Some field

unfoldable pub has_word : Kind → Bool
has_word (kind.Punctuation c) = true
has_word (kind.Keyword first count) = nat_lt 0 count
has_word (kind.Register file last) = true
has_word (kind.Sized file few first) = true
has_word kind.SliceRegister = true
has_word kind.Index = true
has_word (kind.Pattern first) = true
has_word (kind.Descending from) = nat_lt 0 from
has_word (kind.Unsigned base scale most) = true
has_word (kind.Signed scale) = true
has_word (kind.Distance scale) = true
has_word (kind.Mask wide) = true
has_word (kind.SignedMask wide) = true
has_word (kind.ShiftLeft wide) = true
has_word (kind.Opposite first count) = nat_lt 0 count
has_word (kind.Halfword wide inverted) = true

word_first : (first count : ℕ) → nat_lt 0 count ≡ true → keyword_field first count first ≡ Some 0
unfolding keyword_field
word_first first count e =
    let h = ltb-true 0 count e in
    let le : first ≤ first = omega arith in
    let lt : first < first + count = omega arith in
    let z : first - first ≡ 0 = omega arith in
    ap₂ (λ a b. cond (a && b) (Some (first - first)) None) (le-leb first first le) (lt-ltb first (first + count) lt) ∙ ap Some z

sized_first : (file : VectorFile) (few first bits : ℕ) → sized_field file few first bits file 0 first ≡ Some 0
unfolding sized_field same_vector_file
sized_first file few first bits =
    let le : first ≤ first = omega arith in
    let z : first - first ≡ 0 = omega arith in
    let none : 0 * 2 ^ few + 0 ≡ 0 = omega arith in
    ap₂ (λ a b. cond (a && b && nat_le first first && nat_lt (first - first) (2 ^ (bits - few)))
    (Some ((first - first) * 2 ^ few + 0)) None)
    (eq-eqb (file_number file) (file_number file) refl) (lt-ltb 0 (2 ^ few) (pow_pos few))
    ∙ ap₂ (λ b n. cond (b && nat_lt n (2 ^ (bits - few))) (Some (n * 2 ^ few + 0)) None) (le-leb first first le) z
    ∙ ap₂ (λ b n. cond b (Some n) None) (lt-ltb 0 (2 ^ (bits - few)) (pow_pos (bits - few))) none

slice_first : (bits : ℕ) → slice_field bits W 12 ≡ Some 0
unfolding slice_field same_file
slice_first bits = ap (λ b. cond b (Some 0) None) (lt-ltb 0 (2 ^ bits) (pow_pos bits))

index_first : (bits : ℕ) → index_field bits 0 ≡ Some 0
unfolding index_field
index_first bits = ap (λ b. cond b (Some 0) None) (lt-ltb 0 (2 ^ bits) (pow_pos bits))

pattern_first : pattern_of_number false 14 ≡ Some 14
unfolding pattern_of_number is_named_pattern
pattern_first = refl

descending_first : (from bits : ℕ) → nat_lt 0 from ≡ true → descending_field from bits false from ≡ Some 0
unfolding descending_field
descending_first from bits e =
    let le : from ≤ from = omega arith in
    let z : from - from ≡ 0 = omega arith in
    ap₂ (λ a b. cond (a && b && nat_lt (from - from) (2 ^ bits)) (Some (from - from)) None) e (le-leb from from le)
    ∙ ap (λ n. cond (nat_lt n (2 ^ bits)) (Some n) None) z
    ∙ ap (λ b. cond b (Some 0) None) (lt-ltb 0 (2 ^ bits) (pow_pos bits))

unsigned_first : (base scale most : ℕ) → unsigned_field base scale most false base ≡ Some 0
unfolding unsigned_field
unsigned_first base scale most =
    let le : base ≤ base = omega arith in
    let z : base - base ≡ 0 = omega arith in
    let lowest : 0 ≤ most = omega arith in
    ap₂ (λ b n. cond (b && (n % scale == 0) && nat_le (n / scale) most) (Some (n / scale)) None) (le-leb base base le) z
    ∙ ap₂ (λ r q. cond (true && (r == 0) && nat_le q most) (Some q) None) (zero-mod scale) (zero-div scale)
    ∙ ap (λ b. cond b (Some 0) None) (le-leb 0 most lowest)

signed_first : (bits scale : ℕ) → signed_field bits scale false 0 ≡ Some 0
unfolding signed_field
signed_first bits scale =
    ap₂ (λ r q. cond (not (r == 0)) None (cond (nat_lt q (2 ^ (bits - 1))) (Some q) None)) (zero-mod scale) (zero-div scale)
    ∙ ap (λ b. cond b (Some 0) None) (lt-ltb 0 (2 ^ (bits - 1)) (pow_pos (bits - 1)))

-- the mask of fields that are zero
zero_mask : Bool → ℕ
zero_mask true = 4294967297
zero_mask false = 1

zero_fields : (wide : Bool) → is_field_of wide (zero_mask wide) 0 ≡ true
unfolding zero_mask is_field_of mask_in are_mask_fields field_of bit_mask_of is_reserved mask_of_fields highest_one length_of
    number_of_digits
zero_fields true = refl
zero_fields false = refl

mask_first : (wide : Bool) → mask_field wide (zero_mask wide) ≡ Some 0
mask_first wide = mask_field-is wide (zero_mask wide) 0 (lit< tt) (zero_fields wide)

immediate_first : (wide : Bool) → immediate_of wide false (zero_mask wide) ≡ Some (zero_mask wide)
unfolding immediate_of zero_mask
immediate_first true = refl
immediate_first false = refl

no_shift : Bool → ℕ
no_shift true = 63
no_shift false = 31

shift_first : (wide : Bool) → shift_left_field wide false 0 ≡ Some (no_shift wide)
unfolding shift_left_field no_shift
shift_first true = refl
shift_first false = refl

-- the number whose bits, or whose inverted bits, are all zero
no_bits_size : Bool → ℕ
no_bits_size inverted = cond inverted 1 0

halfword_first : (wide inverted : Bool) → option_and_then (λ number. halfword_field wide (inverted_if wide inverted number))
    (immediate_of wide inverted (no_bits_size inverted)) ≡ Some 0
unfolding no_bits_size halfword_field is_halfword_at inverted_if immediate_of
halfword_first true true = refl
halfword_first true false = refl
halfword_first false true = refl
halfword_first false false = refl

pub said : (k : Kind) (bits : ℕ) → has_word k ≡ true → IsSaid k bits
unfolding has_word field_said on_punctuation on_keyword on_register on_number on_target on_sized on_bare on_pattern
said (kind.Punctuation c) bits e = record { token = Punctuation c; field = 0; said = ap (λ b. cond b (Some 0) None) (eq-eqb c c refl) }
said (kind.Keyword first count) bits e = record { token = Keyword first; field = 0; said = word_first first count e }
said (kind.Register file last) bits e = record { token = Keyword last; field = 31; said = last-said last }
said (kind.Sized file few first) bits e = record { token = Sized file 0 first; field = 0; said = sized_first file few first bits }
said kind.SliceRegister bits e = record { token = Register W 12; field = 0; said = slice_first bits }
said kind.Index bits e = record { token = Bare 0; field = 0; said = index_first bits }
said (kind.Pattern first) bits e = record { token = Number false 14; field = 14; said = pattern_first }
said (kind.Descending from) bits e = record { token = Number false from; field = 0; said = descending_first from bits e }
said (kind.Unsigned base scale most) bits e = record { token = Number false base; field = 0; said = unsigned_first base scale most }
said (kind.Signed scale) bits e = record { token = Number false 0; field = 0; said = signed_first bits scale }
said (kind.Distance scale) bits e = record { token = Name; field = 0; said = refl }
said (kind.Mask wide) bits e = record { token = Number false (zero_mask wide); field = 0; said = mask_first wide }
said (kind.SignedMask wide) bits e =
    record {
      token = Number false (zero_mask wide);
      field = 0;
      said = ap (option_and_then (mask_field wide)) (immediate_first wide)
          ∙ mask_first wide;
    }
said (kind.ShiftLeft wide) bits e = record { token = Number false 0; field = no_shift wide; said = shift_first wide }
said (kind.Opposite first count) bits e =
    record { token = Keyword first; field = 1; said = ap (option_map (λ field. bit_xor field 1)) (word_first first count e) }
said (kind.Halfword wide inverted) bits e =
    record { token = Number inverted (no_bits_size inverted); field = 0; said = halfword_first wide inverted }

-- ---- registers
unfoldable pub is_register : Kind → Bool
is_register (kind.Register file last) = true
is_register other = false

pub record SaysNumber (k : Kind) (bits number : ℕ) : Type 0 where
  pub token : Token
  pub said : field_said k bits token ≡ Some number

pub says_number : (k : Kind) (bits number : ℕ) → is_register k ≡ true → number < 31 → SaysNumber k bits number
unfolding is_register field_said on_register
says_number (kind.Register file last) bits number e lt = record { token = Register file number; said = register-said file number lt }
says_number other bits number e lt = cc

pub says_last : (k : Kind) (bits : ℕ) → is_register k ≡ true → SaysNumber k bits 31
unfolding is_register field_said on_register
says_last (kind.Register file last) bits e = record { token = Keyword last; said = last-said last }
says_last other bits e = cc

-- ---- each number of a field
-- the kind has a token for each number of its bits
unfoldable pub says_each : Kind → ℕ → Bool
says_each (kind.Sized file few first) bits = nat_le few bits
says_each kind.SliceRegister bits = true
says_each kind.Index bits = true
says_each (kind.Unsigned base scale most) bits = nat_lt 0 scale && nat_le (2 ^ bits) (most + 1)
says_each other bits = false

pub each_printed : (k : Kind) (bits : ℕ) → says_each k bits ≡ true → is_printed_kind k bits ≡ true
unfolding says_each is_printed_kind
each_printed (kind.Sized file few first) bits e = e
each_printed kind.SliceRegister bits e = refl
each_printed kind.Index bits e = refl
each_printed (kind.Unsigned base scale most) bits e = (and_parts (nat_lt 0 scale) (nat_le (2 ^ bits) (most + 1)) e).0
each_printed other bits e = cc

pub each_within : (k : Kind) (bits field : ℕ) → says_each k bits ≡ true → field < 2 ^ bits → is_within k field ≡ true
unfolding says_each is_within
each_within (kind.Sized file few first) bits field e lt = refl
each_within kind.SliceRegister bits field e lt = refl
each_within kind.Index bits field e lt = refl
each_within (kind.Unsigned base scale most) bits field e lt =
    let all = leb-true (2 ^ bits) (most + 1) (and_parts (nat_lt 0 scale) (nat_le (2 ^ bits) (most + 1)) e).1 in
    le-leb field most (omega arith)
each_within other bits field e lt = cc

pub each_number : (k : Kind) (bits field : ℕ) → says_each k bits ≡ true → is_number_kind k ≡ true
    → is_number_token (token_said k bits field) ≡ true
unfolding says_each is_number_kind token_said is_number_token
each_number (kind.Sized file few first) bits field e n = cc
each_number kind.SliceRegister bits field e n = cc
each_number kind.Index bits field e n = refl
each_number (kind.Unsigned base scale most) bits field e n = refl
each_number other bits field e n = cc

-- ---- numbers
pub record IsNumberSaid (k : Kind) (bits : ℕ) : Type 0 where
  pub token : Token
  pub number : is_number_token token ≡ true
  pub field : ℕ
  pub said : field_said k bits token ≡ Some field

pub number_said : (k : Kind) (bits : ℕ) → is_number_kind k ≡ true → has_word k ≡ true → IsNumberSaid k bits
unfolding is_number_kind has_word is_number_token field_said on_number on_target on_bare on_pattern
number_said kind.Index bits e h = record { token = Bare 0; number = refl; field = 0; said = index_first bits }
number_said (kind.Pattern first) bits e h = record { token = Number false 14; number = refl; field = 14; said = pattern_first }
number_said (kind.Descending from) bits e h =
    record { token = Number false from; number = refl; field = 0; said = descending_first from bits h }
number_said (kind.Unsigned base scale most) bits e h =
    record { token = Number false base; number = refl; field = 0; said = unsigned_first base scale most }
number_said (kind.Signed scale) bits e h = record { token = Number false 0; number = refl; field = 0; said = signed_first bits scale }
number_said (kind.Distance scale) bits e h = record { token = Distance false 0; number = refl; field = 0; said = signed_first bits scale }
number_said (kind.Mask wide) bits e h = record { token = Number false (zero_mask wide); number = refl; field = 0; said = mask_first wide }
number_said (kind.SignedMask wide) bits e h =
    record {
      token = Number false (zero_mask wide);
      number = refl;
      field = 0;
      said = ap (option_and_then (mask_field wide)) (immediate_first wide) ∙ mask_first wide;
    }
number_said (kind.ShiftLeft wide) bits e h =
    record { token = Number false 0; number = refl; field = no_shift wide; said = shift_first wide }
number_said (kind.Halfword wide inverted) bits e h =
    record { token = Number inverted (no_bits_size inverted); number = refl; field = 0; said = halfword_first wide inverted }
number_said k bits e h = cc
