-- The text of a printed word is read as the tokens of its operands.
use Rattle.std.proofs.Common.{◌≡◌, ℕ, ◌+◌, ◌-◌, ◌*◌, ◌/◌, ◌%◌, ◌^◌, ◌<◌, ◌≤◌, Bool, true, false, not, ◌&&◌, ◌||◌, ◌==◌, nat_lt, nat_le}
use Rattle.std.proofs.Common.{List, [], ◌∷◌}
use Rattle.std.proofs.Common.{◌++◌, Option, Some, None, length, map, cond, refl, sym, ap, ap₂, ◌∙◌, arith, subst, eqb-true, ltb-true}
use Rattle.std.proofs.Common.{leb-true, lit<, inl, inr}
use Rattle.std.specs.Prelude.{is_some, decimal}
use Rattle.std.specs.List.{list_all}
use Rattle.std.proofs.Math.Nat.{mul-le-mul_right}
use Rattle.std.proofs.Math.Pow.{pow_mono}
use Rattle.std.proofs.lemmas.Bool.{and_parts, and_from, cond_both, not-true, not_from_false, or_cases, or_left, or_right, cases_Bool}
use Rattle.std.proofs.lemmas.Bool.{eqb-false}
use Rattle.bit_ops.specs.Bits.{width_of}
use Rattle.bit_ops.specs.Masks.{is_reserved, mask_of, bit_mask_of}
use Rattle.bit_ops.specs.Sums.{bool_number}
use Rattle.bit_ops.proofs.Digits.{number-lt}
use Rattle.insn_forms.specs.Fields.{field_of}
use Rattle.insn_text.specs.declared.item.Kind.{Kind}
use Rattle.insn_text.specs.declared.item.Kind.TheVariants as kind
use Rattle.insn_text.specs.declared.item.RegisterFile.{RegisterFile}
use Rattle.insn_text.specs.declared.item.RegisterFile.TheVariants.{W}
use Rattle.insn_text.specs.declared.item.VectorFile.{VectorFile}
use Rattle.insn_text.specs.declared.item.Item.{Item}
use Rattle.insn_text.specs.declared.item.Shape.{Shape}
use Rattle.insn_text.specs.declared.shapes.TheConstants.{SHAPES}
use Rattle.insn_text.specs.declared.keywords.TheConstants.{KEYWORDS, MNEMONICS}
use Rattle.insn_text.specs.Texts.{text_in, text_at, is_positive, size_of, mask_in, mask_text, signed_text, distance_text, file_text}
use Rattle.insn_text.specs.Texts.{register_text, kind_text, bits_of, field_in, item_text, is_punctuation, is_comma, gap, items_text}
use Rattle.insn_text.specs.Texts.{items_in, items_of}
use Rattle.insn_text.specs.Texts.{sized_text, is_named_pattern, pattern_index, pattern_text}
use Rattle.insn_text.specs.Rules.{is_within, meets, is_sayable}
use Rattle.asm_tokens.specs.declared.token.Token.TheVariants as token
use Rattle.asm_tokens.specs.Characters.{is_name_character, is_digit, is_blank, starts_comment}
use Rattle.line_reader.specs.Numbers.{is_decimal, decimal_number}
use Rattle.asm_tokens.specs.Tokens.{vector_file_of, file_size, has_suffix, sized_of, sized_after, begins_za, sized_in}
use Rattle.asm_tokens.specs.Tokens.{index_in, file_of, register_of, register_in, lexemes_from, lexemes_of}
use Rattle.asm_tokens.proofs.Following.{lexemes-blank}
use Rattle.asm_operands.specs.Shown.{mask_token, token_said, item_token}
use Rattle.asm_operands.proofs.MaskFields.{all_below, all_below-at, mask-given}
use Rattle.asm_operands.proofs.Failing.{failing, none-failing}
use Rattle.insn_forms.proofs.Bits.{field_in-lt}
use Rattle.asm_parser.proofs.Operands.{tokens_of}
use Rattle.asm_parser.proofs.Reading.{opens, no_slash, IsRead, lexemes-read, is_plain, word-read, register-is-read, number-is-read}
use Rattle.asm_parser.proofs.Reading.{negative-is-read, forward-is-read, back-is-read, mask-is-read, is_clean_punctuation}
use Rattle.asm_parser.proofs.Reading.{clean_punctuation}
use Rattle.asm_parser.proofs.Reading.{character-is-read, bare-is-read}
use Rattle.asm_operands.proofs.Registers.{sized-parts}
use Rattle.asm_operands.proofs.Apart.{pattern-lt}
use Rattle.asm_parser.proofs.Registers.{finds, finds-true, suffix_between, sized-is-read}

-- ---- the tables

-- the word is plain, and stands at its place alone
unfoldable pub is_good_word : ℕ → Bool
is_good_word index =
    (is_plain (text_at KEYWORDS index) && finds index (index_in KEYWORDS (text_at KEYWORDS index)))
    && (not (is_some (register_in (text_at KEYWORDS index))) && not (is_some (sized_in (text_at KEYWORDS index))))

words_good : all_below is_good_word (length KEYWORDS) ≡ true
unfolding all_below is_good_word is_plain finds index_in text_in is_name_character is_digit register_in register_of file_of sized_in
    sized_after sized_of begins_za vector_file_of is_decimal decimal_number
words_good = refl

unfoldable pub is_good_name : ℕ → Bool
is_good_name index = is_plain (text_at MNEMONICS index) && finds index (index_in MNEMONICS (text_at MNEMONICS index))

pub names_good : all_below is_good_name (length MNEMONICS) ≡ true
unfolding all_below is_good_name is_plain finds index_in text_in is_name_character is_digit
names_good = refl

-- the file has each register of so many bits, and each suffix that the bits above these give
unfoldable pub is_clean_sized : VectorFile → ℕ → ℕ → ℕ → Bool
is_clean_sized file few first bits =
    (nat_le few bits && nat_le (2 ^ few) (file_size file))
    && (nat_le (first + 2 ^ (bits - few)) 16 && (has_suffix file first && has_suffix file (first + 2 ^ (bits - few) - 1)))

-- the kind is printed as texts that are read
unfoldable pub is_clean_kind : Kind → ℕ → Bool
is_clean_kind (kind.Punctuation c) bits = is_clean_punctuation c
is_clean_kind (kind.Keyword first count) bits = nat_le (first + count) (length KEYWORDS)
is_clean_kind (kind.Register file last) bits = (bits == 5) && nat_lt last (length KEYWORDS)
is_clean_kind (kind.Sized file few first) bits = is_clean_sized file few first bits
is_clean_kind kind.SliceRegister bits = nat_le bits 2
is_clean_kind kind.Index bits = nat_le bits 64
is_clean_kind (kind.Pattern first) bits = nat_le (first + 17) (length KEYWORDS)
is_clean_kind (kind.Descending from) bits = nat_lt from (2 ^ 64)
is_clean_kind (kind.Unsigned base scale most) bits = nat_lt (most * scale + base) (2 ^ 64)
is_clean_kind (kind.Signed scale) bits = nat_lt (2 ^ bits * scale) (2 ^ 64)
is_clean_kind (kind.Distance scale) bits = nat_lt (2 ^ bits * scale) (2 ^ 64)
is_clean_kind (kind.Mask wide) bits = (bits == 13) || (bits == 12)
is_clean_kind (kind.SignedMask wide) bits = false
is_clean_kind (kind.ShiftLeft wide) bits = false
is_clean_kind (kind.Opposite first count) bits = false
is_clean_kind (kind.Halfword wide inverted) bits = false

unfoldable pub is_clean_item : Item → Bool
is_clean_item i = is_clean_kind i.kind (bits_of i)

-- the kind is a `/`
unfoldable pub is_slash : Kind → Bool
is_slash (kind.Punctuation c) = c == 47
is_slash other = false

-- no `/` follows another, the first of them after one of that kind
unfoldable pub are_slashes_apart : Kind → List Item → Bool
are_slashes_apart before [] = true
are_slashes_apart before (i ∷ is) = not (is_slash before && is_slash i.kind) && are_slashes_apart i.kind is

unfoldable pub is_clean_shape : Shape → Bool
is_clean_shape s = s.alias || (list_all is_clean_item (items_of s) && are_slashes_apart (kind.Punctuation 44) (items_of s))

clean_failing : failing is_clean_shape 0 SHAPES ≡ []
unfolding failing is_clean_shape items_in items_of is_clean_item is_clean_kind is_clean_sized file_size has_suffix is_clean_punctuation
    is_slash
    are_slashes_apart is_name_character is_digit is_blank
clean_failing = refl

pub shapes_clean : list_all is_clean_shape SHAPES ≡ true
shapes_clean = none-failing is_clean_shape 0 SHAPES clean_failing

-- ---- masks

bool_number-lt : (b : Bool) → bool_number b < 2
bool_number-lt true = lit< tt
bool_number-lt false = lit< tt

width-le : (wide : Bool) (m : ℕ) → m < 2 ^ width_of wide → m < 2 ^ 64
width-le true m lt = lt
width-le false m lt = omega arith

bit_mask-lt : (n : Bool) (imms immr : ℕ) (wide : Bool) (m : ℕ) → bit_mask_of n imms immr wide ≡ Some m → m < 2 ^ 64
unfolding bit_mask_of mask_of
bit_mask-lt n imms immr wide m e =
    elim (is_reserved n imms wide) as (λ b. cond b None (Some (mask_of n imms immr wide)) ≡ Some m → m < 2 ^ 64) [
      | true ↦ λ h. cc
      | false ↦ λ h.
          let same : mask_of n imms immr wide ≡ m = cc in
          subst (λ k. k < 2 ^ 64) same (width-le wide (mask_of n imms immr wide) (number-lt _ (width_of wide) (λ i l. bool_number-lt _)))
    ] e

mask_in-lt : (wide : Bool) (field m : ℕ) → mask_in wide field ≡ Some m → m < 2 ^ 64
unfolding mask_in
mask_in-lt wide field m e = bit_mask-lt (field_of field 12 1 == 1) (field_of field 0 6) (field_of field 6 6) wide m e

-- ---- kinds

none_of : {A : Type 0} (o : Option A) → not (is_some o) ≡ true → o ≡ None
none_of None e = refl
none_of (Some a) e = cc

module _ (rest : List ℕ) (o : opens rest ≡ true) where
  index-read : (index : ℕ) → index < length KEYWORDS → IsRead false (text_at KEYWORDS index) rest (token.Keyword index)
  unfolding is_good_word
  index-read index lt =
      let g =
      and_parts (is_plain (text_at KEYWORDS index) && finds index (index_in KEYWORDS (text_at KEYWORDS index)))
      (not (is_some (register_in (text_at KEYWORDS index))) && not (is_some (sized_in (text_at KEYWORDS index))))
      (all_below-at is_good_word (length KEYWORDS) index words_good lt) in
      let q = and_parts (not (is_some (register_in (text_at KEYWORDS index)))) (not (is_some (sized_in (text_at KEYWORDS index)))) g.1 in
      let p = and_parts (is_plain (text_at KEYWORDS index)) (finds index (index_in KEYWORDS (text_at KEYWORDS index))) g.0 in
      word-read (text_at KEYWORDS index) rest index p.0 (none_of (register_in (text_at KEYWORDS index)) q.0)
      (none_of (sized_in (text_at KEYWORDS index)) q.1) (finds-true index _ p.1) o

  register-read : (file : RegisterFile) (last field : ℕ) → last < length KEYWORDS → field < 32
      → IsRead false (register_text file last field) rest (cond (field == 31) (token.Keyword last) (token.Register file field))
  unfolding register_text
  register-read file last field a lt =
      elim (field == 31) as (λ b. field == 31 ≡ b
      → IsRead false (cond b (text_at KEYWORDS last) (file_text file ++ decimal field)) rest
      (cond b (token.Keyword last) (token.Register file field))) [
        | true ↦ λ e. index-read last a
        | false ↦ λ e. (let ne : field ≡ 31 → ⊥ = eqb-false field 31 e in register-is-read file field rest (omega arith) o)
      ] refl

  signed-read : (positive : Bool) (n : ℕ) → n < 2 ^ 64 → IsRead false (signed_text positive n) rest (token.Number (not positive) n)
  unfolding signed_text
  signed-read true n lt = number-is-read n rest lt o
  signed-read false n lt = negative-is-read n rest lt o

  distance-read : (positive : Bool) (n : ℕ) → n < 2 ^ 64 → IsRead false (distance_text positive n) rest (token.Distance (not positive) n)
  unfolding distance_text
  distance-read true n lt = forward-is-read n rest lt o
  distance-read false n lt = back-is-read n rest lt o

  mask-read : (wide : Bool) (field : ℕ) → field < 8192 → is_within (kind.Mask wide) field ≡ true
      → IsRead false (mask_text (mask_in wide field)) rest (mask_token (mask_in wide field))
  unfolding is_within mask_text
  mask-read wide field lt e =
      let g = mask-given wide field lt e in
      subst (λ m. IsRead false (mask_text m) rest (mask_token m)) (sym g.given)
      (mask-is-read g.mask rest (mask_in-lt wide field g.mask g.given) o)

sized-read : (file : VectorFile) (few first bits field : ℕ) (rest : List ℕ) → is_clean_sized file few first bits ≡ true
    → field < 2 ^ bits → opens rest ≡ true
    → IsRead false (sized_text file (field % 2 ^ few) (first + field / 2 ^ few)) rest
    (token.Sized file (field % 2 ^ few) (first + field / 2 ^ few))
unfolding is_clean_sized
sized-read file few first bits field rest e lt o =
    let last = first + 2 ^ (bits - few) - 1 in
    let p = and_parts (nat_le few bits && nat_le (2 ^ few) (file_size file)) _ e in
    let q = and_parts (nat_le few bits) (nat_le (2 ^ few) (file_size file)) p.0 in
    let r = and_parts (nat_le (first + 2 ^ (bits - few)) 16) (has_suffix file first && has_suffix file last) p.1 in
    let s = and_parts (has_suffix file first) (has_suffix file last) r.1 in
    let parts = sized-parts few bits field (leb-true few bits q.0) lt in
    let size = leb-true (2 ^ few) (file_size file) q.1 in
    let all = leb-true (first + 2 ^ (bits - few)) 16 r.0 in
    sized-is-read file (field % 2 ^ few) (first + field / 2 ^ few) rest (omega (arith, parts.low, size))
    (suffix_between file first last (first + field / 2 ^ few) s.0 s.1 (omega arith) (omega (arith, parts.high)))
    (omega (arith, parts.high, all)) o

-- a register from W12 on
slice-few : (bits field : ℕ) → bits ≤ 2 → field < 2 ^ bits → field < 4
slice-few bits field le lt = let most : 2 ^ bits ≤ 2 ^ 2 = pow_mono le in omega arith

-- a number of few bits is small
few-small : (bits field : ℕ) → bits ≤ 64 → field < 2 ^ bits → field < 2 ^ 64
few-small bits field le lt = let most : 2 ^ bits ≤ 2 ^ 64 = pow_mono le in omega arith

pattern-read : (first field : ℕ) (rest : List ℕ) → first + 17 ≤ length KEYWORDS → field < 32 → opens rest ≡ true
    → IsRead false (pattern_text first field) rest
    (cond (is_named_pattern field) (token.Keyword (first + pattern_index field)) (token.Number false field))
unfolding pattern_text
pattern-read first field rest le lt o =
    elim (is_named_pattern field) as (λ b.
    IsRead false (cond b (text_at KEYWORDS (first + pattern_index field)) (35 ∷ decimal field)) rest
    (cond b (token.Keyword (first + pattern_index field)) (token.Number false field))) [
      | true ↦ index-read rest o (first + pattern_index field) (omega (arith, pattern-lt field lt, le))
      | false ↦ number-is-read field rest (omega arith) o
    ]

size-small : (bits scale field : ℕ) → nat_lt (2 ^ bits * scale) (2 ^ 64) ≡ true → field < 2 ^ bits → size_of bits field * scale < 2 ^ 64
unfolding size_of
size-small bits scale field e lt =
    let top = ltb-true (2 ^ bits * scale) (2 ^ 64) e in
    let a : field ≤ 2 ^ bits = omega arith in
    let b : 2 ^ bits - field ≤ 2 ^ bits = omega arith in
    cond_both (is_positive bits field) field (2 ^ bits - field) (λ m. m * scale < 2 ^ 64)
    (λ _. let h : field * scale ≤ 2 ^ bits * scale = mul-le-mul_right scale a in omega arith)
    (λ _. let h : (2 ^ bits - field) * scale ≤ 2 ^ bits * scale = mul-le-mul_right scale b in omega arith)

few_bits : (bits field : ℕ) → ((bits == 13) || (bits == 12)) ≡ true → field < 2 ^ bits → field < 8192
few_bits bits field e lt =
    elim (or_cases (bits == 13) (bits == 12) e) [
      | inl h ↦ subst (λ n. field < 2 ^ n) (eqb-true bits 13 h) lt
      | inr h ↦ (let small : field < 2 ^ 12 = subst (λ n. field < 2 ^ n) (eqb-true bits 12 h) lt in omega arith)
    ]

kind-read : (k : Kind) (bits field : ℕ) (rest : List ℕ) → is_clean_kind k bits ≡ true → is_within k field ≡ true → field < 2 ^ bits
    → (is_punctuation k || opens rest) ≡ true
    → IsRead (is_slash k) (kind_text k bits field) rest (token_said k bits field)
unfolding is_clean_kind is_within is_punctuation is_slash kind_text token_said file_text
kind-read (kind.Punctuation c) bits field rest e w lt o = character-is-read c rest e
kind-read (kind.Keyword first count) bits field rest e w lt o =
    let a = leb-true (first + count) (length KEYWORDS) e in
    let b = ltb-true field count w in
    index-read rest o (first + field) (omega arith)
kind-read (kind.Register file last) bits field rest e w lt o =
    let p = and_parts (bits == 5) (nat_lt last (length KEYWORDS)) e in
    register-read rest o file last field (ltb-true last (length KEYWORDS) p.1) (subst (λ n. field < 2 ^ n) (eqb-true bits 5 p.0) lt)
kind-read (kind.Sized file few first) bits field rest e w lt o = sized-read file few first bits field rest e lt o
kind-read kind.SliceRegister bits field rest e w lt o =
    register-is-read W (12 + field) rest (omega (arith, slice-few bits field (leb-true bits 2 e) lt)) o
kind-read kind.Index bits field rest e w lt o = bare-is-read field rest (few-small bits field (leb-true bits 64 e) lt) o
kind-read (kind.Pattern first) bits field rest e w lt o =
    pattern-read first field rest (leb-true (first + 17) (length KEYWORDS) e) (ltb-true field 32 w) o
kind-read (kind.Descending from) bits field rest e w lt o =
    let small = ltb-true from (2 ^ 64) e in number-is-read (from - field) rest (omega arith) o
kind-read (kind.Unsigned base scale most) bits field rest e w lt o =
    let top = ltb-true (most * scale + base) (2 ^ 64) e in
    let h : field * scale ≤ most * scale = mul-le-mul_right scale (leb-true field most w) in
    number-is-read (field * scale + base) rest (omega arith) o
kind-read (kind.Signed scale) bits field rest e w lt o =
    signed-read rest o (is_positive bits field) (size_of bits field * scale) (size-small bits scale field e lt)
kind-read (kind.Distance scale) bits field rest e w lt o =
    distance-read rest o (is_positive bits field) (size_of bits field * scale) (size-small bits scale field e lt)
kind-read (kind.Mask wide) bits field rest e w lt o = mask-read rest o wide field (few_bits bits field e lt) w
kind-read (kind.SignedMask wide) bits field rest e w lt o = cc
kind-read (kind.ShiftLeft wide) bits field rest e w lt o = cc
kind-read (kind.Opposite first count) bits field rest e w lt o = cc
kind-read (kind.Halfword wide inverted) bits field rest e w lt o = cc

item-read : (word : ℕ) (i : Item) (rest : List ℕ) → is_clean_item i ≡ true → is_sayable word i ≡ true
    → (is_punctuation i.kind || opens rest) ≡ true
    → IsRead (is_slash i.kind) (item_text word i) rest (item_token word i)
unfolding is_clean_item is_sayable item_text item_token
item-read word i rest e s o =
    kind-read i.kind (bits_of i) (field_in i word) rest e (and_parts (is_within i.kind (field_in i word)) (meets i.rule word) s).0
    (field_in-lt i.field word) o

-- ---- operands

no_comma : (k : Kind) → is_punctuation k ≡ false → is_comma k ≡ false
unfolding is_punctuation is_comma
no_comma (kind.Punctuation c) e = cc
no_comma k e = refl

-- what stands before an operand that follows none that is a mark is no character of a name
abbrev after_gap : Kind → List ℕ → List ℕ
after_gap j ys = cond (not (is_punctuation j)) (32 ∷ []) [] ++ ys

opens-gap : (j : Kind) (bits field : ℕ) (ys : List ℕ) → is_clean_kind j bits ≡ true
    → opens (after_gap j (kind_text j bits field ++ ys)) ≡ true
unfolding is_clean_kind is_punctuation kind_text opens is_name_character is_digit
opens-gap (kind.Punctuation c) bits field ys e = not_from_false _ (clean_punctuation c e).no_name
opens-gap j bits field ys e = refl

gap-no_punctuation : (k j : Kind) → is_punctuation k ≡ false → gap k j ≡ cond (not (is_punctuation j)) (32 ∷ []) []
unfolding gap
gap-no_punctuation k j e = ap₂ (λ a b. cond (a || (not b && not (is_punctuation j))) (32 ∷ []) []) (no_comma k e) e

opens-items : (word : ℕ) (k : Kind) (is : List Item) → is_punctuation k ≡ false → list_all is_clean_item is ≡ true
    → opens (items_text word k is) ≡ true
unfolding items_text opens is_clean_item item_text
opens-items word k [] e a = refl
opens-items word k (j ∷ js) e a =
    ap (λ g. opens (g ++ (item_text word j ++ items_text word j.kind js))) (gap-no_punctuation k j.kind e)
    ∙ opens-gap j.kind (bits_of j) (field_in j word) (items_text word j.kind js)
    (and_parts (is_clean_item j) (list_all is_clean_item js) a).0

opens-after : (word : ℕ) (k : Kind) (is : List Item) → list_all is_clean_item is ≡ true
    → (is_punctuation k || opens (items_text word k is)) ≡ true
opens-after word k is a =
    elim (cases_Bool (is_punctuation k)) [
      | inl e ↦ or_left _ _ e
      | inr e ↦ or_right (is_punctuation k) _ (opens-items word k is e a)
    ]

-- the blank between two operands says nothing
gap-skipped : (at : ℕ) (k j : Kind) (ys : List ℕ) → lexemes_of at (gap k j ++ ys) ≡ lexemes_of (at + length (gap k j)) ys
unfolding gap is_blank
gap-skipped at k j ys =
    cond_both (is_comma k || (not (is_punctuation k) && not (is_punctuation j))) (32 ∷ []) []
    (λ g. lexemes_of at (g ++ ys) ≡ lexemes_of (at + length g) ys)
    (λ _. lexemes-blank at 32 ys refl) (λ _. ap (λ n. lexemes_of n ys) (omega arith))

-- ---- comments

-- no comment begins in the text
unfoldable pub is_uncommented : List ℕ → Bool
is_uncommented [] = true
is_uncommented (c ∷ cs) = not (starts_comment c cs) && is_uncommented cs

starts_none : (c : ℕ) (cs : List ℕ) → no_slash c ≡ true → starts_comment c cs ≡ false
starts_none c [] e = refl
starts_none c (d ∷ ds) e = ap (λ b. b && (d == 47)) (not-true (c == 47) e)

pub uncommented-append : (xs ys : List ℕ) → list_all no_slash xs ≡ true → is_uncommented ys ≡ true → is_uncommented (xs ++ ys) ≡ true
unfolding is_uncommented
uncommented-append [] ys a b = b
uncommented-append (x ∷ xs) ys a b =
    let p = and_parts (no_slash x) (list_all no_slash xs) a in
    and_from _ _ (not_from_false _ (starts_none x (xs ++ ys) p.0)) (uncommented-append xs ys p.1 b)

-- a `/` begins no comment where no other stands behind it
unfoldable begins_slash : List ℕ → Bool
begins_slash [] = false
begins_slash (c ∷ cs) = c == 47

after_slash : (cs : List ℕ) → begins_slash cs ≡ false → is_uncommented cs ≡ true → is_uncommented (47 ∷ cs) ≡ true
unfolding is_uncommented begins_slash
after_slash [] e a = refl
after_slash (c ∷ cs) e a = and_from _ _ (not_from_false _ e) a

gap-uncommented : (k j : Kind) (ys : List ℕ) → is_uncommented ys ≡ true → is_uncommented (gap k j ++ ys) ≡ true
unfolding gap
gap-uncommented k j ys e =
    cond_both (is_comma k || (not (is_punctuation k) && not (is_punctuation j))) (32 ∷ []) [] (λ g. is_uncommented (g ++ ys) ≡ true)
    (λ _. uncommented-append (32 ∷ []) ys refl e) (λ _. e)

slash-text : (k : Kind) (bits field : ℕ) → is_slash k ≡ true → kind_text k bits field ≡ 47 ∷ []
unfolding is_slash kind_text
slash-text (kind.Punctuation c) bits field e = ap (λ d. d ∷ []) (eqb-true c 47 e)
slash-text k bits field e = cc

slash-is_punctuation : (k : Kind) → is_slash k ≡ true → (is_punctuation k ≡ true) × (is_comma k ≡ false)
unfolding is_slash is_punctuation is_comma
slash-is_punctuation (kind.Punctuation c) e = (refl, ap (λ d. d == 44) (eqb-true c 47 e))
slash-is_punctuation k e = cc

-- no blank stands behind a `/`
slash-gap : (k j : Kind) → is_slash k ≡ true → gap k j ≡ []
unfolding gap
slash-gap k j e =
    let m = slash-is_punctuation k e in ap₂ (λ a b. cond (a || (not b && not (is_punctuation j))) (32 ∷ []) []) m.1 m.0

plain-first : (xs ys : List ℕ) (first : ℕ) (others : List ℕ) → xs ≡ first ∷ others → list_all no_slash xs ≡ true
    → begins_slash (xs ++ ys) ≡ false
unfolding begins_slash
plain-first [] ys first others w a = cc
plain-first (x ∷ xs) ys first others w a = not-true (x == 47) (and_parts (no_slash x) (list_all no_slash xs) a).0

module _ (word : ℕ) where
  -- the tokens of the operands are those that are shown
  pub items-read : (is : List Item) (k : Kind) (at : ℕ) → list_all is_clean_item is ≡ true → list_all (is_sayable word) is ≡ true
      → tokens_of (lexemes_of at (items_text word k is)) ≡ map (item_token word) is
  unfolding items_text lexemes_from
  items-read [] k at a s = refl
  items-read (i ∷ is) k at a s =
      let p = and_parts (is_clean_item i) (list_all is_clean_item is) a in
      let q = and_parts (is_sayable word i) (list_all (is_sayable word) is) s in
      let rest = items_text word i.kind is in
      let text = item_text word i in
      let from = at + length (gap k i.kind) in
      ap tokens_of (gap-skipped at k i.kind (text ++ rest))
      ∙ ap tokens_of (lexemes-read (is_slash i.kind) text rest (item_token word i) from
      (item-read word i rest p.0 q.0 (opens-after word i.kind is p.1)))
      ∙ ap (λ ts. item_token word i ∷ ts) (items-read is i.kind (from + length text) p.1 q.1)

  module _ (i : Item) (is : List Item) (clean : list_all is_clean_item (i ∷ is) ≡ true)
      (sayable : list_all (is_sayable word) (i ∷ is) ≡ true) where
    first-read : IsRead (is_slash i.kind) (item_text word i) (items_text word i.kind is) (item_token word i)
    first-read =
        let p = and_parts (is_clean_item i) (list_all is_clean_item is) clean in
        let q = and_parts (is_sayable word i) (list_all (is_sayable word) is) sayable in
        item-read word i (items_text word i.kind is) p.0 q.0 (opens-after word i.kind is p.1)

    -- no `/` stands behind a `/`
    slash-behind : (k : Kind) → is_slash k ≡ true → are_slashes_apart k (i ∷ is) ≡ true → begins_slash (items_text word k (i ∷ is)) ≡ false
    unfolding items_text are_slashes_apart
    slash-behind k e a =
        let p = and_parts (not (is_slash k && is_slash i.kind)) (are_slashes_apart i.kind is) a in
        let other : is_slash i.kind ≡ false = not-true (is_slash i.kind) (ap (λ b. not (b && is_slash i.kind)) (sym e) ∙ p.0) in
        ap (λ g. begins_slash (g ++ (item_text word i ++ items_text word i.kind is))) (slash-gap k i.kind e)
        ∙ plain-first (item_text word i) (items_text word i.kind is) first-read.first first-read.others first-read.whole
        (first-read.plain other)

  behind : (is : List Item) (k : Kind) → list_all is_clean_item is ≡ true → list_all (is_sayable word) is ≡ true → is_slash k ≡ true
      → are_slashes_apart k is ≡ true → begins_slash (items_text word k is) ≡ false
  unfolding items_text begins_slash
  behind [] k a s e f = refl
  behind (i ∷ is) k a s e f = slash-behind i is a s k e f

  -- no comment begins in the text of the operands
  pub items-uncommented : (is : List Item) (k : Kind) → list_all is_clean_item is ≡ true → list_all (is_sayable word) is ≡ true
      → are_slashes_apart k is ≡ true → is_uncommented (items_text word k is) ≡ true
  unfolding items_text is_uncommented are_slashes_apart item_text
  items-uncommented [] k a s f = refl
  items-uncommented (i ∷ is) k a s f =
      let p = and_parts (is_clean_item i) (list_all is_clean_item is) a in
      let q = and_parts (is_sayable word i) (list_all (is_sayable word) is) s in
      let r = and_parts (not (is_slash k && is_slash i.kind)) (are_slashes_apart i.kind is) f in
      let rest = items_text word i.kind is in
      let others = items-uncommented is i.kind p.1 q.1 r.1 in
      gap-uncommented k i.kind (item_text word i ++ rest)
      (elim (cases_Bool (is_slash i.kind)) [
        | inl e ↦
            ap (λ xs. is_uncommented (xs ++ rest)) (slash-text i.kind (bits_of i) (field_in i word) e)
            ∙ after_slash rest (behind is i.kind p.1 q.1 e r.1) others
        | inr e ↦ uncommented-append (item_text word i) rest ((first-read i is a s).plain e) others
      ])
