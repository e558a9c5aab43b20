-- Shapes that no tokens of another shape are taken by.
use Rattle.std.proofs.Common.{◌≡◌, ℕ, ◌+◌, ◌-◌, ◌*◌, ◌/◌, ◌%◌, ◌^◌, ◌<◌, ◌≤◌, ◌==◌, ◌&&◌, ◌||◌, not, Bool, true, false, nat_lt, nat_le}
use Rattle.std.proofs.Common.{bit_and, List}
use Rattle.std.proofs.Common.{[], ◌∷◌, map, Option, Some, None, cond, refl, ap, ◌∙◌, arith, inl, inr, ltb-true, leb-true}
use Rattle.std.specs.Prelude.{bit_or, option_map, bit_xor}
use Rattle.std.specs.List.{list_all}
use Rattle.std.proofs.lemmas.Bool.{and_parts, or_cases, cond_both, le-ltb, lt-leb, not-true}
use Rattle.plain_lemmas.proofs.Tests.{and-false}
use borrow.Author.Tests.{ne_eqb}
use Rattle.insn_text.specs.declared.item.RegisterFile.{RegisterFile}
use Rattle.insn_text.specs.declared.item.RegisterFile.TheVariants.{W}
use Rattle.insn_text.specs.declared.item.VectorFile.{VectorFile}
use Rattle.insn_text.specs.declared.item.Kind.{Kind}
use Rattle.insn_text.specs.declared.item.Kind.TheVariants as kind
use Rattle.insn_text.specs.declared.item.Item.{Item}
use Rattle.insn_text.specs.declared.item.Shape.{Shape}
use Rattle.insn_text.specs.Texts.{bits_of, field_in, items_of, mask_in, is_positive, size_of, is_named_pattern, pattern_index}
use Rattle.insn_text.specs.Rules.{is_within, meets, is_sayable}
use Rattle.asm_tokens.specs.declared.token.Token.TheVariants.{Register, Keyword, Number, Distance, Punctuation, Other}
use Rattle.asm_tokens.specs.declared.token.Token.TheVariants.{Sized, Bare}
use Rattle.asm_operands.specs.Fields.{on_punctuation, on_keyword, on_register, on_number, on_target, keyword_field, same_file}
use Rattle.asm_operands.specs.Fields.{register_field}
use Rattle.asm_operands.specs.Fields.{last_field, field_said, on_sized, on_bare, on_pattern, same_vector_file, sized_field}
use Rattle.asm_operands.specs.Fields.{slice_field, pattern_after, pattern_of_keyword}
use Rattle.asm_operands.specs.Operands.{PartialWord, partial_with, partial_after, taken_on, taken, fixed, word_in, mask_of}
use Rattle.asm_operands.specs.Shown.{mask_token, token_said, item_token, tokens_shown}
use Rattle.insn_forms.proofs.Bits.{field_in-lt}
use Rattle.asm_operands.proofs.WordBits.{covers, upper_mask, lower_mask}
use Rattle.asm_operands.proofs.PrintedTokens.{is_printed_kind}
use Rattle.asm_operands.proofs.Registers.{sized-parts}
use Rattle.asm_operands.proofs.OwnTokens.{is_printed_item, says_rest}

-- ---- what a kind may be said by
unfoldable pub is_said_by_punctuation : Kind → ℕ → Bool
is_said_by_punctuation (kind.Punctuation c) d = d == c
is_said_by_punctuation other d = false

unfoldable pub is_said_by_number : Kind → Bool
is_said_by_number (kind.Unsigned base scale most) = true
is_said_by_number (kind.Signed scale) = true
is_said_by_number (kind.Mask wide) = true
is_said_by_number (kind.SignedMask wide) = true
is_said_by_number (kind.ShiftLeft wide) = true
is_said_by_number (kind.Halfword wide inverted) = true
is_said_by_number (kind.Pattern first) = true
is_said_by_number (kind.Descending from) = true
is_said_by_number other = false

unfoldable pub is_said_by_distance : Kind → Bool
is_said_by_distance (kind.Distance scale) = true
is_said_by_distance other = false

unfoldable pub is_said_by_bare : Kind → Bool
is_said_by_bare kind.Index = true
is_said_by_bare other = false

unfoldable pub is_said_by_register : RegisterFile → Kind → Bool
is_said_by_register file (kind.Register wanted last) = same_file wanted file
is_said_by_register file (kind.Distance scale) = true
is_said_by_register file kind.SliceRegister = same_file W file
is_said_by_register file other = false

-- the kind is said by none of the words from a place on to before another
unfoldable pub is_apart_from_words : ℕ → ℕ → Kind → Bool
is_apart_from_words low high (kind.Keyword first count) = nat_le high first || nat_le (first + count) low
is_apart_from_words low high (kind.Register file last) = nat_le high last || nat_lt last low
is_apart_from_words low high (kind.Distance scale) = false
is_apart_from_words low high (kind.Opposite first count) = nat_le high first || nat_le (first + count) low
is_apart_from_words low high (kind.Pattern first) = nat_le high first || nat_le (first + 17) low
is_apart_from_words low high other = true

-- the kind, of so many bits, is said by no register of the file with one of the suffixes from an index on to
-- before another
unfoldable pub is_apart_from_sized : VectorFile → ℕ → ℕ → Kind → ℕ → Bool
is_apart_from_sized file low high (kind.Sized wanted few first) bits =
    not (same_vector_file wanted file) || (nat_le high first || nat_le (first + 2 ^ (bits - few)) low)
is_apart_from_sized file low high (kind.Distance scale) bits = false
is_apart_from_sized file low high other bits = true

-- no token that the first kind is printed as says a field of the second, each of so many bits
unfoldable pub kinds_apart : Kind → ℕ → Kind → ℕ → Bool
kinds_apart (kind.Punctuation c) bits l other = not (is_said_by_punctuation l c)
kinds_apart (kind.Keyword first count) bits l other = is_apart_from_words first (first + count) l
kinds_apart (kind.Register file last) bits l other = is_apart_from_words last (last + 1) l && not (is_said_by_register file l)
kinds_apart (kind.Unsigned base scale most) bits l other = not (is_said_by_number l)
kinds_apart (kind.Signed scale) bits l other = not (is_said_by_number l)
kinds_apart (kind.Distance scale) bits l other = not (is_said_by_distance l)
kinds_apart (kind.Mask wide) bits l other = not (is_said_by_number l)
kinds_apart (kind.Sized file few first) bits l other =
    is_apart_from_sized file first (first + 2 ^ (bits - few)) l other
kinds_apart kind.SliceRegister bits l other = not (is_said_by_register W l)
kinds_apart kind.Index bits l other = not (is_said_by_bare l)
kinds_apart (kind.Pattern first) bits l other = is_apart_from_words first (first + 17) l && not (is_said_by_number l)
kinds_apart (kind.Descending from) bits l other = not (is_said_by_number l)
kinds_apart alias_alone bits l other = true

deaf-character : (l : Kind) (bits d : ℕ) → is_said_by_punctuation l d ≡ false → field_said l bits (Punctuation d) ≡ None
unfolding is_said_by_punctuation field_said on_punctuation on_keyword on_register on_number on_target on_sized on_bare on_pattern
deaf-character (kind.Punctuation c) bits d e = ap (λ b. cond b (Some 0) None) e
deaf-character other bits d e = refl

deaf-number : (l : Kind) (bits size : ℕ) (negative : Bool) → is_said_by_number l ≡ false → field_said l bits (Number negative size) ≡ None
unfolding is_said_by_number field_said on_punctuation on_keyword on_register on_number on_target on_sized on_bare on_pattern
deaf-number (kind.Unsigned base scale most) bits size negative e = cc
deaf-number (kind.Signed scale) bits size negative e = cc
deaf-number (kind.Mask wide) bits size negative e = cc
deaf-number (kind.SignedMask wide) bits size negative e = cc
deaf-number (kind.ShiftLeft wide) bits size negative e = cc
deaf-number (kind.Halfword wide inverted) bits size negative e = cc
deaf-number (kind.Pattern first) bits size negative e = cc
deaf-number (kind.Descending from) bits size negative e = cc
deaf-number other bits size negative e = refl

deaf-distance : (l : Kind) (bits size : ℕ) (back : Bool) → is_said_by_distance l ≡ false → field_said l bits (Distance back size) ≡ None
unfolding is_said_by_distance field_said on_punctuation on_keyword on_register on_number on_target on_sized on_bare on_pattern
deaf-distance (kind.Distance scale) bits size back e = cc
deaf-distance other bits size back e = refl

deaf-bare : (l : Kind) (bits size : ℕ) → is_said_by_bare l ≡ false → field_said l bits (Bare size) ≡ None
unfolding is_said_by_bare field_said on_punctuation on_keyword on_register on_number on_target on_sized on_bare on_pattern
deaf-bare kind.Index bits size e = cc
deaf-bare other bits size e = refl

deaf-other : (l : Kind) (bits : ℕ) → field_said l bits Other ≡ None
unfolding field_said on_punctuation on_keyword on_register on_number on_target on_sized on_bare on_pattern
deaf-other (kind.Punctuation c) bits = refl
deaf-other other bits = refl

-- ---- words
word-none : (first count low high index : ℕ) → (nat_le high first || nat_le (first + count) low) ≡ true → low ≤ index → index < high
    → keyword_field first count index ≡ None
unfolding keyword_field
word-none first count low high index e le lt = elim (or_cases (nat_le high first) (nat_le (first + count) low) e) [
  | inl above ↦
      let h = leb-true high first above in
      let less : index < first = omega arith in
      ap (λ b. cond (b && nat_lt index (first + count)) (Some (index - first)) None) (lt-leb first index less)
  | inr below ↦
      let h = leb-true (first + count) low below in
      let more : first + count ≤ index = omega arith in
      ap (λ b. cond (nat_le first index && b) (Some (index - first)) None) (le-ltb index (first + count) more)
      ∙ ap (λ b. cond b (Some (index - first)) None) (and-false (nat_le first index))
]

pattern-none : (first low high index : ℕ) → (nat_le high first || nat_le (first + 17) low) ≡ true → low ≤ index → index < high
    → pattern_of_keyword first index ≡ None
unfolding pattern_of_keyword
pattern-none first low high index e le lt = ap (option_map pattern_after) (word-none first 17 low high index e le lt)

last-none : (last low high index : ℕ) → (nat_le high last || nat_lt last low) ≡ true → low ≤ index → index < high
    → last_field last index ≡ None
unfolding last_field
last-none last low high index e le lt =
    let other : (index ≡ last) → ⊥ = elim (or_cases (nat_le high last) (nat_lt last low) e) [
      | inl above ↦ (let h = leb-true high last above in λ s. omega arith)
      | inr below ↦ (let h = ltb-true last low below in λ s. omega arith)
    ] in
    ap (λ b. cond b (Some 31) None) (ne_eqb index last other)

deaf-register : (l : Kind) (bits number : ℕ) (file : RegisterFile) → is_said_by_register file l ≡ false
    → field_said l bits (Register file number) ≡ None
unfolding is_said_by_register field_said on_punctuation on_keyword on_register on_number on_target on_sized on_bare on_pattern
    register_field
    slice_field
deaf-register (kind.Register wanted last) bits number file e = ap (λ b. cond (b && nat_lt number 31) (Some number) None) e
deaf-register (kind.Distance scale) bits number file e = cc
deaf-register kind.SliceRegister bits number file e =
    ap (λ b. cond (b && nat_le 12 number && nat_lt (number - 12) (2 ^ bits)) (Some (number - 12)) None) e
deaf-register other bits number file e = refl

deaf-word : (l : Kind) (bits low high index : ℕ) → is_apart_from_words low high l ≡ true → low ≤ index → index < high
    → field_said l bits (Keyword index) ≡ None
unfolding is_apart_from_words field_said on_punctuation on_keyword on_register on_number on_target on_sized on_bare on_pattern
deaf-word (kind.Keyword first count) bits low high index e le lt = word-none first count low high index e le lt
deaf-word (kind.Register file last) bits low high index e le lt = last-none last low high index e le lt
deaf-word (kind.Distance scale) bits low high index e le lt = cc
deaf-word (kind.Opposite first count) bits low high index e le lt =
    ap (option_map (λ field. bit_xor field 1)) (word-none first count low high index e le lt)
deaf-word (kind.Pattern first) bits low high index e le lt = pattern-none first low high index e le lt
deaf-word other bits low high index e le lt = refl

-- ---- registers with a size
sized-none : (file : VectorFile) (low high : ℕ) (wanted : VectorFile) (few first bits number suffix : ℕ)
    → (not (same_vector_file wanted file) || (nat_le high first || nat_le (first + 2 ^ (bits - few)) low)) ≡ true
    → low ≤ suffix → suffix < high
    → sized_field wanted few first bits file number suffix ≡ None
unfolding sized_field
sized-none file low high wanted few first bits number suffix e le lt =
    let made : Bool → Option ℕ = λ b. cond b (Some ((suffix - first) * 2 ^ few + number)) None in
    let own = nat_lt number (2 ^ few) in
    elim (or_cases (not (same_vector_file wanted file)) (nat_le high first || nat_le (first + 2 ^ (bits - few)) low) e) [
      | inl other ↦ ap (λ b. made (b && own && nat_le first suffix && nat_lt (suffix - first) (2 ^ (bits - few)))) (not-true _ other)
      | inr apart ↦ elim (or_cases (nat_le high first) (nat_le (first + 2 ^ (bits - few)) low) apart) [
        | inl above ↦
            let h = leb-true high first above in
            let less : suffix < first = omega arith in
            ap (λ b. made (same_vector_file wanted file && own && b && nat_lt (suffix - first) (2 ^ (bits - few))))
            (lt-leb first suffix less)
            ∙ ap (λ b. made (b && nat_lt (suffix - first) (2 ^ (bits - few)))) (and-false (same_vector_file wanted file && own))
        | inr below ↦
            let h = leb-true (first + 2 ^ (bits - few)) low below in
            let more : 2 ^ (bits - few) ≤ suffix - first = omega arith in
            ap (λ b. made (same_vector_file wanted file && own && nat_le first suffix && b))
            (le-ltb (suffix - first) (2 ^ (bits - few)) more)
            ∙ ap made (and-false (same_vector_file wanted file && own && nat_le first suffix))
      ]
    ]

deaf-sized : (l : Kind) (bits low high number suffix : ℕ) (file : VectorFile)
    → is_apart_from_sized file low high l bits ≡ true → low ≤ suffix
    → suffix < high → field_said l bits (Sized file number suffix) ≡ None
unfolding is_apart_from_sized field_said on_punctuation on_keyword on_register on_number on_target on_sized on_bare on_pattern
deaf-sized (kind.Sized wanted few first) bits low high number suffix file e le lt =
    sized-none file low high wanted few first bits number suffix e le lt
deaf-sized (kind.Distance scale) bits low high number suffix file e le lt = cc
deaf-sized other bits low high number suffix file e le lt = refl

-- ---- two kinds
deaf-mask : (l : Kind) (bits : ℕ) (o : Option ℕ) → is_said_by_number l ≡ false → field_said l bits (mask_token o) ≡ None
deaf-mask l bits None e = deaf-other l bits
deaf-mask l bits (Some mask) e = deaf-number l bits mask false e

-- a pattern's word is one of 17
pub pattern-lt : (field : ℕ) → field < 32 → pattern_index field < 17
unfolding pattern_index
pattern-lt field lt =
    cond_both (nat_lt field 14) field (field - 15) (λ n. n < 17) (λ e. let h = ltb-true field 14 e in omega arith) (λ _. omega arith)

pub kinds-apart : (k l : Kind) (bits other field : ℕ) → is_printed_kind k bits ≡ true → is_within k field ≡ true → field < 2 ^ bits
    → kinds_apart k bits l other ≡ true → field_said l other (token_said k bits field) ≡ None
unfolding is_printed_kind is_within kinds_apart token_said
kinds-apart (kind.Punctuation c) l bits other field p w lt e = deaf-character l other c (not-true (is_said_by_punctuation l c) e)
kinds-apart (kind.Keyword first count) l bits other field p w lt e =
    let less = ltb-true field count w in deaf-word l other first (first + count) (first + field) e (omega arith) (omega arith)
kinds-apart (kind.Register file last) l bits other field p w lt e =
    let q = and_parts (is_apart_from_words last (last + 1) l) (not (is_said_by_register file l)) e in
    cond_both (field == 31) (Keyword last) (Register file field) (λ t. field_said l other t ≡ None)
    (λ _. deaf-word l other last (last + 1) last q.0 (omega arith) (omega arith))
    (λ _. deaf-register l other field file (not-true _ q.1))
kinds-apart (kind.Unsigned base scale most) l bits other field p w lt e =
    deaf-number l other (field * scale + base) false (not-true (is_said_by_number l) e)
kinds-apart (kind.Signed scale) l bits other field p w lt e =
    deaf-number l other (size_of bits field * scale) (not (is_positive bits field)) (not-true (is_said_by_number l) e)
kinds-apart (kind.Distance scale) l bits other field p w lt e =
    deaf-distance l other (size_of bits field * scale) (not (is_positive bits field)) (not-true (is_said_by_distance l) e)
kinds-apart (kind.Mask wide) l bits other field p w lt e = deaf-mask l other (mask_in wide field) (not-true (is_said_by_number l) e)
kinds-apart (kind.Sized file few first) l bits other field p w lt e =
    let q = sized-parts few bits field (leb-true few bits p) lt in
    deaf-sized l other first (first + 2 ^ (bits - few)) (field % 2 ^ few) (first + field / 2 ^ few) file e (omega arith)
    (omega (arith, q.high))
kinds-apart kind.SliceRegister l bits other field p w lt e = deaf-register l other (12 + field) W (not-true _ e)
kinds-apart kind.Index l bits other field p w lt e = deaf-bare l other field (not-true _ e)
kinds-apart (kind.Pattern first) l bits other field p w lt e =
    let q = and_parts (is_apart_from_words first (first + 17) l) (not (is_said_by_number l)) e in
    cond_both (is_named_pattern field) (Keyword (first + pattern_index field)) (Number false field) (λ t. field_said l other t ≡ None)
    (λ _. deaf-word l other first (first + 17) (first + pattern_index field) q.0 (omega arith)
    (omega (arith, pattern-lt field (ltb-true field 32 w))))
    (λ _. deaf-number l other field false (not-true _ q.1))
kinds-apart (kind.Descending from) l bits other field p w lt e = deaf-number l other (from - field) false (not-true (is_said_by_number l) e)
kinds-apart (kind.SignedMask wide) l bits other field p w lt e = deaf-other l other
kinds-apart (kind.ShiftLeft wide) l bits other field p w lt e = deaf-other l other
kinds-apart (kind.Opposite first count) l bits other field p w lt e = deaf-other l other
kinds-apart (kind.Halfword wide inverted) l bits other field p w lt e = deaf-other l other

-- ---- two lists of operands
unfoldable pub apart : List Item → List Item → Bool
apart [] [] = false
apart [] (j ∷ js) = true
apart (i ∷ is) [] = true
apart (i ∷ is) (j ∷ js) = kinds_apart i.kind (bits_of i) j.kind (bits_of j) || apart is js

after-none : (i j : Item) (w : ℕ) (partial : PartialWord) → is_printed_item i ≡ true → is_sayable w i ≡ true
    → kinds_apart i.kind (bits_of i) j.kind (bits_of j) ≡ true
    → partial_after j partial (item_token w i) ≡ None
unfolding partial_after partial_with item_token is_printed_item is_sayable
after-none i j w partial p e a =
    ap (partial_with j partial) (kinds-apart i.kind j.kind (bits_of i) (bits_of j) (field_in i w)
    (and_parts (is_printed_kind i.kind (bits_of i)) (bit_and (upper_mask i) (lower_mask i) == 0) p).0
    (and_parts (is_within i.kind (field_in i w)) (meets i.rule w) e).0 (field_in-lt i.field w) a)

nothing_after : (on : PartialWord → Option ℕ) (o : Option PartialWord) → ((k : PartialWord) → on k ≡ None) → taken_on on o ≡ None
nothing_after on None f = refl
nothing_after on (Some k) f = f k

pub apart-none : (is js : List Item) (mask w : ℕ) (partial : PartialWord) → apart is js ≡ true → says_rest is mask ≡ true
    → list_all (is_sayable w) is ≡ true → taken js partial (map (item_token w) is) ≡ None
unfolding apart taken says_rest
apart-none [] [] mask w partial a s e = cc
apart-none [] (j ∷ js) mask w partial a s e = refl
apart-none (i ∷ is) [] mask w partial a s e = refl
apart-none (i ∷ is) (j ∷ js) mask w partial a s e =
    let p = and_parts (is_printed_item i) (covers i.rule (bit_or mask (mask_of i)) && says_rest is (bit_or mask (mask_of i))) s in
    let q = and_parts (covers i.rule (bit_or mask (mask_of i))) (says_rest is (bit_or mask (mask_of i))) p.1 in
    let r = and_parts (is_sayable w i) (list_all (is_sayable w) is) e in
    elim (or_cases (kinds_apart i.kind (bits_of i) j.kind (bits_of j)) (apart is js) a) [
      | inl here ↦ ap (taken_on (λ next. taken js next (map (item_token w) is))) (after-none i j w partial p.0 r.0 here)
      | inr later ↦ nothing_after (λ next. taken js next (map (item_token w) is)) (partial_after j partial (item_token w i))
          (λ k. apart-none is js (bit_or mask (mask_of i)) w k later q.1 r.1)
    ]

pub shapes-apart : (s r : Shape) (w : ℕ) → apart (items_of s) (items_of r) ≡ true → says_rest (items_of s) s.mask ≡ true
    → list_all (is_sayable w) (items_of s) ≡ true → word_in r (tokens_shown s w) ≡ None
unfolding word_in tokens_shown
shapes-apart s r w a p e = apart-none (items_of s) (items_of r) s.mask w (fixed r) a p e
