-- No text passes 95 bytes.
use Rattle.std.proofs.Common.{◌≡◌, ℕ, zero, suc, ◌+◌, ◌-◌, ◌*◌, ◌/◌, ◌%◌, ◌^◌, ◌<◌, ◌≤◌, Bool, true, false, not, ◌&&◌, ◌||◌, ◌==◌, nat_lt}
use Rattle.std.proofs.Common.{nat_le, cond, max, List, [], ◌∷◌, ◌++◌, Option, Some, None, slice_get, length, take, drop, decimal, refl, sym}
use Rattle.std.proofs.Common.{ap}
use Rattle.std.proofs.Common.{◌∙◌, arith, subst, lit<, ltb-true, leb-true, eq-eqb, eqb-true, length-append}
use Rattle.std.specs.List.{find, list_all}
use Rattle.std.specs.Str.{IsAscii}
use Rattle.std.specs.Fmt.{digits, digits_onto, digit_glyph}
use Rattle.std.proofs.lemmas.Fmt.{length-decimal-le}
use Rattle.std.specs.Prelude.{codes}
use Rattle.std.proofs.lemmas.Nat.{mod_below, pow_below, pow-add, pow_pos}
use Rattle.std.proofs.lemmas.Bool.{and_parts, cond_both}
use Rattle.std.proofs.Math.Nat.{mul-le-mul_left, pow-suc}
use Rattle.plain_lemmas.proofs.Lists.{list_all-get, list_all-drop, list_all-take}
use Rattle.bit_ops.specs.Bits.{width_of, number_of_digits}
use Rattle.bit_ops.specs.Sums.{bool_number}
use Rattle.bit_ops.specs.Masks.{bit_mask_of, is_reserved, mask_of, turn_of, size_of as element_size, ones_of}
use Rattle.bit_ops.proofs.Digits.{number-lt}
use Rattle.bit_ops.proofs.MaskBits.{bool_number-lt}
use Rattle.insn_forms.specs.Fields.{field_of}
use Rattle.insn_forms.proofs.Bits.{field_in-lt}
use Rattle.insn_text.specs.declared.item.Kind.{Kind}
use Rattle.insn_text.specs.declared.item.Kind.TheVariants.{Punctuation, Keyword, Register, Unsigned, Signed, Distance, Mask, SignedMask}
use Rattle.insn_text.specs.declared.item.Kind.TheVariants.{ShiftLeft}
use Rattle.insn_text.specs.declared.item.Kind.TheVariants.{Opposite, Halfword, Sized, SliceRegister, Index, Pattern, Descending}
use Rattle.insn_text.specs.declared.item.VectorFile.{VectorFile}
use Rattle.insn_text.specs.declared.item.VectorFile.TheVariants as vector
use Rattle.insn_text.specs.declared.item.RegisterFile.{RegisterFile}
use Rattle.insn_text.specs.declared.item.RegisterFile.TheVariants.{X, W}
use Rattle.insn_text.specs.declared.item.Item.{Item}
use Rattle.insn_text.specs.declared.item.Shape.{Shape}
use Rattle.insn_text.specs.declared.item.Text.{Text}
use Rattle.insn_text.specs.declared.keywords.TheConstants.{KEYWORDS, MNEMONICS, SUFFIXES}
use Rattle.insn_text.specs.declared.item.ItemList.{ItemList}
use Rattle.insn_text.specs.declared.item.ItemList.TheVariants as list
use Rattle.insn_text.specs.declared.shapes.TheConstants.{SHAPES}
use Rattle.insn_text.specs.Texts.{text_in, text_at, is_positive, size_of, hexadecimal, mask_in, mask_text, signed_text, distance_text}
use Rattle.insn_text.specs.Texts.{file_text, register_text, vector_file_text, sized_text, is_named_pattern, pattern_index, pattern_text}
use Rattle.insn_text.specs.Texts.{kind_text, bits_of, field_in, item_text, is_punctuation, is_comma, gap, items_text}
use Rattle.insn_text.specs.Texts.{items_in, items_of, shape_text, prints, printed_shape}
use Rattle.insn_text.specs.Indices.{is_sized}
use Rattle.insn_text.proofs.Sizes.{sizes}
use Rattle.insn_text.proofs.Tables.{items_sized}

-- ---- words and names

unfoldable is_short_text : Text → Bool
is_short_text t = nat_le (length (take t.length t.bytes)) 10

words_short : list_all is_short_text KEYWORDS ≡ true
unfolding is_short_text
words_short = refl

names_short : list_all is_short_text MNEMONICS ≡ true
unfolding is_short_text
names_short = refl

short_in : (texts : List Text) (index : ℕ) (o : Option Text) → slice_get texts index ≡ o → list_all is_short_text texts ≡ true
    → length (text_in o) ≤ 10
unfolding text_in is_short_text
short_in texts index None g e = omega arith
short_in texts index (Some t) g e = leb-true (length (take t.length t.bytes)) 10 (list_all-get is_short_text texts index t e g)

word_short : (index : ℕ) → length (text_at KEYWORDS index) ≤ 10
word_short index = short_in KEYWORDS index (slice_get KEYWORDS index) refl words_short

name_short : (index : ℕ) → length (text_at MNEMONICS index) ≤ 10
name_short index = short_in MNEMONICS index (slice_get MNEMONICS index) refl names_short

-- ---- numbers

decimal_short : (n : ℕ) → n < 2 ^ 49 → length (decimal n) ≤ 15
decimal_short n lt =
    let fits : n < 2 ^ 64 = omega arith in
    let few : n < 10 ^ 15 = omega arith in
    length-decimal-le 15 n (lit< tt) few fits

product_small : (a b : ℕ) → a ≤ 2 ^ 31 → b < 2 ^ 16 → a * b ≤ 2 ^ 47
product_small a b h k =
    let one : a * b ≤ a * 2 ^ 16 = mul-le-mul_left a (let le : b ≤ 2 ^ 16 = omega arith in le) in
    omega arith

size_small : (bits field : ℕ) → bits < 31 → field < 2 ^ 31 → size_of bits field ≤ 2 ^ 31
unfolding size_of
size_small bits field b f =
    let p = pow_below bits 31 b in
    cond_both (is_positive bits field) field (2 ^ bits - field) (λ n. n ≤ 2 ^ 31) (λ _. omega arith) (λ _. omega arith)

pub onto_ascii : (k n : ℕ) (acc : List ℕ) → IsAscii acc → IsAscii (digits_onto k 16 false n acc)
onto_ascii zero n acc h = h
onto_ascii (suc k) n acc h =
    let glyph : digit_glyph false (n % 16) < 128 = glyph_ascii (n % 16) (mod_below n 16 (lit< tt)) in
    let more = ascii_cons (digit_glyph false (n % 16)) acc glyph h in
    cond_both (n / 16 == 0) (digit_glyph false (n % 16) ∷ acc) (digits_onto k 16 false (n / 16) (digit_glyph false (n % 16) ∷ acc)) IsAscii
    (λ _. more) (λ _. onto_ascii k (n / 16) (digit_glyph false (n % 16) ∷ acc) more)
  where
    glyph_ascii : (d : ℕ) → d < 16 → digit_glyph false d < 128
    glyph_ascii d lt = cond_both (nat_lt d 10) (48 + d) (87 + d) (λ g. g < 128) (λ _. omega arith) (λ _. omega arith)

    ascii_cons : (b : ℕ) (bs : List ℕ) → b < 128 → IsAscii bs → IsAscii (b ∷ bs)
    ascii_cons b bs lt h zero = lt
    ascii_cons b bs lt h (suc i) = h i

pub hexadecimal_ascii : (n : ℕ) → IsAscii (hexadecimal n)
unfolding digits
hexadecimal_ascii n = onto_ascii 64 n [] (λ i. lit< tt)

onto_length : (k j n : ℕ) (acc : List ℕ) → n < 16 ^ suc k → length (digits_onto j 16 false n acc) ≤ suc k + length acc
onto_length k zero n acc lt = omega arith
onto_length zero (suc j) n acc lt =
    let none_left : n / 16 ≡ 0 = omega arith in
    let test = eq-eqb (n / 16) 0 none_left in
    let e =
    ap (λ b. length (cond b (digit_glyph false (n % 16) ∷ acc) (digits_onto j 16 false (n / 16) (digit_glyph false (n % 16) ∷ acc))))
    test in
    omega (arith, e)
onto_length (suc k) (suc j) n acc lt =
    let more : n < 16 ^ suc k * 16 = subst (λ (m : ℕ). n < m) (pow-suc 16 (suc k)) lt in
    let fewer : n / 16 < 16 ^ suc k = omega arith in
    let rest = onto_length k j (n / 16) (digit_glyph false (n % 16) ∷ acc) fewer in
    cond_both (n / 16 == 0) (digit_glyph false (n % 16) ∷ acc) (digits_onto j 16 false (n / 16) (digit_glyph false (n % 16) ∷ acc))
    (λ (ds : List ℕ). length ds ≤ suc (suc k) + length acc)
    (λ _. omega arith) (λ _. omega (arith, rest))

mask_small : (n : Bool) (imms immr : ℕ) (wide : Bool) → mask_of n imms immr wide < 2 ^ 64
unfolding mask_of
mask_small n imms immr wide =
    within wide (λ i. bool_number (nat_le ((i + turn_of n imms immr) % element_size n imms) (ones_of n imms)))
    (λ i. bool_number-lt (nat_le ((i + turn_of n imms immr) % element_size n imms) (ones_of n imms)))
  where
    within : (w : Bool) (f : ℕ → ℕ) → ((i : ℕ) → f i < 2) → number_of_digits 2 f (width_of w) < 2 ^ 64
    within true f h = number-lt f 64 (λ i _. h i)
    within false f h = let lt : number_of_digits 2 f 32 < 2 ^ 32 = number-lt f 32 (λ i _. h i) in omega (arith, lt)

hexadecimal_length : (n : ℕ) → n < 2 ^ 64 → length (hexadecimal n) ≤ 16
unfolding digits
hexadecimal_length n lt = onto_length 15 64 n [] lt

mask_length : (o : Option ℕ) → ((m : ℕ) → o ≡ Some m → m < 2 ^ 64) → length (mask_text o) ≤ 19
unfolding mask_text
mask_length None h = omega arith
mask_length (Some m) h = omega (arith, hexadecimal_length m (h m refl))

mask_in_small : (wide : Bool) (field m : ℕ) → mask_in wide field ≡ Some m → m < 2 ^ 64
unfolding mask_in bit_mask_of
mask_in_small wide field m e =
    let n = field_of field 12 1 == 1 in
    let imms = field_of field 0 6 in
    let immr = field_of field 6 6 in
    by_test (is_reserved n imms wide) (mask_of n imms immr wide) (mask_small n imms immr wide) e
  where
    by_test : (b : Bool) (mask : ℕ) → mask < 2 ^ 64 → cond b None (Some mask) ≡ Some m → m < 2 ^ 64
    by_test true mask lt h = cc
    by_test false mask lt h = let same : mask ≡ m = cc in subst (λ (k : ℕ). k < 2 ^ 64) same lt

-- ---- operands

-- the numbers of a kind with so many bits are those of 16 bits, and those of registers and slices have two digits
unfoldable is_small : Kind → ℕ → Bool
is_small (Punctuation c) bits = true
is_small (Keyword first count) bits = true
is_small (Register file last) bits = nat_le bits 5
is_small (Sized file number_bits suffix) bits = nat_le number_bits 5
is_small SliceRegister bits = nat_le bits 2
is_small Index bits = nat_le bits 4
is_small (Pattern first) bits = nat_le bits 5
is_small (Descending from) bits = nat_lt from 100
is_small (Unsigned base scale most) bits = nat_lt base 65536 && nat_lt scale 65536
is_small (Signed scale) bits = nat_lt scale 65536
is_small (Distance scale) bits = nat_lt scale 65536
is_small (Mask wide) bits = true
is_small (SignedMask wide) bits = true
is_small (ShiftLeft wide) bits = true
is_small (Opposite first count) bits = true
is_small (Halfword wide inverted) bits = true

-- the most bytes of an operand's text
unfoldable room_of : Kind → ℕ → ℕ
room_of (Punctuation c) bits = 1
room_of (Keyword first count) bits = cond (bits == 0) (length (text_at KEYWORDS first)) 10
room_of (Register file last) bits = max 3 (length (text_at KEYWORDS last))
room_of (Sized file number_bits suffix) bits = 7
room_of SliceRegister bits = 3
room_of Index bits = 2
room_of (Pattern first) bits = 10
room_of (Descending from) bits = 3
room_of (Unsigned base scale most) bits = cond (bits == 0) (1 + length (decimal base)) 16
room_of (Signed scale) bits = 17
room_of (Distance scale) bits = 17
room_of (Mask wide) bits = 19
room_of (SignedMask wide) bits = 0
room_of (ShiftLeft wide) bits = 0
room_of (Opposite first count) bits = 0
room_of (Halfword wide inverted) bits = 0

signed_length : (positive : Bool) (n : ℕ) → n ≤ 2 ^ 47 → length (signed_text positive n) ≤ 17
unfolding signed_text
signed_length true n le = let lt : n < 2 ^ 49 = omega arith in omega (arith, decimal_short n lt)
signed_length false n le = let lt : n < 2 ^ 49 = omega arith in omega (arith, decimal_short n lt)

distance_length : (positive : Bool) (n : ℕ) → n ≤ 2 ^ 47 → length (distance_text positive n) ≤ 17
unfolding distance_text
distance_length true n le = let lt : n < 2 ^ 49 = omega arith in omega (arith, decimal_short n lt)
distance_length false n le = let lt : n < 2 ^ 49 = omega arith in omega (arith, decimal_short n lt)

file_length : (file : RegisterFile) → length (file_text file) ≡ 1
unfolding file_text
file_length X = refl
file_length W = refl

two_digits : (n : ℕ) → n < 100 → length (decimal n) ≤ 2
two_digits n lt =
    let fits : n < 2 ^ 64 = omega arith in
    let few : n < 10 ^ 2 = omega arith in
    length-decimal-le 2 n (lit< tt) few fits

-- a number of at most so many bits
below_bits : (bits most field : ℕ) → bits ≤ most → field < 2 ^ bits → field < 2 ^ most
below_bits bits most field le lt =
    let e : bits + (most - bits) ≡ most = omega arith in
    let whole : 2 ^ bits * 2 ^ (most - bits) ≡ 2 ^ most = sym (pow-add 2 bits (most - bits)) ∙ ap (λ n. 2 ^ n) e in
    let more = grow (2 ^ bits) (2 ^ (most - bits)) (pow_pos (most - bits)) in
    omega arith
  where
    grow : (a b : ℕ) → 0 < b → a ≤ a * b
    grow a zero h = absurd (omega arith)
    grow a (suc b) h = omega arith

register_length : (file : RegisterFile) (last number : ℕ) → number < 32
    → length (register_text file last number) ≤ max 3 (length (text_at KEYWORDS last))
unfolding register_text
register_length file last number lt =
    cond_both (number == 31) (text_at KEYWORDS last) (file_text file ++ decimal number)
    (λ (t : List ℕ). length t ≤ max 3 (length (text_at KEYWORDS last)))
    (λ _. omega arith)
    (λ _. omega (arith, length-append (file_text file) (decimal number), file_length file, two_digits number (omega arith)))

vector_file_length : (file : VectorFile) → length (vector_file_text file) ≤ 2
unfolding vector_file_text
vector_file_length vector.Z = omega arith
vector_file_length vector.P = omega arith
vector_file_length vector.B = omega arith
vector_file_length vector.H = omega arith
vector_file_length vector.S = omega arith
vector_file_length vector.D = omega arith
vector_file_length vector.Za = omega arith

unfoldable is_short_suffix : Text → Bool
is_short_suffix t = nat_le (length (take t.length t.bytes)) 3

suffixes_short : list_all is_short_suffix SUFFIXES ≡ true
unfolding is_short_suffix
suffixes_short = refl

suffix_by : (index : ℕ) (o : Option Text) → slice_get SUFFIXES index ≡ o → length (text_in o) ≤ 3
unfolding text_in is_short_suffix
suffix_by index None g = omega arith
suffix_by index (Some t) g = leb-true (length (take t.length t.bytes)) 3 (list_all-get is_short_suffix SUFFIXES index t suffixes_short g)

suffix_length : (index : ℕ) → length (text_at SUFFIXES index) ≤ 3
suffix_length index = suffix_by index (slice_get SUFFIXES index) refl

sized_length : (file : VectorFile) (number suffix : ℕ) → number < 32 → length (sized_text file number suffix) ≤ 7
unfolding sized_text
sized_length file number suffix lt =
    omega (
      arith,
      length-append (vector_file_text file) (decimal number ++ text_at SUFFIXES suffix),
      length-append (decimal number) (text_at SUFFIXES suffix),
      vector_file_length file,
      two_digits number (omega arith),
      suffix_length suffix,
    )

number_length : (number_bits field : ℕ) → number_bits ≤ 5 → field % 2 ^ number_bits < 32
number_length number_bits field le =
    below_bits number_bits 5 (field % 2 ^ number_bits) le (mod_below field (2 ^ number_bits) (pow_pos number_bits))

named_length : (first bits field : ℕ) → field < 2 ^ bits
    → length (text_at KEYWORDS (first + field)) ≤ cond (bits == 0) (length (text_at KEYWORDS first)) 10
named_length first bits field f =
    cond_both (bits == 0) (length (text_at KEYWORDS first)) 10 (λ room. length (text_at KEYWORDS (first + field)) ≤ room)
    (λ z. alone (eqb-true bits 0 z)) (λ _. word_short (first + field))
  where
    alone : bits ≡ 0 → length (text_at KEYWORDS (first + field)) ≤ length (text_at KEYWORDS first)
    alone z =
        let none : field < 2 ^ 0 = subst (λ n. field < 2 ^ n) z f in
        let same : first + field ≡ first = omega arith in
        omega (arith, ap (λ n. length (text_at KEYWORDS n)) same)

pattern_length : (first field : ℕ) → field < 32 → length (pattern_text first field) ≤ 10
unfolding pattern_text
pattern_length first field lt =
    let room = two_digits field (omega arith) in
    cond_both (is_named_pattern field) (text_at KEYWORDS (first + pattern_index field)) (codes "#" ++ decimal field)
    (λ (t : List ℕ). length t ≤ 10) (λ _. word_short (first + pattern_index field)) (λ _. omega (arith, room))

descending_length : (from field : ℕ) → from < 100 → length (codes "#" ++ decimal (from - field)) ≤ 3
descending_length from field lt =
    let less : from - field < 100 = omega arith in omega (arith, two_digits (from - field) less)

unsigned_length : (base scale bits field : ℕ) → base < 65536 → scale < 65536 → bits < 31 → field < 2 ^ bits
    → length (codes "#" ++ decimal (field * scale + base)) ≤ cond (bits == 0) (1 + length (decimal base)) 16
unsigned_length base scale bits field b s lt f =
    cond_both (bits == 0) (1 + length (decimal base)) 16 (λ room. length (codes "#" ++ decimal (field * scale + base)) ≤ room)
    (λ z. alone (eqb-true bits 0 z)) (λ _. any)
  where
    alone : bits ≡ 0 → length (codes "#" ++ decimal (field * scale + base)) ≤ 1 + length (decimal base)
    alone z =
        let none : field < 2 ^ 0 = subst (λ n. field < 2 ^ n) z f in
        let zero_field : field ≡ 0 = omega arith in
        let same : field * scale + base ≡ base = ap (λ n. n * scale + base) zero_field ∙ omega arith in
        omega (arith, ap (λ n. length (decimal n)) same)

    any : length (codes "#" ++ decimal (field * scale + base)) ≤ 16
    any =
        let most = pow_below bits 31 lt in
        let le : field ≤ 2 ^ 31 = omega arith in
        let product = product_small field scale le s in
        let less : field * scale + base < 2 ^ 49 = omega arith in
        omega (arith, decimal_short (field * scale + base) less)

under_31 : (bits field : ℕ) → bits < 31 → field < 2 ^ bits → field < 2 ^ 31
under_31 bits field b f = let most = pow_below bits 31 b in omega arith

kind_length : (kind : Kind) (bits field : ℕ) → is_small kind bits ≡ true → bits < 31 → field < 2 ^ bits
    → length (kind_text kind bits field) ≤ room_of kind bits
unfolding kind_text room_of is_small
kind_length (Punctuation c) bits field e b f = omega arith
kind_length (Keyword first count) bits field e b f = named_length first bits field f
kind_length (Register file last) bits field e b f =
    register_length file last field (below_bits bits 5 field (leb-true bits 5 e) f)
kind_length (Sized file number_bits suffix) bits field e b f =
    sized_length file (field % 2 ^ number_bits) (suffix + field / 2 ^ number_bits)
    (number_length number_bits field (leb-true number_bits 5 e))
kind_length SliceRegister bits field e b f =
    let small = below_bits bits 2 field (leb-true bits 2 e) f in
    let less : 12 + field < 100 = omega arith in
    omega (arith, two_digits (12 + field) less)
kind_length Index bits field e b f =
    let small = below_bits bits 4 field (leb-true bits 4 e) f in
    let less : field < 100 = omega arith in
    two_digits field less
kind_length (Pattern first) bits field e b f = pattern_length first field (below_bits bits 5 field (leb-true bits 5 e) f)
kind_length (Descending from) bits field e b f = descending_length from field (ltb-true from 100 e)
kind_length (Unsigned base scale most) bits field e b f =
    let p = and_parts (nat_lt base 65536) (nat_lt scale 65536) e in
    unsigned_length base scale bits field (ltb-true base 65536 p.0) (ltb-true scale 65536 p.1) b f
kind_length (Signed scale) bits field e b f =
    signed_length (is_positive bits field) (size_of bits field * scale)
    (product_small (size_of bits field) scale (size_small bits field b (under_31 bits field b f)) (ltb-true scale 65536 e))
kind_length (Distance scale) bits field e b f =
    distance_length (is_positive bits field) (size_of bits field * scale)
    (product_small (size_of bits field) scale (size_small bits field b (under_31 bits field b f)) (ltb-true scale 65536 e))
kind_length (Mask wide) bits field e b f = mask_length (mask_in wide field) (mask_in_small wide field)
kind_length (SignedMask wide) bits field e b f = omega arith
kind_length (ShiftLeft wide) bits field e b f = omega arith
kind_length (Opposite first count) bits field e b f = omega arith
kind_length (Halfword wide inverted) bits field e b f = omega arith

item_length : (i : Item) (word : ℕ) → is_sized i ≡ true → is_small i.kind (bits_of i) ≡ true
    → length (item_text word i) ≤ room_of i.kind (bits_of i)
unfolding item_text
item_length i word e s = kind_length i.kind (bits_of i) (field_in i word) s (sizes i e).few (field_in-lt i.field word)

gap_length : (before after : Kind) → length (gap before after) ≤ 1
unfolding gap
gap_length before after =
    cond_both (is_comma before || (not (is_punctuation before) && not (is_punctuation after))) (32 ∷ []) [] (λ (xs : List ℕ). length xs ≤ 1)
    (λ _. omega arith) (λ _. omega arith)

-- the most bytes of operands, each with a space before it
unfoldable items_room : List Item → ℕ
items_room [] = 0
items_room (i ∷ is) = 1 + room_of i.kind (bits_of i) + items_room is

items_length : (word : ℕ) (before : Kind) (is : List Item) → list_all is_sized is ≡ true
    → list_all (λ i. is_small i.kind (bits_of i)) is ≡ true
    → length (items_text word before is) ≤ items_room is
unfolding items_text items_room
items_length word before [] e s = omega arith
items_length word before (i ∷ is) e s =
    let p = and_parts (is_sized i) (list_all is_sized is) e in
    let q = and_parts (is_small i.kind (bits_of i)) (list_all (λ j. is_small j.kind (bits_of j)) is) s in
    omega (
      arith,
      gap_length before i.kind,
      item_length i word p.0 q.0,
      items_length word i.kind is p.1 q.1,
      length-append (gap before i.kind) (item_text word i ++ items_text word i.kind is),
      length-append (item_text word i) (items_text word i.kind is),
    )

-- ---- shapes

items_small : (list : ItemList) → list_all (λ i. is_small i.kind (bits_of i)) (items_in list) ≡ true
unfolding is_small items_in
items_small list.Scalar = refl
items_small list.Vector = refl
items_small list.Matrix = refl

unfoldable is_short : Shape → Bool
is_short s = nat_lt (10 + items_room (items_of s)) 96

shapes_short : list_all is_short SHAPES ≡ true
unfolding is_short items_room room_of items_in items_of text_in digits
shapes_short = refl

shape_length : (s : Shape) (word : ℕ) → is_short s ≡ true → length (shape_text s word) < 96
unfolding shape_text is_short items_of
shape_length s word e =
    let all = items_in s.list in
    let is = take s.count (drop s.first all) in
    let short : 10 + items_room is < 96 = ltb-true (10 + items_room is) 96 e in
    let rest = items_length word (Punctuation 44) is
    (list_all-take is_sized s.count (drop s.first all) (list_all-drop is_sized s.first all (items_sized s.list)))
    (list_all-take (λ i. is_small i.kind (bits_of i)) s.count (drop s.first all)
    (list_all-drop (λ i. is_small i.kind (bits_of i)) s.first all (items_small s.list))) in
    omega (arith, rest, name_short s.mnemonic, length-append (text_at MNEMONICS s.mnemonic) (items_text word (Punctuation 44) is))

find_passes : (p q : Shape → Bool) (ss : List Shape) (s : Shape) → list_all q ss ≡ true → find p ss ≡ Some s → q s ≡ true
find_passes p q [] s e f = cc
find_passes p q (x ∷ xs) s e f = by_test (λ g. find_passes p q xs s (and_parts (q x) (list_all q xs) e).1 g) (p x) refl
  where
    by_test : (find p xs ≡ Some s → q s ≡ true) → (b : Bool) → p x ≡ b → q s ≡ true
    by_test later true g =
        let found : Some x ≡ Some s = sym (ap (λ b. cond b (Some x) (find p xs)) g) ∙ f in
        let same : x ≡ s = cc in
        subst (λ (y : Shape). q y ≡ true) same (and_parts (q x) (list_all q xs) e).0
    by_test later false g = later (sym (ap (λ b. cond b (Some x) (find p xs)) g) ∙ f)

-- the text of a word
pub printed_length : (word : ℕ) (s : Shape) → printed_shape word ≡ Some s → length (shape_text s word) < 96
unfolding printed_shape
printed_length word s e = shape_length s word (find_passes (prints word) is_short SHAPES s shapes_short e)
