-- An operand without a field is read from one token alone.
use Rattle.std.proofs.Common.{◌≡◌, ℕ, zero, suc, ◌+◌, ◌-◌, ◌*◌, ◌/◌, ◌%◌, ◌^◌, ◌<◌, ◌≤◌, ◌==◌, ◌&&◌, not, Bool, true, false}
use Rattle.std.proofs.Common.{nat_lt, nat_le}
use Rattle.std.proofs.Common.{Option, Some, None, cond, refl, sym, ap, ap₂, ◌∙◌, arith, eqb-true, ltb-true, leb-true, slice_get}
use Rattle.std.specs.Prelude.{option_map, bit_xor}
use Rattle.std.specs.List.{list_all}
use Rattle.std.proofs.lemmas.Bool.{and_parts, not-true}
use Rattle.plain_lemmas.proofs.Lists.{list_all-get}
use Rattle.insn_forms.specs.Fields.{is_field}
use Rattle.insn_text.specs.declared.item.RegisterFile.TheVariants.{X, W}
use Rattle.insn_text.specs.declared.item.VectorFile.{VectorFile}
use Rattle.insn_text.specs.declared.item.VectorFile.TheVariants as vector
use Rattle.insn_text.specs.declared.item.Kind.{Kind}
use Rattle.insn_text.specs.declared.item.Kind.TheVariants as kind
use Rattle.insn_text.specs.declared.item.Item.{Item}
use Rattle.insn_text.specs.declared.item.Shape.{Shape}
use Rattle.insn_text.specs.declared.shapes.TheConstants.{SHAPES}
use Rattle.insn_text.specs.Rules.{has_room, have_room}
use Rattle.insn_text.specs.Texts.{bits_of, items_of}
use Rattle.insn_text.specs.Wordings.{file_number}
use Rattle.asm_tokens.specs.declared.token.Token.{Token}
use Rattle.asm_tokens.specs.declared.token.Token.TheVariants.{Register, Keyword, Number, Punctuation, Sized, Bare, Other}
use Rattle.asm_operands.specs.Fields.{on_punctuation, on_keyword, on_register, on_number, on_sized, on_bare, keyword_field, same_file}
use Rattle.asm_operands.specs.Fields.{slice_field}
use Rattle.asm_operands.specs.Fields.{same_vector_file, sized_field, index_field, descending_field, unsigned_field, field_said}
use Rattle.asm_operands.specs.Sound.{has_factor, is_sound}
use Rattle.asm_operands.proofs.Tables.{items_of-sound}

-- the token of an operand without a field
unfoldable own_token : Kind → Token
own_token (kind.Punctuation c) = Punctuation c
own_token (kind.Keyword first count) = Keyword first
own_token (kind.Sized file few first) = Sized file 0 first
own_token kind.SliceRegister = Register W 12
own_token kind.Index = Bare 0
own_token (kind.Descending from) = Number false from
own_token (kind.Unsigned base scale most) = Number false base
own_token (kind.Opposite first count) = Keyword first
own_token other = Other

-- a test that lets a number through holds
holds : (b : Bool) (x m : ℕ) → ◌≡◌ {A = Option ℕ} (cond b (Some x) None) (Some m) → b ≡ true
holds true x m e = refl
holds false x m e = cc

-- ---- words and marks

only_word : (first count index m : ℕ) → count ≤ 1 → keyword_field first count index ≡ Some m → index ≡ first
unfolding keyword_field
only_word first count index m le e =
    let p = and_parts (nat_le first index) (nat_lt index (first + count))
    (holds (nat_le first index && nat_lt index (first + count)) (index - first) m e) in
    let low = leb-true first index p.0 in
    let high = ltb-true index (first + count) p.1 in
    omega arith

on_one_word : (says : ℕ → Option ℕ) (first m : ℕ) → ((index n : ℕ) → says index ≡ Some n → index ≡ first) → (t : Token)
    → on_keyword says t ≡ Some m → t ≡ Keyword first
unfolding on_keyword
on_one_word says first m one (Keyword index) e = ap Keyword (one index m e)
on_one_word says first m one other e = cc

-- ---- numbers

on_one_number : (says : Bool → ℕ → Option ℕ) (size m : ℕ)
    → ((negative : Bool) (n k : ℕ) → says negative n ≡ Some k → (negative ≡ false) × (n ≡ size)) → (t : Token)
    → on_number says t ≡ Some m → t ≡ Number false size
unfolding on_number
on_one_number says size m one (Number negative n) e = let p = one negative n m e in ap₂ Number p.0 p.1
on_one_number says size m one other e = cc

only_unsigned : (base scale most : ℕ) (negative : Bool) (n k : ℕ) → 0 < scale → most < 1
    → unsigned_field base scale most negative n ≡ Some k → (negative ≡ false) × (n ≡ base)
unfolding unsigned_field
only_unsigned base scale most negative n k positive few e =
    let h =
    holds (not negative && nat_le base n && ((n - base) % scale == 0) && nat_le ((n - base) / scale) most) ((n - base) / scale) k e in
    let p = and_parts (not negative && nat_le base n && ((n - base) % scale == 0)) (nat_le ((n - base) / scale) most) h in
    let q = and_parts (not negative && nat_le base n) ((n - base) % scale == 0) p.0 in
    let r = and_parts (not negative) (nat_le base n) q.0 in
    let low = leb-true base n r.1 in
    let whole = eqb-true ((n - base) % scale) 0 q.1 in
    let none : (n - base) / scale ≤ most = leb-true ((n - base) / scale) most p.1 in
    let zero : (n - base) / scale ≡ 0 = omega arith in
    let parts : scale * ((n - base) / scale) + (n - base) % scale ≡ n - base = omega arith in
    let nothing : n - base ≡ 0 = sym parts ∙ ap₂ (λ a b. scale * a + b) zero whole ∙ omega arith in
    (not-true negative r.0, omega arith)

only_descending : (from : ℕ) (negative : Bool) (n k : ℕ) → from ≤ 1 → descending_field from 0 negative n ≡ Some k
    → (negative ≡ false) × (n ≡ from)
unfolding descending_field
only_descending from negative n k few e =
    let h = holds (not negative && nat_lt 0 n && nat_le n from && nat_lt (from - n) (2 ^ 0)) (from - n) k e in
    let p = and_parts (not negative && nat_lt 0 n && nat_le n from) (nat_lt (from - n) (2 ^ 0)) h in
    let q = and_parts (not negative && nat_lt 0 n) (nat_le n from) p.0 in
    let r = and_parts (not negative) (nat_lt 0 n) q.0 in
    let some = ltb-true 0 n r.1 in
    let within = leb-true n from q.1 in
    (not-true negative r.0, omega arith)

-- ---- registers

same_number : (f g : VectorFile) → file_number f ≡ file_number g → g ≡ f
unfolding file_number
same_number vector.Z vector.Z e = refl
same_number vector.P vector.P e = refl
same_number vector.B vector.B e = refl
same_number vector.H vector.H e = refl
same_number vector.S vector.S e = refl
same_number vector.D vector.D e = refl
same_number vector.Za vector.Za e = refl
same_number f g e = cc

on_one_sized : (wanted : VectorFile) (first m : ℕ) (t : Token) → on_sized (sized_field wanted 0 first 0) t ≡ Some m
    → t ≡ Sized wanted 0 first
unfolding on_sized sized_field same_vector_file
on_one_sized wanted first m (Sized file number suffix) e =
    let h =
    holds ((file_number wanted == file_number file) && nat_lt number (2 ^ 0) && nat_le first suffix
    && nat_lt (suffix - first) (2 ^ (0 - 0)))
    ((suffix - first) * 2 ^ 0 + number) m e in
    let p =
    and_parts ((file_number wanted == file_number file) && nat_lt number (2 ^ 0) && nat_le first suffix)
    (nat_lt (suffix - first) (2 ^ (0 - 0))) h in
    let q = and_parts ((file_number wanted == file_number file) && nat_lt number (2 ^ 0)) (nat_le first suffix) p.0 in
    let r = and_parts (file_number wanted == file_number file) (nat_lt number (2 ^ 0)) q.0 in
    let f : file ≡ wanted = same_number wanted file (eqb-true (file_number wanted) (file_number file) r.0) in
    let below : number < 1 = ltb-true number 1 r.1 in
    let low : first ≤ suffix = leb-true first suffix q.1 in
    let high : suffix - first < 1 = ltb-true (suffix - first) 1 p.1 in
    let n : number ≡ 0 = omega arith in
    let s : suffix ≡ first = omega arith in
    cc
on_one_sized wanted first m other e = cc

on_one_slice : (m : ℕ) (t : Token) → on_register (slice_field 0) (λ index. None) t ≡ Some m → t ≡ Register W 12
unfolding on_register slice_field same_file
on_one_slice m (Register X number) e = cc
on_one_slice m (Register W number) e =
    let h = holds (nat_le 12 number && nat_lt (number - 12) (2 ^ 0)) (number - 12) m e in
    let p = and_parts (nat_le 12 number) (nat_lt (number - 12) (2 ^ 0)) h in
    let low : 12 ≤ number = leb-true 12 number p.0 in
    let high : number - 12 < 1 = ltb-true (number - 12) 1 p.1 in
    let n : number ≡ 12 = omega arith in
    ap (Register W) n
on_one_slice m other e = cc

on_one_index : (m : ℕ) (t : Token) → on_bare (index_field 0) t ≡ Some m → t ≡ Bare 0
unfolding on_bare index_field
on_one_index m (Bare size) e =
    let below : size < 1 = ltb-true size 1 (holds (nat_lt size (2 ^ 0)) size m e) in
    let n : size ≡ 0 = omega arith in
    ap Bare n
on_one_index m other e = cc

on_one_punctuation : (c m : ℕ) (t : Token) → on_punctuation (λ d. cond (d == c) (Some 0) None) t ≡ Some m → t ≡ Punctuation c
unfolding on_punctuation
on_one_punctuation c m (Punctuation d) e = ap Punctuation (eqb-true d c (holds (d == c) 0 m e))
on_one_punctuation c m other e = cc

-- ---- operands

never : (n : ℕ) → 0 < n → nat_le n 0 ≡ true → ⊥
never n positive e = let le = leb-true n 0 e in omega arith

opposite_of : (first count index m : ℕ) → count ≤ 1
    → option_map (λ field. bit_xor field 1) (keyword_field first count index) ≡ Some m → index ≡ first
opposite_of first count index m few e = by_word (keyword_field first count index) refl e
  where
    by_word : (o : Option ℕ) → keyword_field first count index ≡ o → option_map (λ field. bit_xor field 1) o ≡ Some m → index ≡ first
    by_word None h x = cc
    by_word (Some field) h x = only_word first count index field few h

own_alone : (k : Kind) (t : Token) (m : ℕ) → has_room k 0 ≡ true → has_factor k 0 ≡ true → field_said k 0 t ≡ Some m → t ≡ own_token k
unfolding has_room has_factor field_said own_token
own_alone (kind.Punctuation c) t m r f e = on_one_punctuation c m t e
own_alone (kind.Keyword first count) t m r f e =
    let few : count ≤ 1 = leb-true count 1 (and_parts (nat_lt 0 count) (nat_le count (2 ^ 0)) r).1 in
    on_one_word (keyword_field first count) first m (λ index n h. only_word first count index n few h) t e
own_alone (kind.Register file last) t m r f e = absurd (never 5 (omega arith) r)
own_alone (kind.Sized file zero first) t m r f e = on_one_sized file first m t e
own_alone (kind.Sized file (suc few) first) t m r f e = absurd (never (suc few) (omega arith) r)
own_alone kind.SliceRegister t m r f e = on_one_slice m t e
own_alone kind.Index t m r f e = on_one_index m t e
own_alone (kind.Pattern first) t m r f e = absurd (never 5 (omega arith) r)
own_alone (kind.Descending from) t m r f e =
    let few : from ≤ 1 = leb-true from 1 r in
    on_one_number (descending_field from 0) from m (λ b n k h. only_descending from b n k few h) t e
own_alone (kind.Unsigned base scale most) t m r f e =
    let few : most < 1 = ltb-true most 1 r in
    let positive : 0 < scale = ltb-true 0 scale f in
    on_one_number (unsigned_field base scale most) base m (λ b n k h. only_unsigned base scale most b n k positive few h) t e
own_alone (kind.Signed scale) t m r f e = let no = (and_parts (nat_lt 0 scale) (nat_lt 0 0) f).1 in cc
own_alone (kind.Distance scale) t m r f e = let no = (and_parts (nat_lt 0 scale) (nat_lt 0 0) f).1 in cc
own_alone (kind.Mask true) t m r f e = absurd (never 13 (omega arith) r)
own_alone (kind.Mask false) t m r f e = absurd (never 12 (omega arith) r)
own_alone (kind.SignedMask true) t m r f e = absurd (never 13 (omega arith) r)
own_alone (kind.SignedMask false) t m r f e = absurd (never 12 (omega arith) r)
own_alone (kind.ShiftLeft true) t m r f e = absurd (never 12 (omega arith) r)
own_alone (kind.ShiftLeft false) t m r f e = absurd (never 10 (omega arith) r)
own_alone (kind.Opposite first count) t m r f e =
    let few : count ≤ 1 = leb-true count 1 (and_parts (nat_lt 0 count) (nat_le count (2 ^ 0)) r).1 in
    on_one_word (λ index. option_map (λ field. bit_xor field 1) (keyword_field first count index)) first m
    (λ index n h. opposite_of first count index n few h) t e
own_alone (kind.Halfword true inverted) t m r f e = absurd (never 18 (omega arith) r)
own_alone (kind.Halfword false inverted) t m r f e = absurd (never 17 (omega arith) r)

-- of an operand of a shape
pub bare-alone : list_all have_room SHAPES ≡ true → (at index : ℕ) (s : Shape) (i : Item) (t u : Token) (m n : ℕ)
    → slice_get SHAPES at ≡ Some s → slice_get (items_of s) index ≡ Some i → bits_of i ≡ 0
    → field_said i.kind 0 t ≡ Some m → field_said i.kind 0 u ≡ Some n → t ≡ u
unfolding have_room is_sound
bare-alone all at index s i t u m n listed here bare e f =
    let room : has_room i.kind (bits_of i) ≡ true =
    list_all-get (λ (j : Item). has_room j.kind (bits_of j)) (items_of s) index i (list_all-get have_room SHAPES at s all listed) here in
    let sound = list_all-get is_sound (items_of s) index i (items_of-sound s) here in
    let factor : has_factor i.kind (bits_of i) ≡ true = (and_parts (has_factor i.kind (bits_of i)) (is_field i.field) sound).0 in
    let r : has_room i.kind 0 ≡ true = ap (has_room i.kind) (sym bare) ∙ room in
    let g : has_factor i.kind 0 ≡ true = ap (has_factor i.kind) (sym bare) ∙ factor in
    own_alone i.kind t m r g e ∙ sym (own_alone i.kind u n r g f)
