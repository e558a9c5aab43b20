-- Words and the numbers of their fields.
use Rattle.std.proofs.Common.{◌≡◌, ℕ, zero, suc, ◌+◌, ◌-◌, ◌%◌, ◌^◌, ◌<◌, ◌==◌, Bool, true, false, bit_and, refl, sym, ap, ap₂, ◌∙◌}
use Rattle.std.proofs.Common.{subst, arith, eqb-true, ltb-true, mod-eq_of_lt, List, [], ◌∷◌, length, get_or, drop, drop-cons, add-one}
use Rattle.std.proofs.Common.{Option, Some, None, cond}
use Rattle.std.specs.Prelude.{bit_or}
use Rattle.std.specs.Int.{cast_unsigned, w32}
use Rattle.std.specs.List.{list_all}
use Rattle.std.proofs.lemmas.Bool.{and_parts, and_from}
use Rattle.std.proofs.lemmas.Nat.{and_mask, pow_pos, mod_below}
use Rattle.std.proofs.lemmas.Option.{same_Some}
use Rattle.plain_lemmas.proofs.Options.{cond_some_parts}
use Rattle.insn_forms.specs.declared.field.Field.{Field}
use Rattle.insn_forms.specs.declared.number.Number.{Number}
use Rattle.insn_forms.specs.declared.number.Number.TheVariants.{Unsigned, Signed}
use Rattle.insn_forms.specs.Fields.{field_in, bits_of, mask_of, placed, is_field}
use Rattle.insn_forms.specs.Forms.{fields_in, bits, all_bits, is_in, are_in, word_in, fills}
use Rattle.insn_forms.proofs.Bits.{a_field, or_of_ands, joined_first, joined_second, joined_within, kept_first, kept_second, placed-field}
use Rattle.insn_forms.proofs.Bits.{placed-within, placed-one, field_in-lt}

-- ---- a list's parts
pub all-at : (fs : List Field) (k : ℕ) (d : Field) → list_all is_field fs ≡ true → k < length fs → is_field (get_or fs k d) ≡ true
all-at [] k d e g = absurd (omega arith)
all-at (x ∷ fs) zero d e g = (and_parts (is_field x) (list_all is_field fs) e).0
all-at (x ∷ fs) (suc k) d e g = all-at fs k d (and_parts (is_field x) (list_all is_field fs) e).1 (omega arith)

-- ---- a step of writing
pub word-step : (k value : ℕ) (fs : List Field) (ns : List Number) (d : Field) (e : Number) (b : Bool) → k < length fs → k < length ns
    → b ≡ is_in (get_or fs k d) (get_or ns k e)
    → word_in value (drop k fs) (drop k ns) ≡ cond b
    (word_in (bit_or value (placed (get_or fs k d) (bits (get_or fs k d) (get_or ns k e)))) (drop (k + 1) fs) (drop (k + 1) ns)) None
unfolding word_in
word-step k value fs ns d e b p q r = rw (add-one, drop-cons fs k d p, drop-cons ns k e q, r) refl

pub word-stops : (k value : ℕ) (fs : List Field) (ns : List Number) (d : Field) (e : Number) (b : Bool) (all : Option ℕ) → k < length fs
    → k < length ns → b ≡ is_in (get_or fs k d) (get_or ns k e) → b ≡ false
    → word_in value (drop k fs) (drop k ns) ≡ all → None ≡ all
word-stops k value fs ns d e b all p q r h i =
    ap (λ x. cond x (word_in (bit_or value (placed (get_or fs k d) (bits (get_or fs k d) (get_or ns k e)))) (drop (k + 1) fs)
    (drop (k + 1) ns)) None) (sym h) ∙ sym (word-step k value fs ns d e b p q r) ∙ i

pub word-goes : (k value n at : ℕ) (fs : List Field) (ns : List Number) (d : Field) (e : Number) (b : Bool) (all : Option ℕ) → k < length fs
    → k < length ns → b ≡ is_in (get_or fs k d) (get_or ns k e) → b ≡ true
    → n ≡ bits (get_or fs k d) (get_or ns k e) → at ≡ placed (get_or fs k d) n → word_in value (drop k fs) (drop k ns) ≡ all
    → word_in (bit_or value at) (drop (k + 1) fs) (drop (k + 1) ns) ≡ all
word-goes k value n at fs ns d e b all p q r h s t i =
    let rest = λ (x : ℕ). word_in (bit_or value x) (drop (k + 1) fs) (drop (k + 1) ns) in
    ap rest (t ∙ ap (placed (get_or fs k d)) s)
    ∙ ap (λ x. cond x (rest (placed (get_or fs k d) (bits (get_or fs k d) (get_or ns k e)))) None) (sym h)
    ∙ sym (word-step k value fs ns d e b p q r) ∙ i

-- ---- from a word to its fields and back
within : (w m : ℕ) → w < 2 ^ 32 → m ≡ 2 ^ 32 - 1 → bit_and w m ≡ w
within w m lt e = ap (bit_and w) e ∙ and_mask w 32 ∙ mod-eq_of_lt lt

-- the fields of a word are in their places
pub in_places : (fs : List Field) (mask w : ℕ) (ns : List Number) → list_all is_field fs ≡ true → fills mask fs ≡ true → w < 2 ^ 32
    → are_in fs ns ≡ true → all_bits fs ns ≡ fields_in fs w
    → word_in (bit_and w mask) fs ns ≡ Some w
unfolding fills are_in all_bits word_in
in_places [] mask w [] all e lt i same = ap Some (within w mask lt (eqb-true mask (2 ^ 32 - 1) e))
in_places [] mask w (n ∷ ns) all e lt i same = cc
in_places (f ∷ fs) mask w [] all e lt i same = cc
in_places (f ∷ fs) mask w (n ∷ ns) all e lt i same =
    let a = and_parts (is_field f) (list_all is_field fs) all in
    let h = a_field f a.0 in
    let p = and_parts (bit_and mask (mask_of f) == 0) (fills (bit_or mask (mask_of f)) fs) e in
    let q = and_parts (is_in f n) (are_in fs ns) i in
    let here : bits f n ≡ field_in f w = cc in
    let rest : all_bits fs ns ≡ fields_in fs w = cc in
    let next : bit_or (bit_and w mask) (placed f (bits f n)) ≡ bit_and w (bit_or mask (mask_of f)) =
    ap (λ m. bit_or (bit_and w mask) (placed f m)) here ∙ ap (bit_or (bit_and w mask)) (placed-field f w h.apart)
    ∙ or_of_ands w mask (mask_of f) in
    ap (λ b. cond b (word_in (bit_or (bit_and w mask) (placed f (bits f n))) fs ns) None) q.0
    ∙ ap (λ m. word_in m fs ns) next
    ∙ in_places fs (bit_or mask (mask_of f)) w ns a.1 p.1 lt q.1 rest

-- ---- from the numbers of fields to a word and back
pub record IsPlaced (mask value w : ℕ) (fs : List Field) (ns : List Number) : Type 0 where
  pub is_word : w < 2 ^ 32
  pub kept : bit_and w mask ≡ value
  pub numbers : fields_in fs w ≡ all_bits fs ns
  pub inside : are_in fs ns ≡ true

is_in-lt : (f : Field) (n : Number) → is_in f n ≡ true → bits f n < 2 ^ bits_of f
unfolding is_in bits
is_in-lt f (Unsigned n) e = ltb-true n (2 ^ bits_of f) e
is_in-lt f (Signed z) e = mod_below (cast_unsigned w32 z) (2 ^ bits_of f) (pow_pos (bits_of f))

pub placed_back : (fs : List Field) (mask value w : ℕ) (ns : List Number) → list_all is_field fs ≡ true → fills mask fs ≡ true
    → bit_and value mask ≡ value → word_in value fs ns ≡ Some w → IsPlaced mask value w fs ns
unfolding fills are_in all_bits word_in
placed_back [] mask value w [] all e v says =
    let same = same_Some value w says in
    let whole : w % 2 ^ 32 ≡ w =
    sym (and_mask w 32) ∙ ap (bit_and w) (sym (eqb-true mask (2 ^ 32 - 1) e)) ∙ ap (λ x. bit_and x mask) (sym same) ∙ v ∙ same in
    record {
      is_word = subst (λ x. x < 2 ^ 32) whole (mod_below w (2 ^ 32) (pow_pos 32));
      kept = ap (λ x. bit_and x mask) (sym same) ∙ v;
      numbers = refl;
      inside = refl;
    }
placed_back [] mask value w (n ∷ ns) all e v says = cc
placed_back (f ∷ fs) mask value w [] all e v says = cc
placed_back (f ∷ fs) mask value w (n ∷ ns) all e v says =
    let a = and_parts (is_field f) (list_all is_field fs) all in
    let h = a_field f a.0 in
    let p = and_parts (bit_and mask (mask_of f) == 0) (fills (bit_or mask (mask_of f)) fs) e in
    let none = eqb-true (bit_and mask (mask_of f)) 0 p.0 in
    let q = cond_some_parts (is_in f n) (word_in (bit_or value (placed f (bits f n))) fs ns) w says in
    let own = placed-within f (bits f n) h.apart in
    let r =
    placed_back fs (bit_or mask (mask_of f)) (bit_or value (placed f (bits f n))) w ns a.1 p.1
    (joined_within value (placed f (bits f n)) mask (mask_of f) v own) q.1 in
    let kept : bit_and w mask ≡ value =
    sym (kept_first w mask (mask_of f)) ∙ ap (λ x. bit_and x mask) r.kept
    ∙ joined_first value (placed f (bits f n)) mask (mask_of f) v own none in
    let there : bit_and w (mask_of f) ≡ placed f (bits f n) =
    sym (kept_second w mask (mask_of f)) ∙ ap (λ x. bit_and x (mask_of f)) r.kept
    ∙ joined_second value (placed f (bits f n)) mask (mask_of f) v own none in
    let here : field_in f w ≡ bits f n =
    placed-one f (field_in f w) (bits f n) h.apart (field_in-lt f w) (is_in-lt f n q.0) (placed-field f w h.apart ∙ there) in
    record {
      is_word = r.is_word;
      kept = kept;
      numbers = ap₂ (λ x xs. x ∷ xs) here r.numbers;
      inside = and_from (is_in f n) (are_in fs ns) q.0 r.inside;
    }
