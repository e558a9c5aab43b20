-- Words and instructions by a table: what holds of every table that meets a few finite checks.
use Rattle.std.proofs.Common.{◌≡◌, ℕ, zero, suc, ◌+◌, ◌-◌, ◌*◌, ◌%◌, ◌^◌, ◌<◌, ◌≤◌, ◌&&◌, Bool, true, false, nat_lt, nat_le, refl, sym, ap}
use Rattle.std.proofs.Common.{ap₂, ◌∙◌, subst, arith, ltb-true, ltb-false, lt-ltb, le-ltb, leb-true, mul-le-mul_right, mod-eq_of_lt, List}
use Rattle.std.proofs.Common.{[], ◌∷◌, slice_get, Some, cond, ℤ, pos, negsuc, ◌-ℤ◌}
use Rattle.std.specs.Prelude.{int_le, int_lt}
use Rattle.std.specs.Int.{cast_unsigned, w32}
use Rattle.std.specs.List.{list_all}
use Rattle.std.proofs.lemmas.Bool.{leb-false, and_parts, cond_both}
use Rattle.std.proofs.lemmas.Int.{ints}
use Rattle.std.proofs.lemmas.Nat.{pow_pos, pow_below, pow-add, mod_low}
use Rattle.plain_lemmas.proofs.Lists.{list_all-get}
use Rattle.plain_lemmas.proofs.Numbers.{two_pow-halves, pos_sub-lt}
use Rattle.insn_forms.specs.declared.field.Field.{Field}
use Rattle.insn_forms.specs.declared.number.Number.{Number}
use Rattle.insn_forms.specs.declared.number.Number.TheVariants.{Unsigned, Signed}
use Rattle.insn_forms.specs.Fields.{field_in, bits_of, is_field, signed_value}
use Rattle.insn_forms.specs.Forms.{fields_in, bits, all_bits, is_signed, is_in, are_in}
use Rattle.insn_forms.specs.Tables.{numbers_in, signed_numbers_in}
use Rattle.insn_forms.proofs.Bits.{a_field, field_in-lt}

-- ---- what an operation takes from its fields
-- a number without a sign of at most so many bits, or one with a sign
pub data Take : Type 0 where
  most : ℕ → Take
  sign : Take

-- the numbers that are taken
unfoldable pub taken : List Take → List Field → (Field → ℕ) → (Field → ℤ) → List Number
taken [] fs u s = []
taken (t ∷ ts) [] u s = []
taken (most n ∷ ts) (f ∷ fs) u s = Unsigned (u f) ∷ taken ts fs u s
taken (sign ∷ ts) (f ∷ fs) u s = Signed (s f) ∷ taken ts fs u s

-- the numbers of the fields are as small as that
unfoldable pub are_small : List Take → List Field → (Field → ℕ) → Type 0
are_small [] fs u = Unit {0}
are_small (t ∷ ts) [] u = Unit {0}
are_small (most n ∷ ts) (f ∷ fs) u = (u f < 2 ^ n) × are_small ts fs u
are_small (sign ∷ ts) (f ∷ fs) u = Unit {0} × are_small ts fs u

-- the numbers are those of the fields
unfoldable pub agrees : List Field → List Number → (Field → ℕ) → (Field → ℤ) → Type 0
agrees [] ns u s = Unit {0}
agrees (f ∷ fs) [] u s = Unit {0}
agrees (f ∷ fs) (Unsigned n ∷ ns) u s = (u f ≡ n) × agrees fs ns u s
agrees (f ∷ fs) (Signed z ∷ ns) u s = (s f ≡ z) × agrees fs ns u s

-- the fields are as narrow as what is taken of them
unfoldable pub suits : List Take → List Field → Bool
suits [] [] = true
suits [] (f ∷ fs) = false
suits (t ∷ ts) [] = false
suits (most n ∷ ts) (f ∷ fs) = nat_le (bits_of f) n && suits ts fs
suits (sign ∷ ts) (f ∷ fs) = nat_lt 0 (bits_of f) && suits ts fs

-- ---- numbers with a sign
one_less : (a b c f : ℕ) → c ≡ a * b → 0 < a → c - b + f ≡ (a - 1) * b + f
one_less zero b c f e h = absurd (omega arith)
one_less (suc a) b c f e h =
    let x : suc a - 1 ≡ a = omega arith in
    let y : suc a * b ≡ a * b + b = omega arith in
    let z : c - b ≡ a * b = omega arith in
    ap (λ m. m + f) z ∙ ap (λ m. m * b + f) (sym x)

negative_bits : (n f : ℕ) → n < 31 → f < 2 ^ n → (2 ^ 32 - 2 ^ n + f) % 2 ^ n ≡ f
negative_bits n f few lt =
    let p : 2 ^ 32 ≡ 2 ^ (32 - n) * 2 ^ n = ap (λ (m : ℕ). 2 ^ m) (let q : 32 ≡ 32 - n + n = omega arith in q) ∙ pow-add 2 (32 - n) n in
    ap (λ m. m % 2 ^ n) (one_less (2 ^ (32 - n)) (2 ^ n) (2 ^ 32) f p (pow_pos (32 - n))) ∙ mod_low (2 ^ (32 - n) - 1) n f lt

pub signed_back : (n f : ℕ) → n < 31 → f < 2 ^ n → cast_unsigned w32 (signed_value n f) % 2 ^ n ≡ f
unfolding signed_value
signed_back n f few lt =
    let top = pow_below n 31 few in
    cond_both (nat_lt f (2 ^ (n - 1))) (pos f) (pos f -ℤ pos (2 ^ n)) (λ z. cast_unsigned w32 z % 2 ^ n ≡ f)
    (λ h. let e : cast_unsigned w32 (pos f) ≡ f = omega (arith, ints) in ap (λ m. m % 2 ^ n) e ∙ mod-eq_of_lt lt)
    (λ h. let e : cast_unsigned w32 (pos f -ℤ pos (2 ^ n)) ≡ 2 ^ 32 - 2 ^ n + f = omega (arith, ints) in
    ap (λ m. m % 2 ^ n) e ∙ negative_bits n f few lt)

-- a number that so many bits can hold, by its sign
within : ℕ → ℤ → Bool
within h (pos n) = nat_lt n h
within h (negsuc n) = nat_lt n h

below_next : (n k : ℕ) → (nat_le n k && true) ≡ nat_lt n (suc k)
below_next n k = go (nat_le n k) refl
  where
    go : (b : Bool) → nat_le n k ≡ b → (b && true) ≡ nat_lt n (suc k)
    go true h = let le = leb-true n k h in sym (lt-ltb n (suc k) (omega arith))
    go false h = sym (le-ltb n (suc k) (leb-false n k h))

by_sign : (h : ℕ) (z : ℤ) → 0 < h → (int_le (pos 0 -ℤ pos h) z && int_lt z (pos h)) ≡ within h z
unfolding within
by_sign h (pos n) some = ap (λ x. int_le x (pos n) && nat_lt n h) (pos_sub-lt 0 h some)
by_sign h (negsuc n) some =
    let e : suc (h - 0 - 1) ≡ h = omega arith in
    ap (λ x. int_le x (negsuc n) && true) (pos_sub-lt 0 h some) ∙ below_next n (h - 0 - 1) ∙ ap (nat_lt n) e

in_halves : (half whole f : ℕ) → whole ≡ half + half → f < whole → (b : Bool) → (b ≡ true → f < half) → (b ≡ false → half ≤ f)
    → within half (cond b (pos f) (pos f -ℤ pos whole)) ≡ true
unfolding within
in_halves half whole f e small true g h = lt-ltb f half (g refl)
in_halves half whole f e small false g h =
    let k = h refl in
    ap (within half) (pos_sub-lt f whole small) ∙ lt-ltb (whole - f - 1) half (omega arith)

pub signed_inside : (n f : ℕ) → 0 < n → f < 2 ^ n → is_signed n (signed_value n f) ≡ true
unfolding is_signed signed_value
signed_inside n f some lt =
    let h =
    by_sign (2 ^ (n - 1)) (signed_value n f) (pow_pos (n - 1))
    ∙ in_halves (2 ^ (n - 1)) (2 ^ n) f (two_pow-halves n some) lt (nat_lt f (2 ^ (n - 1))) (ltb-true _ _) (ltb-false _ _) in
    let p = and_parts (int_le (pos 0 -ℤ pos (2 ^ (n - 1))) (signed_value n f)) (int_lt (signed_value n f) (pos (2 ^ (n - 1)))) h in
    ap₂ (λ a b. a && b) (ap₂ (λ a b. a && b) (lt-ltb 0 n some) p.0) p.1

forth_in : (n : ℕ) (z : ℤ) → 0 < n → n < 31 → within (2 ^ (n - 1)) z ≡ true → signed_value n (cast_unsigned w32 z % 2 ^ n) ≡ z
unfolding within signed_value
forth_in n (pos m) some few e =
    let h = ltb-true m (2 ^ (n - 1)) e in
    let d = two_pow-halves n some in
    let top = pow_below n 31 few in
    let c : cast_unsigned w32 (pos m) ≡ m = omega (arith, ints) in
    let lt : m < 2 ^ n = omega arith in
    ap (λ k. signed_value n (k % 2 ^ n)) c ∙ ap (signed_value n) (mod-eq_of_lt lt) ∙ ap (λ b. cond b (pos m) (pos m -ℤ pos (2 ^ n))) e
forth_in n (negsuc m) some few e =
    let h = ltb-true m (2 ^ (n - 1)) e in
    let d = two_pow-halves n some in
    let top = pow_below n 31 few in
    let f = 2 ^ n - suc m in
    let lt : f < 2 ^ n = omega arith in
    let c : cast_unsigned w32 (negsuc m) ≡ 2 ^ 32 - 2 ^ n + f = omega (arith, ints) in
    let over : nat_lt f (2 ^ (n - 1)) ≡ false = le-ltb f (2 ^ (n - 1)) (omega arith) in
    ap (λ k. signed_value n (k % 2 ^ n)) c ∙ ap (signed_value n) (negative_bits n f few lt)
    ∙ ap (λ b. cond b (pos f) (pos f -ℤ pos (2 ^ n))) over
    ∙ pos_sub-lt f (2 ^ n) lt ∙ ap negsuc (let k : 2 ^ n - f - 1 ≡ m = omega arith in k)

pub signed_forth : (n : ℕ) (z : ℤ) → n < 31 → is_signed n z ≡ true → signed_value n (cast_unsigned w32 z % 2 ^ n) ≡ z
unfolding is_signed
signed_forth n z few e =
    let p = and_parts (nat_lt 0 n && int_le (pos 0 -ℤ pos (2 ^ (n - 1))) z) (int_lt z (pos (2 ^ (n - 1)))) e in
    let q = and_parts (nat_lt 0 n) (int_le (pos 0 -ℤ pos (2 ^ (n - 1))) z) p.0 in
    forth_in n z (ltb-true 0 n q.0) few (sym (by_sign (2 ^ (n - 1)) z (pow_pos (n - 1))) ∙ ap₂ (λ a b. a && b) q.1 p.1)

-- ---- a word's numbers
pow_mono : (m n : ℕ) → m ≤ n → 2 ^ m ≤ 2 ^ n
pow_mono m n le =
    let e : 2 ^ n ≡ 2 ^ (n - m) * 2 ^ m = ap (λ (k : ℕ). 2 ^ k) (let q : n ≡ n - m + m = omega arith in q) ∙ pow-add 2 (n - m) m in
    let h = mul-le-mul_right (2 ^ m) (let g : 1 ≤ 2 ^ (n - m) = pow_pos (n - m) in g) in
    omega arith

pub fields-small : (ts : List Take) (fs : List Field) (w : ℕ) → suits ts fs ≡ true → are_small ts fs (numbers_in w)
unfolding suits are_small
fields-small [] [] w e = tt
fields-small [] (f ∷ fs) w e = cc
fields-small (t ∷ ts) [] w e = cc
fields-small (most n ∷ ts) (f ∷ fs) w e =
    let p = and_parts (nat_le (bits_of f) n) (suits ts fs) e in
    let le = pow_mono (bits_of f) n (leb-true (bits_of f) n p.0) in
    let lt = field_in-lt f w in
    (omega arith, fields-small ts fs w p.1)
fields-small (sign ∷ ts) (f ∷ fs) w e = (tt, fields-small ts fs w (and_parts (nat_lt 0 (bits_of f)) (suits ts fs) e).1)

few_bits : (f : Field) → is_field f ≡ true → bits_of f < 31
few_bits f e = (a_field f e).few

pub taken-bits : (ts : List Take) (fs : List Field) (w : ℕ) → suits ts fs ≡ true → list_all is_field fs ≡ true
    → all_bits fs (taken ts fs (numbers_in w) (signed_numbers_in w)) ≡ fields_in fs w
unfolding suits taken all_bits bits
taken-bits [] [] w e a = refl
taken-bits [] (f ∷ fs) w e a = cc
taken-bits (t ∷ ts) [] w e a = cc
taken-bits (most n ∷ ts) (f ∷ fs) w e a =
    ap (λ x. field_in f w ∷ x) (taken-bits ts fs w (and_parts (nat_le (bits_of f) n) (suits ts fs) e).1
    (and_parts (is_field f) (list_all is_field fs) a).1)
taken-bits (sign ∷ ts) (f ∷ fs) w e a =
    let q = and_parts (is_field f) (list_all is_field fs) a in
    ap₂ (λ x y. x ∷ y) (signed_back (bits_of f) (field_in f w) (few_bits f q.0) (field_in-lt f w))
    (taken-bits ts fs w (and_parts (nat_lt 0 (bits_of f)) (suits ts fs) e).1 q.1)

pub taken-in : (ts : List Take) (fs : List Field) (w : ℕ) → suits ts fs ≡ true → list_all is_field fs ≡ true
    → are_in fs (taken ts fs (numbers_in w) (signed_numbers_in w)) ≡ true
unfolding suits taken are_in is_in
taken-in [] [] w e a = refl
taken-in [] (f ∷ fs) w e a = cc
taken-in (t ∷ ts) [] w e a = cc
taken-in (most n ∷ ts) (f ∷ fs) w e a =
    ap₂ (λ x y. x && y) (lt-ltb (field_in f w) (2 ^ bits_of f) (field_in-lt f w))
    (taken-in ts fs w (and_parts (nat_le (bits_of f) n) (suits ts fs) e).1 (and_parts (is_field f) (list_all is_field fs) a).1)
taken-in (sign ∷ ts) (f ∷ fs) w e a =
    let p = and_parts (nat_lt 0 (bits_of f)) (suits ts fs) e in
    ap₂ (λ x y. x && y) (signed_inside (bits_of f) (field_in f w) (ltb-true 0 (bits_of f) p.0) (field_in-lt f w))
    (taken-in ts fs w p.1 (and_parts (is_field f) (list_all is_field fs) a).1)

-- a word whose fields have the numbers' bits has the numbers
pub bits-agree : (fs : List Field) (ns : List Number) (w : ℕ) → are_in fs ns ≡ true → list_all is_field fs ≡ true
    → fields_in fs w ≡ all_bits fs ns → agrees fs ns (numbers_in w) (signed_numbers_in w)
unfolding are_in is_in agrees all_bits bits
bits-agree [] ns w e a b = tt
bits-agree (f ∷ fs) [] w e a b = tt
bits-agree (f ∷ fs) (Unsigned n ∷ ns) w e a b =
    let here : field_in f w ≡ n = cc in
    let rest : fields_in fs w ≡ all_bits fs ns = cc in (
      here,
      bits-agree fs ns w (and_parts (is_in f (Unsigned n)) (are_in fs ns) e).1 (and_parts (is_field f) (list_all is_field fs) a).1
          rest,
    )
bits-agree (f ∷ fs) (Signed z ∷ ns) w e a b =
    let here : field_in f w ≡ cast_unsigned w32 z % 2 ^ bits_of f = cc in
    let rest : fields_in fs w ≡ all_bits fs ns = cc in
    let p = and_parts (is_in f (Signed z)) (are_in fs ns) e in
    let q = and_parts (is_field f) (list_all is_field fs) a in
    (ap (signed_value (bits_of f)) here ∙ signed_forth (bits_of f) z (few_bits f q.0) p.0, bits-agree fs ns w p.1 q.1 rest)

-- ---- pairs of a list
unfoldable pub pairwise : {R : Type 0} → (R → R → Bool) → List R → Bool
pairwise p [] = true
pairwise p (r ∷ rs) = list_all (p r) rs && pairwise p rs

-- where a test of each two keeps them apart, those that are not apart have one place
pub one_place : {R : Type 0} (p : R → R → Bool) (Q : R → Type 0) → ((r s : R) → p r s ≡ true → Q r → Q s → ⊥) → (rs : List R)
    → pairwise p rs ≡ true
    → (i j : ℕ) (r s : R) → slice_get rs i ≡ Some r → slice_get rs j ≡ Some s → Q r → Q s → i ≡ j
unfolding pairwise
one_place p Q never [] e i j r s f g q h = cc
one_place p Q never (x ∷ rs) e zero zero r s f g q h = refl
one_place {R = R} p Q never (x ∷ rs) e zero (suc j) r s f g q h =
    let same : x ≡ r = cc in
    absurd (never r s (subst (λ (y : R). p y s ≡ true) same
    (list_all-get (p x) rs j s (and_parts (list_all (p x) rs) (pairwise p rs) e).0 g)) q
    h)
one_place {R = R} p Q never (x ∷ rs) e (suc i) zero r s f g q h =
    let same : x ≡ s = cc in
    absurd (never s r (subst (λ (y : R). p y r ≡ true) same
    (list_all-get (p x) rs i r (and_parts (list_all (p x) rs) (pairwise p rs) e).0 f)) h
    q)
one_place p Q never (x ∷ rs) e (suc i) (suc j) r s f g q h =
    ap suc (one_place p Q never rs (and_parts (list_all (p x) rs) (pairwise p rs) e).1 i j r s f g q h)
