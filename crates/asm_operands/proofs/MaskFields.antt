-- The fields of a mask: those of the table are the ones that bit_ops finds, and a mask has no others.
use Rattle.std.proofs.Common.{◌≡◌, ℕ, zero, suc, ◌+◌, ◌-◌, ◌*◌, ◌%◌, ◌/◌, ◌^◌, ◌<◌, ◌≤◌, ◌==◌, ◌&&◌, ◌⊎◌, not, Bool, true, false, nat_lt}
use Rattle.std.proofs.Common.{refl, sym, ap, ap₂, ◌∙◌, subst, arith, inl, inr, lit<, Option, Some, None, cond, eqb-true, eq-eqb, lt-ltb}
use Rattle.std.proofs.Common.{ltb-true}
use Rattle.std.proofs.lemmas.Bool.{and_parts, cases_lt, false_from_ne_true, and_from}
use Rattle.std.proofs.lemmas.Nat.{mod_below}
use Rattle.std.proofs.Math.Nat.{mod-eq_of_lt}
use Rattle.insn_forms.specs.Fields.{field_of}
use Rattle.bit_ops.specs.Bits.{digit_at, width_of}
use Rattle.bit_ops.specs.Sums.{bool_number, word_size}
use Rattle.bit_ops.specs.Masks.{are_mask_fields, size_of, ones_of, is_reserved, mask_of, bit_mask_of, starts_at, IsFieldsOf}
use Rattle.bit_ops.proofs.MaskBits.{mask-facts}
use Rattle.bit_ops.proofs.Fields.{IsPeriodic, start-on, some-start, first-below, turn-is, next-is, none-is, ones-are, fields-wide}
use Rattle.bit_ops.proofs.Fields.{fields-narrow, size-known, periodic-of, size-some}
use Rattle.insn_text.specs.Texts.{mask_in}
use Rattle.asm_operands.specs.Fields.{is_that, is_field_of, mask_field}
use Rattle.sm_types.proofs.Places.{find-first, find-none}

-- ---- a test of all numbers below a bound
unfoldable pub all_below : (ℕ → Bool) → ℕ → Bool
all_below p zero = true
all_below p (suc n) = p n && all_below p n

pub all_below-at : (p : ℕ → Bool) (n k : ℕ) → all_below p n ≡ true → k < n → p k ≡ true
unfolding all_below
all_below-at p zero k e h = absurd (omega arith)
all_below-at p (suc n) k e h =
    let parts = and_parts (p n) (all_below p n) e in
    elim (cases_lt k n) [ inl l ↦ all_below-at p n k parts.1 l | inr g ↦ (let s : k ≡ n = omega arith in ap p s ∙ parts.0) ]

-- ---- the fields as one number
abbrev pub joined : Bool → ℕ → ℕ → ℕ
joined n immr imms = bool_number n * 4096 + immr * 64 + imms

that_mask : (mask : ℕ) (o : Option ℕ) → is_that mask o ≡ true → o ≡ Some mask
that_mask mask None e = cc
that_mask mask (Some m) e = ap Some (eqb-true m mask e)

pub fields-of : (wide : Bool) (mask field : ℕ) → is_field_of wide mask field ≡ true
    → IsFieldsOf (field_of field 12 1 == 1) (field_of field 0 6) (field_of field 6 6) wide mask
unfolding is_field_of mask_in are_mask_fields field_of
fields-of wide mask field e =
    let parts =
    and_parts (are_mask_fields (field_of field 12 1 == 1) (field_of field 0 6) (field_of field 6 6) wide)
    (is_that mask (mask_in wide field)) e in
    let imms : field / 2 ^ 0 % 2 ^ 6 < 64 = mod_below (field / 2 ^ 0) (2 ^ 6) (lit< tt) in
    let one =
    and_parts (not (is_reserved (field_of field 12 1 == 1) (field_of field 0 6) wide))
    (nat_lt (field_of field 6 6) (size_of (field_of field 12 1 == 1) (field_of field 0 6))) parts.0 in
    record { imms_in_range = imms; immr_in_range = ltb-true _ _ one.1; given = that_mask mask (mask_in wide field) parts.1 }

bit_back : (n : Bool) (immr imms : ℕ) → immr < 64 → imms < 64 → (joined n immr imms / 2 ^ 12 % 2 ^ 1 == 1) ≡ n
bit_back true immr imms small lt = let e : (1 * 4096 + immr * 64 + imms) / 2 ^ 12 % 2 ^ 1 ≡ 1 = omega arith in ap (λ k. k == 1) e
bit_back false immr imms small lt = let e : (0 * 4096 + immr * 64 + imms) / 2 ^ 12 % 2 ^ 1 ≡ 0 = omega arith in ap (λ k. k == 1) e

bool_number-lt : (b : Bool) → bool_number b < 2
bool_number-lt true = lit< tt
bool_number-lt false = lit< tt

immr_back : (n : Bool) (immr imms : ℕ) → immr < 64 → imms < 64 → joined n immr imms / 2 ^ 6 % 2 ^ 6 ≡ immr
immr_back n immr imms small lt = let b = bool_number-lt n in omega arith

imms_back : (n : Bool) (immr imms : ℕ) → immr < 64 → imms < 64 → joined n immr imms / 2 ^ 0 % 2 ^ 6 ≡ imms
imms_back n immr imms small lt = let b = bool_number-lt n in omega arith

pub joined-lt : (n : Bool) (immr imms : ℕ) → immr < 64 → imms < 64 → joined n immr imms < 8192
joined-lt n immr imms small lt = let b = bool_number-lt n in omega arith

-- a field of 13 bits is put together from its parts
is_bit : (b : ℕ) → b < 2 → bool_number (b == 1) ≡ b
is_bit zero h = refl
is_bit (suc zero) h = refl
is_bit (suc (suc b)) h = absurd (omega arith)

pub joined-back : (field : ℕ) → field < 8192 → joined (field_of field 12 1 == 1) (field_of field 6 6) (field_of field 0 6) ≡ field
unfolding field_of
joined-back field lt =
    let b : field / 2 ^ 12 % 2 ^ 1 < 2 = mod_below (field / 2 ^ 12) (2 ^ 1) (lit< tt) in
    let e = is_bit (field / 2 ^ 12 % 2 ^ 1) b in
    omega (arith, e)

immr-lt : (n wide : Bool) (imms immr mask : ℕ) → IsFieldsOf n imms immr wide mask → immr < 64
immr-lt n wide imms immr mask f =
    let in_range = f.immr_in_range in
    elim (size-known n imms) [ inl all ↦ omega arith | inr half ↦ omega arith ]

reserved_not : (b : Bool) (m mask : ℕ) → cond b None (Some m) ≡ Some mask → b ≡ false
reserved_not true m mask e = cc
reserved_not false m mask e = refl

not_reserved : (n wide : Bool) (imms immr mask : ℕ) → bit_mask_of n imms immr wide ≡ Some mask → not (is_reserved n imms wide) ≡ true
unfolding bit_mask_of
not_reserved n wide imms immr mask e = ap not (reserved_not (is_reserved n imms wide) (mask_of n imms immr wide) mask e)

is_that-same : (mask : ℕ) (o : Option ℕ) → o ≡ Some mask → is_that mask o ≡ true
is_that-same mask o e = ap (is_that mask) e ∙ eq-eqb mask mask refl

pub of-fields : (n wide : Bool) (imms immr mask : ℕ) → IsFieldsOf n imms immr wide mask → is_field_of wide mask (joined n immr imms) ≡ true
unfolding is_field_of mask_in are_mask_fields field_of
of-fields n wide imms immr mask f =
    let lt = f.imms_in_range in
    let small = immr-lt n wide imms immr mask f in
    let test : are_mask_fields n imms immr wide ≡ true =
    and_from (not (is_reserved n imms wide)) (nat_lt immr (size_of n imms)) (not_reserved n wide imms immr mask f.given)
    (lt-ltb _ _ f.immr_in_range) in
    let b = bit_back n immr imms small lt in
    let r = immr_back n immr imms small lt in
    let s = imms_back n immr imms small lt in
    and_from _ _ (rw (b, r, s) test) (is_that-same mask _ (rw (b, r, s) f.given))

-- ---- a mask has no other fields
record IsLeast (p : ℕ → Bool) (from n index : ℕ) : Type 0 where
  above : from ≤ index
  below : index < n
  passes : p index ≡ true
  before : (k : ℕ) → from ≤ k → k < index → p k ≡ false

at_end : (p : ℕ → Bool) (from n : ℕ) → ((k : ℕ) → from ≤ k → k < n → p k ≡ false) → (b : Bool) → p n ≡ b
    → ((index : ℕ) × IsLeast p from (suc n) index) ⊎ ((k : ℕ) → from ≤ k → k < suc n → p k ≡ false)
at_end p from n never true e = elim (cases_lt n from) [
  | inl under ↦ inr (λ k le lt. absurd (omega arith))
  | inr over ↦ inl (n, record { above = over; below = omega arith; passes = e; before = never })
]
at_end p from n never false e =
    inr (λ k le lt. elim (cases_lt k n) [ inl under ↦ never k le under | inr over ↦ (let s : k ≡ n = omega arith in ap p s ∙ e) ])

least : (p : ℕ → Bool) (from n : ℕ) → ((index : ℕ) × IsLeast p from n index) ⊎ ((k : ℕ) → from ≤ k → k < n → p k ≡ false)
least p from zero = inr (λ k le lt. absurd (omega arith))
least p from (suc n) = elim (least p from n) [
  | inl f ↦ let within = f.1.below in inl (f.0, record { above = f.1.above; below = omega arith; passes = f.1.passes; before = f.1.before })
  | inr never ↦ at_end p from n never (p n) refl
]

not_zero : (word k : ℕ) → (digit_at 2 word k == 0) ≡ false → digit_at 2 word k ≡ 1
not_zero word k e =
    let lt : digit_at 2 word k < 2 = mod_below (word / 2 ^ k) 2 (lit< tt) in
    elim (cases_lt 0 (digit_at 2 word k)) [
      | inl more ↦ omega arith
      | inr none_left ↦ (let z : digit_at 2 word k ≡ 0 = omega arith in let same = ap (λ d. d == 0) z in cc)
    ]

-- the ones of an element are as many as follow the first start
ones-same : (word width size size' turn turn' ones ones' first : ℕ) → IsPeriodic word width size turn ones
    → IsPeriodic word width size' turn' ones' → (first + turn) % size ≡ 0 → (first + turn') % size' ≡ 0 → ones ≡ ones'
ones-same word width size size' turn turn' ones ones' first p q z z' =
    elim (least (λ k. digit_at 2 word ((first + k) % width) == 0) 0 width) [
      | inl f ↦
          let within = f.1.below in
          let on : (k : ℕ) → k < f.0 → digit_at 2 word ((first + k) % width) ≡ 1 =
          λ k lt. not_zero word ((first + k) % width) (f.1.before k (omega arith) lt) in
          let off : f.0 < width → digit_at 2 word ((first + f.0) % width) ≡ 0 = λ lt. eqb-true _ _ f.1.passes in
          let a = ones-are word width size turn ones first f.0 p z (omega arith) on off in
          let b = ones-are word width size' turn' ones' first f.0 q z' (omega arith) on off in
          omega arith
      | inr never ↦
          let on : (k : ℕ) → k < width → digit_at 2 word ((first + k) % width) ≡ 1 =
          λ k lt. not_zero word ((first + k) % width) (never k (omega arith) lt) in
          let off : width < width → digit_at 2 word ((first + width) % width) ≡ 0 = λ lt. absurd (omega arith) in
          let a = ones-are word width size turn ones first width p z (omega arith) on off in
          let b = ones-are word width size' turn' ones' first width q z' (omega arith) on off in
          omega arith
    ]

size-same : (word width size size' turn turn' ones ones' first : ℕ) → IsPeriodic word width size turn ones
    → IsPeriodic word width size' turn' ones' → (first + turn) % size ≡ 0 → (first + turn') % size' ≡ 0 → first < size → first < size'
    → size ≡ size'
size-same word width size size' turn turn' ones ones' first p q z z' less less' = elim (least (starts_at word width) (first + 1) width) [
  | inl f ↦
      sym (next-is word width size turn ones first f.0 p z f.1.above f.1.below f.1.passes f.1.before)
      ∙ next-is word width size' turn' ones' first f.0 q z' f.1.above f.1.below f.1.passes f.1.before
  | inr never ↦ sym (none-is word width size turn ones first p less z never) ∙ none-is word width size' turn' ones' first q less' z' never
]

record AreSame (size size' turn turn' ones ones' : ℕ) : Type 0 where
  size_is : size ≡ size'
  turn_is : turn ≡ turn'
  ones_is : ones ≡ ones'

all-same : (word width size size' turn turn' ones ones' : ℕ) → IsPeriodic word width size turn ones
    → IsPeriodic word width size' turn' ones' → AreSame size size' turn turn' ones ones'
all-same word width size size' turn turn' ones ones' p q = elim (least (starts_at word width) 0 width) [
  | inl f ↦
      let z = start-on word width size turn ones f.0 p f.1.below f.1.passes in
      let z' = start-on word width size' turn' ones' f.0 q f.1.below f.1.passes in
      let less = first-below word width size turn ones f.0 p f.1.before in
      let less' = first-below word width size' turn' ones' f.0 q f.1.before in
      let same = size-same word width size size' turn turn' ones ones' f.0 p q z z' less less' in
      record {
        size_is = same;
        turn_is =
            turn-is size turn f.0 p.turn_in_range less z ∙ ap (λ s. (s - f.0) % s) same
            ∙ sym (turn-is size' turn' f.0 q.turn_in_range less' z');
        ones_is = ones-same word width size size' turn turn' ones ones' f.0 p q z z';
      }
  | inr never ↦ absurd (some-start word width size turn ones p never)
]

same_parts : (n n' : Bool) (imms imms' : ℕ) → imms < 64 → imms' < 64 → 2 ≤ size_of n imms → size_of n imms ≡ size_of n' imms'
    → ones_of n imms ≡ ones_of n' imms' → (n ≡ n') × (imms ≡ imms')
same_parts n n' imms imms' lt lt' two size ones = elim (size-known n imms) [
  | inl all ↦
      let a = fields-wide n imms lt all in
      let b = fields-wide n' imms' lt' (sym size ∙ all) in
      (a.0 ∙ sym b.0, a.1 ∙ ones ∙ sym b.1)
  | inr half ↦
      let a = fields-narrow n imms lt two half in
      let b = fields-narrow n' imms' lt' (omega arith) (omega arith) in
      (a.0 ∙ sym b.0, a.1 ∙ ap₂ (λ s o. 64 - 2 * s + o) size ones ∙ sym b.1)
]

pub unique-fields : (wide n n' : Bool) (imms imms' immr immr' mask : ℕ) → IsFieldsOf n imms immr wide mask
    → IsFieldsOf n' imms' immr' wide mask → joined n immr imms ≡ joined n' immr' imms'
unique-fields wide n n' imms imms' immr immr' mask f g =
    let same =
    all-same mask (width_of wide) (size_of n imms) (size_of n' imms') immr immr' (ones_of n imms) (ones_of n' imms')
    (periodic-of n wide imms immr mask f) (periodic-of n' wide imms' immr' mask g) in
    let parts = same_parts n n' imms imms' f.imms_in_range g.imms_in_range (size-some n wide imms immr mask f) same.size_is same.ones_is in
    ap₂ (λ b i. joined b immr i) parts.0 parts.1 ∙ ap (λ r. joined n' r imms') same.turn_is

-- ---- the fields that are found
pub unique-field : (wide : Bool) (mask a b : ℕ) → a < 8192 → b < 8192 → is_field_of wide mask a ≡ true → is_field_of wide mask b ≡ true
    → a ≡ b
unique-field wide mask a b lt lt' e f =
    sym (joined-back a lt)
    ∙ unique-fields wide (field_of a 12 1 == 1) (field_of b 12 1 == 1) (field_of a 0 6) (field_of b 0 6) (field_of a 6 6) (field_of b 6 6)
    mask (fields-of wide mask a e) (fields-of wide mask b f)
    ∙ joined-back b lt'

pub mask_field-is : (wide : Bool) (mask field : ℕ) → field < 8192 → is_field_of wide mask field ≡ true → mask_field wide mask ≡ Some field
unfolding mask_field
mask_field-is wide mask field lt e =
    find-first (is_field_of wide mask) 8192 field lt e
    (λ q low. false_from_ne_true (is_field_of wide mask q)
    (λ t. let within : q < 8192 = omega arith in let s = unique-field wide mask q field within lt t e in omega arith))

pub mask_field-none : (wide : Bool) (mask : ℕ) → ((n : Bool) (imms immr : ℕ) → IsFieldsOf n imms immr wide mask → ⊥)
    → mask_field wide mask ≡ None
unfolding mask_field
mask_field-none wide mask never =
    find-none (is_field_of wide mask) 8192 (λ q lt. false_from_ne_true (is_field_of wide mask q)
    (λ t. never (field_of q 12 1 == 1) (field_of q 0 6) (field_of q 6 6) (fields-of wide mask q t)))

-- ---- numbers of the code
pub mask_field-some : (wide n : Bool) (imms immr mask : ℕ) → IsFieldsOf n imms immr wide mask
    → mask_field wide mask ≡ Some (joined n immr imms)
mask_field-some wide n imms immr mask f =
    mask_field-is wide mask (joined n immr imms) (joined-lt n immr imms (immr-lt n wide imms immr mask f) f.imms_in_range)
    (of-fields n wide imms immr mask f)

given_some : (b : Bool) (m mask : ℕ) → cond b None (Some m) ≡ Some mask → m ≡ mask
given_some true m mask e = cc
given_some false m mask e = cc

given_is : (n wide : Bool) (imms immr mask : ℕ) → bit_mask_of n imms immr wide ≡ Some mask → mask_of n imms immr wide ≡ mask
unfolding bit_mask_of
given_is n wide imms immr mask e = given_some (is_reserved n imms wide) (mask_of n imms immr wide) mask e

-- no mask of 32 bits is above them
pub mask_field-above : (mask : ℕ) → 2 ^ 32 ≤ mask → mask_field false mask ≡ None
mask_field-above mask high = mask_field-none false mask (λ n imms immr f.
    let given = given_is n false imms immr mask f.given in
    let within = (mask-facts n false imms immr).within in omega arith)

pub in_width : (wide : Bool) (mask : ℕ) → mask < 2 ^ 64 → ((wide ≡ true) ⊎ (mask < 2 ^ 32)) → mask % word_size wide ≡ mask
in_width true mask lt h = mod-eq_of_lt lt
in_width false mask lt (inl e) = cc
in_width false mask lt (inr small) = mod-eq_of_lt small

-- what `mask_fields` gives
pub found-some : (wide n : Bool) (imms immr mask low : ℕ) → low ≡ mask → IsFieldsOf n imms immr wide low
    → mask_field wide mask ≡ Some (joined n immr imms)
found-some wide n imms immr mask low e f = mask_field-some wide n imms immr mask (subst (λ m. IsFieldsOf n imms immr wide m) e f)

pub found-none : (wide : Bool) (mask low : ℕ) → low ≡ mask
    → ((n : Bool) (imms immr : ℕ) → imms < 64 → immr < 64 → bit_mask_of n imms immr wide ≡ Some low → ⊥) → mask_field wide mask ≡ None
found-none wide mask low e never =
    mask_field-none wide mask (λ n imms immr f. never n imms immr f.imms_in_range (immr-lt n wide imms immr mask f)
    (f.given ∙ ap Some (sym e)))

-- ---- the mask of some fields
pub record IsGiven (wide : Bool) (field : ℕ) : Type 0 where
  pub mask : ℕ
  pub given : mask_in wide field ≡ Some mask
  pub back : mask_field wide mask ≡ Some field

given_of : (b : Bool) (m : ℕ) → not b ≡ true → cond b None (Some m) ≡ Some m
given_of true m e = cc
given_of false m e = refl

mask_given : (n wide : Bool) (imms immr : ℕ) → not (is_reserved n imms wide) ≡ true
    → bit_mask_of n imms immr wide ≡ Some (mask_of n imms immr wide)
unfolding bit_mask_of
mask_given n wide imms immr e = given_of (is_reserved n imms wide) (mask_of n imms immr wide) e

pub mask-given : (wide : Bool) (field : ℕ) → field < 8192
    → are_mask_fields (field_of field 12 1 == 1) (field_of field 0 6) (field_of field 6 6) wide ≡ true → IsGiven wide field
unfolding is_field_of mask_in are_mask_fields field_of
mask-given wide field lt e =
    let n = field_of field 12 1 == 1 in
    let immr = field_of field 6 6 in
    let imms = field_of field 0 6 in
    let parts = and_parts (not (is_reserved n imms wide)) (nat_lt immr (size_of n imms)) e in
    let m = mask_of n imms immr wide in
    let given : mask_in wide field ≡ Some m = mask_given n wide imms immr parts.0 in
    record {
      mask = m;
      given = given;
      back = mask_field-is wide m field lt
          (and_from (are_mask_fields n imms immr wide) (is_that m (mask_in wide field)) e (is_that-same m (mask_in wide field) given));
    }
