-- The bits of a mask: a run of ones, repeated by doubling and then rotated.
use Rattle.std.proofs.Common.{◌≡◌, ◌↔◌, ℕ, zero, suc, ◌+◌, ◌-◌, ◌*◌, ◌/◌, ◌%◌, ◌^◌, ◌<◌, ◌≤◌, ◌==◌, ◌||◌, ◌&&◌, not, refl, sym, ap, ap₂}
use Rattle.std.proofs.Common.{◌∙◌, subst, arith, inl, inr, lit<, lit≤, Bool, true, false, nat_le, Some, None, mod-eq_of_lt}
use Rattle.std.proofs.Math.Nat.{pow-le-pow_right, add-mul-mod_self_right}
use Rattle.std.proofs.Math.Pow.{mod-mod-pow}
use Rattle.std.proofs.lemmas.Bool.{cases_lt, lt-leb, le-leb}
use Rattle.std.proofs.lemmas.Nat.{pow_below, pow_pos, pow-add, shr-shr, shr_split, shr_below, mod_below, mul-add-lt, or_lt, shr_le}
use Rattle.std.proofs.lemmas.Nat.{leading_top}
use Rattle.std.proofs.lemmas.Nat.Bits.{bit_at_cat_low, bit_at_cat_high, bit_at_ones, bit_at_ones_above}
use Rattle.std.specs.Int.{rotate_right, leading_zeros, w32, w64}
use Rattle.bit_ops.specs.Bits.{digit_at, width_of}
use Rattle.bit_ops.specs.Sums.{bool_number, word_size}
use Rattle.bit_ops.specs.Masks.{highest_one, length_of, size_of, ones_of, turn_of, mask_of, is_reserved, bit_mask_of, IsMask}
use Rattle.bit_ops.proofs.Digits.{number-is, number-lt, bit_of_number}
use Rattle.bit_ops.proofs.Rotating.{rotated}

-- ---- the highest one

pub below_power : (a b n : ℕ) → 2 ^ a ≤ n → n < 2 ^ b → a < b
below_power a b n p q = elim (cases_lt a b) [
  | inl lt ↦ lt
  | inr ge ↦
      let le : 2 ^ b ≤ 2 ^ a = pow-le-pow_right {n = 2} (lit< tt) ge in
      absurd (omega arith)
]

pub highest_one-is : (limit j n : ℕ) → 2 ^ j ≤ n → n < 2 ^ suc j → j < limit → highest_one limit n ≡ j
unfolding highest_one
highest_one-is zero j n p q lt = absurd (omega arith)
highest_one-is (suc k) j n p q lt = elim (cases_lt n (2 ^ k)) [
  | inl under ↦ rw (lt-leb (2 ^ k) n under) (highest_one-is k j n p q (below_power j k n p under))
  | inr over ↦
      let back = below_power k (suc j) n over q in
      rw (le-leb (2 ^ k) n over) (omega arith)
]

pub length_none : (n : Bool) (imms bits : ℕ) → bits ≡ bool_number n * 64 + (63 - imms % 64) → bits ≡ 0 → 0 ≡ length_of n imms
unfolding length_of highest_one
length_none n imms bits e z = sym (ap (highest_one 7) (sym e ∙ z))

pub length_some : (n : Bool) (imms bits : ℕ) → bits ≡ bool_number n * 64 + (63 - imms % 64) → 0 < bits → bits < 2 ^ 7
    → (31 - leading_zeros w32 bits ≡ length_of n imms) × (31 - leading_zeros w32 bits < 7)
unfolding length_of
length_some n imms bits e some lt =
    let top = leading_top 32 bits some (omega arith) in
    let place = top.1 in
    let at : 31 - leading_zeros w32 bits ≡ top.0 = omega arith in
    let small = below_power top.0 7 bits top.2 lt in
    (at ∙ sym (highest_one-is 7 top.0 bits top.2 top.3 small) ∙ ap (highest_one 7) e, omega arith)

-- the powers below 2 ^ 7, with room
pub size_small : (length : ℕ) → length < 7 → 2 ^ length ≤ 64
size_small length lt = let le : length ≤ 6 = omega arith in pow-le-pow_right {n = 2} (lit< tt) le

pub size_half : (length : ℕ) → length < 6 → 2 ^ length ≤ 32
size_half length lt = let le : length ≤ 5 = omega arith in pow-le-pow_right {n = 2} (lit< tt) le

-- ---- the run of ones, repeated

pub record IsRun (length ones log mask : ℕ) : Type 0 where
  pub within : mask < 2 ^ (2 ^ log)
  pub bits : (i : ℕ) → i < 2 ^ log → digit_at 2 mask i ≡ bool_number (nat_le (i % 2 ^ length) ones)

pub first_run : (length ones : ℕ) → ones + 1 < 2 ^ length → IsRun length ones length (2 ^ (ones + 1) - 1)
first_run length ones lt = record {
  within =
      let up = pow_below (ones + 1) (2 ^ length) lt in
      let some = pow_pos (ones + 1) in
      omega arith;
  bits = λ i l.
      let e : i ≡ i % 2 ^ length = sym (mod-eq_of_lt l) in
      elim (cases_lt ones i) [
        | inl above ↦ bit_at_ones_above (ones + 1) i (omega arith) ∙ ap bool_number (sym (lt-leb (i % 2 ^ length) ones (omega arith)))
        | inr within ↦ bit_at_ones (ones + 1) i (omega arith) ∙ ap bool_number (sym (le-leb (i % 2 ^ length) ones (omega arith)))
      ];
}

-- a place moves by whole elements
moved : (length log i : ℕ) → length ≤ log → 2 ^ log ≤ i → (i - 2 ^ log) % 2 ^ length ≡ i % 2 ^ length
moved length log i le over =
    let sum : log - length + length ≡ log = omega arith in
    let whole : 2 ^ log ≡ 2 ^ (log - length) * 2 ^ length = ap (λ k. 2 ^ k) (sym sum) ∙ pow-add 2 (log - length) length in
    let back : i - 2 ^ log + 2 ^ (log - length) * 2 ^ length ≡ i = omega arith in
    sym (add-mul-mod_self_right (i - 2 ^ log) (2 ^ (log - length)) (2 ^ length)) ∙ ap (λ k. k % 2 ^ length) back

twice : (log : ℕ) → 2 ^ (log + 1) ≡ 2 ^ log + 2 ^ log
twice log = pow-add 2 log 1 ∙ omega arith

pub next_run : (length ones log mask : ℕ) → length ≤ log → IsRun length ones log mask
    → IsRun length ones (log + 1) (mask * 2 ^ (2 ^ log) + mask)
next_run length ones log mask le run =
    let double = twice log in
    let below = run.within in
    record {
      within =
          let power : 2 ^ (2 ^ (log + 1)) ≡ 2 ^ (2 ^ log) * 2 ^ (2 ^ log) = ap (λ k. 2 ^ k) double ∙ pow-add 2 (2 ^ log) (2 ^ log) in
          rw power (mul-add-lt mask (2 ^ (2 ^ log)) mask (2 ^ (2 ^ log)) below below);
      bits = λ i l. elim (cases_lt i (2 ^ log)) [
        | inl under ↦ bit_at_cat_low mask (2 ^ log) mask i under ∙ run.bits i under
        | inr over ↦
            bit_at_cat_high mask (2 ^ log) mask i below over ∙ run.bits (i - 2 ^ log) (omega arith)
            ∙ ap (λ k. bool_number (nat_le k ones)) (moved length log i le over)
      ];
    }

-- ---- rotated and cut

bit_of_low : (n k i : ℕ) → i < k → digit_at 2 (n % 2 ^ k) i ≡ digit_at 2 n i
bit_of_low n k i lt = sym (bit_at_cat_low (n / 2 ^ k) k (n % 2 ^ k) i lt) ∙ ap (λ m. digit_at 2 m i) (shr_split n k)

bit_of_high : (n k i : ℕ) → digit_at 2 (n / 2 ^ k) i ≡ digit_at 2 n (k + i)
bit_of_high n k i = ap (λ m. m % 2) (shr-shr n k i)

bit_of_rotated : (k n r i : ℕ) → n < 2 ^ k → r < k → i < k → digit_at 2 (n / 2 ^ r + n % 2 ^ r * 2 ^ (k - r)) i ≡ digit_at 2 n ((i + r) % k)
bit_of_rotated k n r i small turn lt =
    let swap : n / 2 ^ r + n % 2 ^ r * 2 ^ (k - r) ≡ n % 2 ^ r * 2 ^ (k - r) + n / 2 ^ r = omega arith in
    let whole : k - r + r ≡ k = omega arith in
    let high : n / 2 ^ r < 2 ^ (k - r) = shr_below n (k - r) r (subst (λ w. n < 2 ^ w) (sym whole) small) in
    ap (λ m. digit_at 2 m i) swap ∙ elim (cases_lt i (k - r)) [
      | inl under ↦
          let place : r + i ≡ (i + r) % k = (let e : r + i ≡ i + r = omega arith in e) ∙ sym (mod-eq_of_lt (omega arith)) in
          bit_at_cat_low (n % 2 ^ r) (k - r) (n / 2 ^ r) i under ∙ bit_of_high n r i ∙ ap (digit_at 2 n) place
      | inr over ↦
          let inside : i - (k - r) < r = omega arith in
          let back : i + r ≡ i - (k - r) + 1 * k = omega arith in
          let place : i - (k - r) ≡ (i + r) % k =
          sym (ap (λ m. m % k) back ∙ add-mul-mod_self_right (i - (k - r)) 1 k ∙ mod-eq_of_lt (omega arith)) in
          bit_at_cat_high (n % 2 ^ r) (k - r) (n / 2 ^ r) i high over ∙ bit_of_low n r (i - (k - r)) inside ∙ ap (digit_at 2 n) place
    ]

element_of : (length m : ℕ) → length < 7 → m % 64 % 2 ^ length ≡ m % 2 ^ length
element_of length m lt =
    let sum : 6 - length + length ≡ 6 = omega arith in
    ap (λ k. m % 2 ^ k % 2 ^ length) (sym sum) ∙ mod-mod-pow m (6 - length) length

bit_of_word : (wide : Bool) (n i : ℕ) → n < 2 ^ 64 → i < width_of wide → digit_at 2 (n % word_size wide) i ≡ digit_at 2 n i
bit_of_word true n i lt l = ap (λ m. digit_at 2 m i) (mod-eq_of_lt lt)
bit_of_word false n i lt l = bit_of_low n 32 i l

width_le : (wide : Bool) → width_of wide ≤ 64
width_le true = lit≤ tt
width_le false = lit≤ tt

word-lt : (wide : Bool) (n : ℕ) → n % word_size wide < 2 ^ width_of wide
word-lt true n = mod_below n (2 ^ 64) (lit< tt)
word-lt false n = mod_below n (2 ^ 32) (lit< tt)

pub bool_number-lt : (b : Bool) → bool_number b < 2
bool_number-lt true = lit< tt
bool_number-lt false = lit< tt

mask_bits : (wide : Bool) (length ones r n i : ℕ) → length < 7 → r < 64 → n < 2 ^ 64
    → ((i : ℕ) → i < 64 → digit_at 2 n i ≡ bool_number (nat_le (i % 2 ^ length) ones)) → i < width_of wide
    → digit_at 2 (rotate_right w64 n r % word_size wide) i ≡ bool_number (nat_le ((i + r) % 2 ^ length) ones)
mask_bits wide length ones r n i short turn small bits lt =
    let all = width_le wide in
    let same = rotated 64 n r small turn in
    let left = n * 2 ^ ((64 - r % 64) % 64) in
    let whole : rotate_right w64 n r < 2 ^ 64 =
    or_lt 64 (n / 2 ^ (r % 64)) (left % 2 ^ 64) (let le = shr_le n (r % 64) in omega arith) (mod_below left (2 ^ 64) (lit< tt)) in
    bit_of_word wide (rotate_right w64 n r) i whole lt ∙ ap (λ m. digit_at 2 m i) same ∙ bit_of_rotated 64 n r i small turn (omega arith)
    ∙ bits ((i + r) % 64) (mod_below (i + r) 64 (lit< tt)) ∙ ap (λ k. bool_number (nat_le k ones)) (element_of length (i + r) short)

pub mask-is : (n wide : Bool) (imms immr length ones r word : ℕ) → length < 7 → length ≡ length_of n imms → ones ≡ imms % 2 ^ length
    → r ≡ immr % 2 ^ length → r < 64 → word < 2 ^ 64 → ((i : ℕ) → i < 64 → digit_at 2 word i ≡ bool_number (nat_le (i % 2 ^ length) ones))
    → rotate_right w64 word r % word_size wide ≡ mask_of n imms immr wide
unfolding mask_of
mask-is n wide imms immr length ones r word short e f g turn small bits =
    let mask = rotate_right w64 word r % word_size wide in
    let size : 2 ^ length ≡ size_of n imms = ap (λ k. 2 ^ k) e in
    let ones' : ones ≡ ones_of n imms = f ∙ ap (λ k. imms % k) size in
    let turn' : r ≡ turn_of n imms immr = g ∙ ap (λ k. immr % k) size in
    number-is (λ i. bool_number (nat_le ((i + turn_of n imms immr) % size_of n imms) (ones_of n imms))) (width_of wide) mask
    (word-lt wide (rotate_right w64 word r))
    (λ i l. bool_number-lt (nat_le ((i + turn_of n imms immr) % size_of n imms) (ones_of n imms)))
    (λ i l. mask_bits wide length ones r word i short turn small bits l
    ∙ ap₂ (λ k o. bool_number (nat_le k o)) (ap₂ (λ t s. (i + t) % s) turn' size) ones')

-- ---- the facts

one_iff : (a b : ℕ) → (bool_number (nat_le a b) ≡ 1) ↔ (a ≤ b)
one_iff a b = elim (cases_lt b a) [
  | inl less ↦ let e =
      lt-leb a b less in (
        λ o. absurd (let z : bool_number (nat_le a b) ≡ 0 = ap bool_number e in omega arith),
        λ le. absurd (omega arith),
      )
  | inr more ↦ (λ o. more, λ le. ap bool_number (le-leb a b more))
]

pub mask-facts : (n wide : Bool) (imms immr : ℕ) → IsMask n imms immr wide (mask_of n imms immr wide)
unfolding mask_of
mask-facts n wide imms immr =
    let f : ℕ → ℕ = λ i. bool_number (nat_le ((i + turn_of n imms immr) % size_of n imms) (ones_of n imms)) in
    let small : (i : ℕ) → i < width_of wide → f i < 2 =
    λ i l. bool_number-lt (nat_le ((i + turn_of n imms immr) % size_of n imms) (ones_of n imms)) in
    record {
      within = number-lt f (width_of wide) small;
      bits =
          λ i l. subst (λ d. (d ≡ 1) ↔ ((i + turn_of n imms immr) % size_of n imms ≤ ones_of n imms))
          (sym (bit_of_number f (width_of wide) small i l)) (one_iff ((i + turn_of n imms immr) % size_of n imms) (ones_of n imms));
    }

-- ---- reserved fields

pub reserved-is : (n wide : Bool) (imms length ones : ℕ) → length ≡ length_of n imms → ones ≡ imms % 2 ^ length
    → ((n && not wide) || (length == 0) || (ones == 2 ^ length - 1)) ≡ is_reserved n imms wide
unfolding is_reserved
reserved-is n wide imms length ones e f =
    let size : 2 ^ length ≡ size_of n imms = ap (λ k. 2 ^ k) e in
    let ones' : ones ≡ ones_of n imms = f ∙ ap (λ k. imms % k) size in
    ap₂ (λ l o. (n && not wide) || (l == 0) || (o == 2 ^ l - 1)) e ones'

pub none-of : (n wide : Bool) (imms immr : ℕ) → is_reserved n imms wide ≡ true → bit_mask_of n imms immr wide ≡ None
unfolding bit_mask_of
none-of n wide imms immr e = rw e refl

pub some-of : (n wide : Bool) (imms immr : ℕ) → is_reserved n imms wide ≡ false
    → bit_mask_of n imms immr wide ≡ Some (mask_of n imms immr wide)
unfolding bit_mask_of
some-of n wide imms immr e = rw e refl
