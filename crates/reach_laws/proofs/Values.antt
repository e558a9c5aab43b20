-- What the scalar operations make of words are words.
use Rattle.std.proofs.Common.{◌≡◌, ℕ, zero, suc, ◌+◌, ◌-◌, ◌*◌, ◌/◌, ◌%◌, ◌^◌, ◌<◌, ◌≤◌, ◌==◌, Bool, true, false, cond, refl, sym, ap, ◌∙◌}
use Rattle.std.proofs.Common.{arith, ℤ, pos, negsuc, ◌*ℤ◌, subst}
use Rattle.std.specs.Prelude.{nat_le, unsigned_abs, int_div, if◌then◌else◌}
use Rattle.std.specs.Int.{w64, cast_unsigned, int_div_euclid, int_rem_euclid}
use Rattle.std.proofs.lemmas.Bool.Decides.{nat_tests}
use Rattle.std.proofs.lemmas.Nat.{or_lt, xor_lt, and_le_l, shl_below, shr_below, shr_le, mul-add-lt, pow-add, div_below, mul-lt, pow_pos}
use Rattle.std.proofs.lemmas.Nat.{mod_below}
use Rattle.std.proofs.lemmas.Int.{unsigned_abs-mul}
use Rattle.std.proofs.Math.Pow.{pow_mono}
use Rattle.std.proofs.Math.Nat.{div-le_self}
use Rattle.std.proofs.lemmas.Int.{ints}
use Rattle.sm_types.specs.declared.insn as types
use types.{Logical.Logical, BitfieldOp.BitfieldOp, BitfieldMove.BitfieldMove}
use types.{SelectOp.SelectOp, OneSourceOp.OneSourceOp, TwoSourceOp.TwoSourceOp}
use types.Logical.TheVariants.{And, Orr, Eor, Ands}
use types.BitfieldOp.TheVariants.{Sbfm, Bfm, Ubfm}
use types.SelectOp.TheVariants.{Csel, Csinc, Csinv, Csneg}
use types.OneSourceOp.TheVariants.{Rbit, Rev16, Rev32, Rev64, Clz, Cls}
use types.TwoSourceOp.TheVariants.{Udiv, Sdiv, Lslv, Lsrv, Asrv, Rorv}
use Rattle.bit_ops.specs.declared.shifts.ShiftKind.{ShiftKind}
use Rattle.bit_ops.specs.declared.shifts.ShiftKind.TheVariants.{Lsl, Lsr, Asr, Ror}
use Rattle.bit_ops.specs.Sums.{word_size, signed_word}
use Rattle.bit_ops.specs.Bits.{width_of, digit_at, run_length}
use Rattle.bit_ops.specs.Shifts.{shifted, word_of}
use Rattle.bit_ops.specs.Reversals.{reversed_bits}
use Rattle.bit_ops.specs.Counts.{leading_zeros_of, leading_signs_of}
use Rattle.bit_ops.proofs.Bytes.{bytes-lt}
use Rattle.bit_ops.proofs.Digits.{number-lt}
use Rattle.scalar_exec.specs.Logic.{combined}
use Rattle.scalar_exec.specs.Operands.{inverted}
use Rattle.scalar_exec.specs.Moves.{with_field, placed, bitfield_of}
use Rattle.scalar_exec.specs.Conditional.{otherwise}
use Rattle.scalar_exec.specs.Sources.{one_source_value, quotient, signed_quotient, two_source_value, high_product, accumulated}
use Rattle.reach_laws.proofs.Scalars.{part_below, part_fits}

-- ---- widths

pub size_is : (wide : Bool) → word_size wide ≡ 2 ^ width_of wide
size_is true = refl
size_is false = refl

pub size_some : (wide : Bool) → 0 < word_size wide
size_some true = omega arith
size_some false = omega arith

size_more : (wide : Bool) → 64 < word_size wide
size_more true = omega arith
size_more false = omega arith

width_small : (wide : Bool) → width_of wide ≤ 64
width_small true = omega arith
width_small false = omega arith

pub inverted_below : (wide : Bool) (n : ℕ) → inverted wide n < word_size wide
inverted_below wide n = let h = size_some wide in omega arith

-- ---- logic

pub combined_below : (op : Logical) (k a b : ℕ) → a < 2 ^ k → b < 2 ^ k → combined op a b < 2 ^ k
unfolding combined
combined_below And k a b p q = omega (arith, and_le_l a b)
combined_below Orr k a b p q = or_lt k a b p q
combined_below Eor k a b p q = xor_lt k a b p q
combined_below Ands k a b p q = omega (arith, and_le_l a b)

-- ---- shifts

euclid_below : (z : ℤ) (n : ℕ) → 0 < n → unsigned_abs (int_rem_euclid z (pos n)) < n
euclid_below (pos a) n some = mod_below a n some
euclid_below (negsuc a) n some = omega arith

pub word_below : (wide : Bool) (z : ℤ) → word_of wide z < word_size wide
word_below wide z = euclid_below z (word_size wide) (size_some wide)

rotated_below : (k n r : ℕ) → n < 2 ^ k → r ≤ k → n / 2 ^ r + n % 2 ^ r * 2 ^ (k - r) < 2 ^ k
rotated_below k n r lt le =
    let sum : k - r + r ≡ k = omega arith in
    let turned : r + (k - r) ≡ k = omega arith in
    let high : n / 2 ^ r < 2 ^ (k - r) = shr_below n (k - r) r (subst (λ w. n < 2 ^ w) (sym sum) lt) in
    let low : n % 2 ^ r < 2 ^ r = mod_below n (2 ^ r) (pow_pos r) in
    let both = mul-add-lt (n % 2 ^ r) (2 ^ (k - r)) (n / 2 ^ r) (2 ^ r) low high in
    let size : 2 ^ (k - r) * 2 ^ r ≡ 2 ^ k = sym (pow-add 2 (k - r) r) ∙ ap (λ w. 2 ^ w) sum in
    omega arith

pub shifted_below : (kind : ShiftKind) (wide : Bool) (n amount : ℕ) → n < word_size wide → amount ≤ width_of wide
    → shifted kind wide n amount < word_size wide
unfolding shifted
shifted_below Lsl wide n amount lt le = part_below wide (n * 2 ^ amount)
shifted_below Lsr wide n amount lt le = let h = shr_le n amount in omega arith
shifted_below Asr wide n amount lt le = word_below wide _
shifted_below Ror wide n amount lt le =
    subst (λ w. n / 2 ^ amount + n % 2 ^ amount * 2 ^ (width_of wide - amount) < w) (sym (size_is wide))
    (rotated_below (width_of wide) n amount (subst (λ w. n < w) (size_is wide) lt) le)

-- ---- fields

field_below : (low count field old : ℕ) → field < 2 ^ count → field * 2 ^ low + old % 2 ^ low < 2 ^ (low + count)
field_below low count field old lt =
    let both = mul-add-lt field (2 ^ low) (old % 2 ^ low) (2 ^ count) lt (mod_below old (2 ^ low) (pow_pos low)) in
    let size : 2 ^ low * 2 ^ count ≡ 2 ^ (low + count) = sym (pow-add 2 low count) in
    omega arith

pub with_field_below : (k low count field old : ℕ) → low + count ≤ k → field < 2 ^ count → old < 2 ^ k
    → with_field low count field old < 2 ^ k
unfolding with_field
with_field_below k low count field old le lt below =
    let w = low + count in
    let sum : k - w + w ≡ k = omega arith in
    let high : old / 2 ^ w < 2 ^ (k - w) = shr_below old (k - w) w (subst (λ n. old < 2 ^ n) (sym sum) below) in
    let part = field_below low count field old lt in
    let both = mul-add-lt (old / 2 ^ w) (2 ^ w) (field * 2 ^ low + old % 2 ^ low) (2 ^ (k - w)) high part in
    let size : 2 ^ w * 2 ^ (k - w) ≡ 2 ^ k = sym (pow-add 2 w (k - w)) ∙ ap (λ n. 2 ^ n) (let e : w + (k - w) ≡ k = omega arith in e) in
    omega arith

shifted_field : (k field count place : ℕ) → field < 2 ^ count → place + count ≤ k → field * 2 ^ place < 2 ^ k
shifted_field k field count place lt le =
    let h = shl_below field count place lt in
    let room : count + place ≤ k = omega arith in
    let m = pow_mono room in
    omega arith

top_field : (k field count place : ℕ) → field < 2 ^ count → place + count ≤ k
    → 2 ^ k - 2 ^ (place + count) + field * 2 ^ place < 2 ^ k
top_field k field count place lt le =
    let h : field * 2 ^ place < 2 ^ (place + count) =
    subst (λ n. field * 2 ^ place < 2 ^ n) (let e : count + place ≡ place + count = omega arith in e) (shl_below field count place lt) in
    let m = pow_mono le in
    omega arith

pub placed_below : (op : BitfieldOp) (wide : Bool) (field count place old : ℕ) → field < 2 ^ count → place + count ≤ width_of wide
    → old < word_size wide → placed op wide field count place old < word_size wide
unfolding placed
placed_below Ubfm wide field count place old lt le below =
    subst (λ w. field * 2 ^ place < w) (sym (size_is wide)) (shifted_field (width_of wide) field count place lt le)
placed_below Sbfm wide field count place old lt le below =
    elim (nat_le (2 ^ (count - 1)) field) as (λ b. cond b (word_size wide - 2 ^ (place + count) + field * 2 ^ place)
    (field * 2 ^ place) < word_size wide) [
      | true ↦ subst (λ w. w - 2 ^ (place + count) + field * 2 ^ place < w) (sym (size_is wide))
          (top_field (width_of wide) field count place lt le)
      | false ↦ subst (λ w. field * 2 ^ place < w) (sym (size_is wide)) (shifted_field (width_of wide) field count place lt le)
    ]
placed_below Bfm wide field count place old lt le below =
    subst (λ w. with_field place count field old < w) (sym (size_is wide))
    (with_field_below (width_of wide) place count field old le lt (subst (λ w. old < w) (size_is wide) below))

pub bitfield_below : (x : BitfieldMove) (from old : ℕ) → x.immr < width_of x.wide → x.imms < width_of x.wide
    → old < word_size x.wide → bitfield_of x from old < word_size x.wide
unfolding bitfield_of
bitfield_below x from old r s below =
    let down = λ (le : x.immr ≤ x.imms). placed_below x.op x.wide (from / 2 ^ x.immr % 2 ^ (x.imms - x.immr + 1))
    (x.imms - x.immr + 1) 0 old
    (mod_below _ (2 ^ (x.imms - x.immr + 1)) (pow_pos (x.imms - x.immr + 1))) (omega arith) below in
    let up = λ (gt : x.imms < x.immr). placed_below x.op x.wide (from % 2 ^ (x.imms + 1)) (x.imms + 1) (width_of x.wide - x.immr) old
    (mod_below _ (2 ^ (x.imms + 1)) (pow_pos (x.imms + 1))) (omega arith) below in
    grind (arith, nat_tests, down, up)

-- ---- selections and sources

pub otherwise_below : (op : SelectOp) (wide : Bool) (m : ℕ) → m < word_size wide → otherwise op wide m < word_size wide
unfolding otherwise
otherwise_below Csel wide m h = h
otherwise_below Csinc wide m h = part_below wide (m + 1)
otherwise_below Csinv wide m h = inverted_below wide m
otherwise_below Csneg wide m h = part_below wide (word_size wide - m)

run_small : (test : ℕ → Bool) (limit : ℕ) → run_length test limit ≤ limit
unfolding run_length
run_small test zero = omega arith
run_small test (suc limit) =
    elim (test 0) as (λ b. (if b then suc (run_length (λ i. test (suc i)) limit) else 0) ≤ suc limit) [
      | true ↦ let h = run_small (λ i. test (suc i)) limit in omega arith
      | false ↦ omega arith
    ]

bits_below : (wide : Bool) (n : ℕ) → reversed_bits wide n < 2 ^ width_of wide
unfolding reversed_bits
bits_below wide n =
    number-lt (λ i. digit_at 2 n (width_of wide - 1 - i)) (width_of wide)
    (λ i l. mod_below (n / 2 ^ (width_of wide - 1 - i)) 2 (omega arith))

zeros_below : (wide : Bool) (n : ℕ) → leading_zeros_of wide n < word_size wide
unfolding leading_zeros_of
zeros_below wide n =
    let h = run_small (λ i. digit_at 2 n (width_of wide - 1 - i) == 0) (width_of wide) in
    let w = width_small wide in
    let s = size_more wide in
    omega arith

signs_below : (wide : Bool) (n : ℕ) → leading_signs_of wide n < word_size wide
unfolding leading_signs_of
signs_below wide n =
    let h = run_small (λ i. digit_at 2 n (width_of wide - 2 - i) == digit_at 2 n (width_of wide - 1)) (width_of wide - 1) in
    let w = width_small wide in
    let s = size_more wide in
    omega arith

pub one_source_below : (op : OneSourceOp) (wide : Bool) (n : ℕ) → one_source_value op wide n < word_size wide
unfolding one_source_value
one_source_below Rbit wide n = subst (λ w. reversed_bits wide n < w) (sym (size_is wide)) (bits_below wide n)
one_source_below Rev16 wide n = bytes-lt 2 wide n
one_source_below Rev32 wide n = bytes-lt 4 wide n
one_source_below Rev64 wide n = bytes-lt 8 wide n
one_source_below Clz wide n = zeros_below wide n
one_source_below Cls wide n = signs_below wide n

amount_small : (wide : Bool) (m : ℕ) → m % width_of wide ≤ width_of wide
amount_small true m = omega arith
amount_small false m = omega arith

pub two_source_below : (op : TwoSourceOp) (wide : Bool) (n m : ℕ) → n < word_size wide → two_source_value op wide n m < word_size wide
unfolding two_source_value quotient signed_quotient
two_source_below Udiv wide n m h = elim (m == 0) as (λ b. cond b 0 (n / m) < word_size wide) [
  | true ↦ size_some wide
  | false ↦ let d = div-le_self n m in omega arith
]
two_source_below Sdiv wide n m h =
    elim (m == 0) as (λ b. cond b 0 (word_of wide (int_div (signed_word wide n) (signed_word wide m))) < word_size wide) [
      | true ↦ size_some wide
      | false ↦ word_below wide _
    ]
two_source_below Lslv wide n m h = shifted_below Lsl wide n _ h (amount_small wide m)
two_source_below Lsrv wide n m h = shifted_below Lsr wide n _ h (amount_small wide m)
two_source_below Asrv wide n m h = shifted_below Asr wide n _ h (amount_small wide m)
two_source_below Rorv wide n m h = shifted_below Ror wide n _ h (amount_small wide m)

-- ---- products

signed_small : (n : ℕ) → n < 2 ^ 64 → unsigned_abs (signed_word true n) ≤ 2 ^ 63
signed_small n h = grind (arith, ints, nat_tests)

signed_high : (z : ℤ) → unsigned_abs z < 2 ^ 128 → cast_unsigned w64 (int_div_euclid z (pos (2 ^ 64))) < 2 ^ 64
signed_high (pos a) h = div_below a (2 ^ 64) (2 ^ 64) (omega arith) (omega arith)
signed_high (negsuc a) h = omega arith

pub high_below : (signed : Bool) (n m : ℕ) → n < 2 ^ 64 → m < 2 ^ 64 → high_product signed n m < 2 ^ 64
unfolding high_product
high_below true n m p q =
    let a = signed_word true n in
    let b = signed_word true m in
    let size : unsigned_abs (a *ℤ b) < 2 ^ 128 =
    subst (λ k. k < 2 ^ 128) (sym (unsigned_abs-mul a b))
    (let h = mul-lt (unsigned_abs a) (unsigned_abs b) (2 ^ 64) (2 ^ 64) (let s = signed_small n p in omega arith)
    (let s = signed_small m q in omega arith) in omega arith) in
    signed_high (a *ℤ b) size
high_below false n m p q = div_below (n * m) (2 ^ 64) (2 ^ 64) (omega arith) (mul-lt n m (2 ^ 64) (2 ^ 64) p q)

pub accumulated_fits : (subtract wide : Bool) (a product : ℕ) → accumulated subtract wide a product < 2 ^ 64
unfolding accumulated
accumulated_fits true wide a product = part_fits wide (a + (word_size wide - product))
accumulated_fits false wide a product = part_fits wide (a + product)
