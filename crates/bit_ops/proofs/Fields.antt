-- The fields of a mask, read off where its runs of ones start and how long they are.
use Rattle.std.proofs.Common.{◌≡◌, ◌≢◌, ◌↔◌, ◌⊎◌, ℕ, zero, suc, ◌+◌, ◌-◌, ◌*◌, ◌/◌, ◌%◌, ◌^◌, ◌<◌, ◌≤◌, ◌==◌, ◌||◌, ◌&&◌, not, refl, sym}
use Rattle.std.proofs.Common.{ap, ap₂, ◌∙◌, subst, arith, inl, inr, lit<, Bool, true, false, nat_le, Option, Some, None, IfSome, IsNone}
use Rattle.std.proofs.Common.{if◌then◌else◌, mod-eq_of_lt, eqb-true, mul-le-mul_right}
use Rattle.std.proofs.Math.Nat.{add-mul-mod_self_right, add-mod-mod, mod-mod, pow-suc}
use Rattle.std.proofs.lemmas.Bool.{cases_lt, cases_order, both_ways, cases_Bool, ne_eqb, eq-eqb, lt-leb, le-leb}
use Rattle.std.proofs.lemmas.Nat.{pow_pos, pow-add, mod_below, div-add-mod'}
use Rattle.std.proofs.lemmas.Nat.Bits.{bit_at-lt}
use Rattle.bit_ops.specs.Bits.{digit_at, number_of_digits, width_of}
use Rattle.bit_ops.specs.Sums.{bool_number}
use Rattle.bit_ops.specs.Masks.{highest_one, length_of, size_of, ones_of, turn_of, mask_of, is_reserved, bit_mask_of, starts_at, IsMask}
use Rattle.bit_ops.specs.Masks.{IsFieldsOf}
use Rattle.bit_ops.proofs.MaskBits.{below_power, size_half, size_small, bool_number-lt, none-of, some-of, mask-facts}

-- a word of equal elements of `size` bits, each of which has ones + 1 ones, rotated right by `turn`
pub record IsPeriodic (word width size turn ones : ℕ) : Type 0 where
  pub times : ℕ
  pub whole : width ≡ times * size
  pub some : 0 < width
  pub room : ones + 1 < size
  pub turn_in_range : turn < size
  pub bits : (i : ℕ) → i < width → digit_at 2 word i ≡ bool_number (nat_le ((i + turn) % size) ones)

-- a place round the end of the word has the same place in its element
wrap : (width times size turn x : ℕ) → width ≡ times * size → (x % width + turn) % size ≡ (x + turn) % size
wrap width times size turn x e =
    let split : x / width * width + x % width ≡ x = div-add-mod' x width in
    let whole : x / width * width ≡ x / width * times * size = ap (λ w. x / width * w) e ∙ grind arith in
    let sum : x % width + turn + x / width * times * size ≡ x + turn = omega arith in
    sym (add-mul-mod_self_right (x % width + turn) (x / width * times) size) ∙ ap (λ k. k % size) sum

-- the place before, in the element
before : (width times size turn i : ℕ) → width ≡ times * size → 0 < width → 0 < size
    → ((i + (width - 1)) % width + turn) % size ≡ ((i + turn) % size + (size - 1)) % size
before width zero size turn i e some full = absurd (omega arith)
before width (suc t) size turn i e some full =
    let more : (suc t) * size ≡ t * size + size = grind arith in
    let sum : i + (width - 1) + turn ≡ (size - 1) + (i + turn) + t * size = omega arith in
    wrap width (suc t) size turn (i + (width - 1)) e ∙ ap (λ k. k % size) sum ∙ add-mul-mod_self_right ((size - 1) + (i + turn)) t size
    ∙ sym (add-mod-mod (size - 1) (i + turn) size)
    ∙ ap (λ k. k % size) (let swap : size - 1 + (i + turn) % size ≡ (i + turn) % size + (size - 1) = omega arith in swap)

bit_is_one : (b : Bool) → (bool_number b == 1) ≡ b
bit_is_one true = refl
bit_is_one false = refl

bit_is_zero : (b : Bool) → (bool_number b == 0) ≡ not b
bit_is_zero true = refl
bit_is_zero false = refl

-- a one at place t of the element, and none before it, only where t is 0
edge : (size ones t : ℕ) → ones + 1 < size → t < size → (nat_le t ones && not (nat_le ((t + (size - 1)) % size) ones)) ≡ (t == 0)
edge size ones t room lt = elim (cases_lt 0 t) [
  | inr none ↦
      let z : t ≡ 0 = omega arith in
      let last : (t + (size - 1)) % size ≡ size - 1 =
      ap (λ k. k % size) (let s : t + (size - 1) ≡ size - 1 = omega arith in s) ∙ mod-eq_of_lt (omega arith) in
      rw (le-leb t ones (omega arith), lt-leb ((t + (size - 1)) % size) ones (omega arith), eq-eqb t 0 z) refl
  | inl some ↦
      let one : t + (size - 1) ≡ t - 1 + 1 * size = omega arith in
      let back : (t + (size - 1)) % size ≡ t - 1 =
      ap (λ k. k % size) one ∙ add-mul-mod_self_right (t - 1) 1 size ∙ mod-eq_of_lt (omega arith) in
      elim (cases_lt ones t) [
        | inl above ↦ rw (lt-leb t ones above, ne_eqb t 0 (omega arith)) refl
        | inr within ↦ rw (le-leb t ones within, le-leb ((t + (size - 1)) % size) ones (omega arith), ne_eqb t 0 (omega arith)) refl
      ]
]

pub start-is : (word width size turn ones i : ℕ) → IsPeriodic word width size turn ones → i < width
    → starts_at word width i ≡ ((i + turn) % size == 0)
unfolding starts_at
start-is word width size turn ones i p lt =
    let full = p.room in
    let some = p.some in
    let at = p.bits i lt in
    let below = p.bits ((i + (width - 1)) % width) (mod_below (i + (width - 1)) width p.some) in
    let place = before width p.times size turn i p.whole p.some (omega arith) in
    ap₂ (λ a b. (a == 1) && (b == 0)) at (below ∙ ap (λ k. bool_number (nat_le k ones)) place)
    ∙ ap₂ (λ a b. a && b) (bit_is_one (nat_le ((i + turn) % size) ones))
    (bit_is_zero (nat_le (((i + turn) % size + (size - 1)) % size) ones))
    ∙ edge size ones ((i + turn) % size) p.room (mod_below (i + turn) size (omega arith))

-- where a run starts, the element does, and the other way round
pub start-on : (word width size turn ones i : ℕ) → IsPeriodic word width size turn ones → i < width → starts_at word width i ≡ true
    → (i + turn) % size ≡ 0
start-on word width size turn ones i p lt e = eqb-true _ _ (sym (start-is word width size turn ones i p lt) ∙ e)

pub start-off : (word width size turn ones i : ℕ) → IsPeriodic word width size turn ones → i < width → starts_at word width i ≡ false
    → (i + turn) % size ≡ 0 → ⊥
start-off word width size turn ones i p lt e z = both_ways _ (sym (start-is word width size turn ones i p lt) ∙ e) (eq-eqb _ _ z)

-- ---- the first start

origin : (size turn : ℕ) → turn < size → ((size - turn) % size + turn) % size ≡ 0
origin size turn lt = elim (cases_lt 0 turn) [
  | inl some ↦
      let e : (size - turn) % size ≡ size - turn = mod-eq_of_lt (omega arith) in
      let sum : (size - turn) % size + turn ≡ 0 + 1 * size = omega arith in
      ap (λ k. k % size) sum ∙ add-mul-mod_self_right 0 1 size ∙ mod-eq_of_lt (omega arith)
  | inr none ↦
      let all : size - turn ≡ 0 + 1 * size = omega arith in
      let e : (size - turn) % size ≡ 0 = ap (λ k. k % size) all ∙ add-mul-mod_self_right 0 1 size ∙ mod-eq_of_lt (omega arith) in
      ap (λ k. k % size) (let s : (size - turn) % size + turn ≡ 0 = omega arith in s) ∙ mod-eq_of_lt (omega arith)
]

size_le : (word width size turn ones : ℕ) → IsPeriodic word width size turn ones → size ≤ width
size_le word width size turn ones p = elim (cases_lt 0 p.times) [
  | inl some ↦
      let le : 1 * size ≤ p.times * size = mul-le-mul_right size some in
      let whole = p.whole in
      omega arith
  | inr none ↦
      let z : p.times ≡ 0 = omega arith in
      let e : width ≡ 0 = p.whole ∙ ap (λ t. t * size) z ∙ omega arith in
      let some = p.some in
      absurd (omega arith)
]

pub some-start : (word width size turn ones : ℕ) → IsPeriodic word width size turn ones
    → ((i : ℕ) → 0 ≤ i → i < width → starts_at word width i ≡ false) → ⊥
some-start word width size turn ones p none =
    let turn' = p.turn_in_range in
    let le = size_le word width size turn ones p in
    let small = mod_below (size - turn) size (omega arith) in
    start-off word width size turn ones ((size - turn) % size) p (omega arith) (none ((size - turn) % size) (omega arith) (omega arith))
    (origin size turn p.turn_in_range)

pub first-below : (word width size turn ones first : ℕ) → IsPeriodic word width size turn ones
    → ((i : ℕ) → 0 ≤ i → i < first → starts_at word width i ≡ false) → first < size
first-below word width size turn ones first p none =
    let turn' = p.turn_in_range in
    let le = size_le word width size turn ones p in
    let small = mod_below (size - turn) size (omega arith) in
    elim (cases_lt ((size - turn) % size) first) [
      | inl less ↦ absurd (start-off word width size turn ones ((size - turn) % size) p (omega arith)
          (none ((size - turn) % size) (omega arith) less) (origin size turn p.turn_in_range))
      | inr more ↦ let h : first < size = omega arith in h
    ]

pub turn-is : (size turn first : ℕ) → turn < size → first < size → (first + turn) % size ≡ 0 → turn ≡ (size - first) % size
turn-is size turn first lt less z = elim (cases_lt (first + turn) size) [
  | inl under ↦
      let e : first + turn ≡ 0 = sym (mod-eq_of_lt under) ∙ z in
      let all : size - first ≡ 0 + 1 * size = omega arith in
      let none : (size - first) % size ≡ 0 = ap (λ k. k % size) all ∙ add-mul-mod_self_right 0 1 size ∙ mod-eq_of_lt (omega arith) in
      let t : turn ≡ 0 = omega arith in
      t ∙ sym none
  | inr over ↦
      let split : first + turn ≡ first + turn - size + 1 * size = omega arith in
      let e : first + turn - size ≡ 0 =
      sym (ap (λ k. k % size) split ∙ add-mul-mod_self_right (first + turn - size) 1 size ∙ mod-eq_of_lt (omega arith)) ∙ z in
      let some : 0 < first = omega arith in
      let small : (size - first) % size ≡ size - first = mod-eq_of_lt (omega arith) in
      let t : turn ≡ size - first = omega arith in
      t ∙ sym small
]

-- ---- the distance to the next start

after : (size turn first d : ℕ) → (first + turn) % size ≡ 0 → (first + d + turn) % size ≡ d % size
after size turn first d z =
    let swap : first + d + turn ≡ d + (first + turn) = omega arith in
    ap (λ k. k % size) swap ∙ sym (add-mod-mod d (first + turn) size) ∙ ap (λ k. (d + k) % size) z
    ∙ ap (λ k. k % size) (let s : d + 0 ≡ d = omega arith in s)

self : (size : ℕ) → 0 < size → size % size ≡ 0
self size some = ap (λ k. k % size) (let s : size ≡ 0 + 1 * size = omega arith in s) ∙ add-mul-mod_self_right 0 1 size ∙ mod-eq_of_lt some

pub next-is : (word width size turn ones first next : ℕ) → IsPeriodic word width size turn ones → (first + turn) % size ≡ 0
    → first + 1 ≤ next → next < width → starts_at word width next ≡ true
    → ((i : ℕ) → first + 1 ≤ i → i < next → starts_at word width i ≡ false) → next - first ≡ size
next-is word width size turn ones first next p z le lt on off =
    let full = p.room in
    let at = start-on word width size turn ones next p lt on in
    let there : first + (next - first) ≡ next = omega arith in
    let none : (next - first) % size ≡ 0 = sym (after size turn first (next - first) z) ∙ ap (λ k. (k + turn) % size) there ∙ at in
    elim (cases_order (next - first) size) [
      | inl same ↦ same
      | inr (inl less) ↦ absurd (let e : next - first ≡ 0 = sym (mod-eq_of_lt less) ∙ none in omega arith)
      | inr (inr more) ↦
          absurd (start-off word width size turn ones (first + size) p (omega arith) (off (first + size) (omega arith) (omega arith))
          (after size turn first size z ∙ self size (omega arith)))
    ]

pub none-is : (word width size turn ones first : ℕ) → IsPeriodic word width size turn ones → first < size → (first + turn) % size ≡ 0
    → ((i : ℕ) → first + 1 ≤ i → i < width → starts_at word width i ≡ false) → width ≡ size
none-is word width size turn ones first p less z off =
    let full = p.room in
    let le = size_le word width size turn ones p in
    elim (cases_lt (first + size) width) [
      | inl within ↦
          absurd (start-off word width size turn ones (first + size) p within (off (first + size) (omega arith) within)
          (after size turn first size z ∙ self size (omega arith)))
      | inr beyond ↦ elim (cases_lt p.times 2) [
        | inl one ↦
            let once : p.times * size ≤ 1 * size = mul-le-mul_right size (omega arith) in
            let whole = p.whole in
            omega arith
        | inr two ↦
            let twice : 2 * size ≤ p.times * size = mul-le-mul_right size two in
            let whole = p.whole in
            absurd (omega arith)
      ]
    ]

-- ---- the length of a run

run_bit : (word width size turn ones first k : ℕ) → IsPeriodic word width size turn ones → (first + turn) % size ≡ 0
    → digit_at 2 word ((first + k) % width) ≡ bool_number (nat_le (k % size) ones)
run_bit word width size turn ones first k p z =
    p.bits ((first + k) % width) (mod_below (first + k) width p.some)
    ∙ ap (λ t. bool_number (nat_le t ones)) (wrap width p.times size turn (first + k) p.whole ∙ after size turn first k z)

pub ones-are : (word width size turn ones first count : ℕ) → IsPeriodic word width size turn ones → (first + turn) % size ≡ 0
    → count ≤ width → ((i : ℕ) → i < count → digit_at 2 word ((first + i) % width) ≡ 1)
    → (count < width → digit_at 2 word ((first + count) % width) ≡ 0) → count ≡ ones + 1
ones-are word width size turn ones first count p z le on off =
    let full = p.room in
    let all = size_le word width size turn ones p in
    elim (cases_order count (ones + 1)) [
      | inl same ↦ same
      | inr (inl less) ↦
          let bit = run_bit word width size turn ones first count p z in
          let at : count % size ≡ count = mod-eq_of_lt (omega arith) in
          let one : bool_number (nat_le (count % size) ones) ≡ 1 = ap bool_number (le-leb (count % size) ones (omega arith)) in
          let zero' = off (omega arith) in
          absurd (omega arith)
      | inr (inr more) ↦
          let bit = run_bit word width size turn ones first (ones + 1) p z in
          let at : (ones + 1) % size ≡ ones + 1 = mod-eq_of_lt full in
          let none : bool_number (nat_le ((ones + 1) % size) ones) ≡ 0 = ap bool_number (lt-leb ((ones + 1) % size) ones (omega arith)) in
          let one = on (ones + 1) more in
          absurd (omega arith)
    ]

-- ---- the fields of a length and a count of ones

highest-spec : (limit n : ℕ) → n < 2 ^ limit → 0 < highest_one limit n → (2 ^ highest_one limit n ≤ n) × (n < 2 ^ suc (highest_one limit n))
unfolding highest_one
highest-spec zero n lt some = absurd (omega arith)
highest-spec (suc k) n lt some = elim (cases_lt n (2 ^ k)) [
  | inl under ↦
      let e : highest_one (suc k) n ≡ highest_one k n = rw (lt-leb (2 ^ k) n under) refl in
      subst (λ h. 0 < h → (2 ^ h ≤ n) × (n < 2 ^ suc h)) (sym e) (highest-spec k n under) some
  | inr over ↦
      let e : highest_one (suc k) n ≡ k = rw (le-leb (2 ^ k) n over) refl in
      subst (λ h. (2 ^ h ≤ n) × (n < 2 ^ suc h)) (sym e) (over, lt)
]

highest-lt : (limit n : ℕ) → highest_one (suc limit) n < suc limit
unfolding highest_one
highest-lt zero n = elim (cases_lt n (2 ^ 0)) [
  | inl under ↦ rw (lt-leb (2 ^ 0) n under) (lit< tt)
  | inr over ↦ rw (le-leb (2 ^ 0) n over) (lit< tt)
]
highest-lt (suc k) n =
    let rest = highest-lt k n in
    elim (cases_lt n (2 ^ suc k)) [
      | inl under ↦
          let e : highest_one (suc (suc k)) n ≡ highest_one (suc k) n = rw (lt-leb (2 ^ suc k) n under) refl in
          omega arith
      | inr over ↦
          let e : highest_one (suc (suc k)) n ≡ suc k = rw (le-leb (2 ^ suc k) n over) refl in
          omega arith
    ]

pub length-lt : (n : Bool) (imms : ℕ) → length_of n imms < 7
unfolding length_of
length-lt n imms = highest-lt 6 (bool_number n * 64 + (63 - imms % 64))

length-spec : (n : Bool) (imms : ℕ) → 2 ≤ size_of n imms → (size_of n imms ≤ bool_number n * 64 + (63 - imms % 64))
    × (bool_number n * 64 + (63 - imms % 64) < size_of n imms * 2)
unfolding length_of
length-spec n imms some =
    let bits = bool_number n * 64 + (63 - imms % 64) in
    let bit = bool_number-lt n in
    let place : 0 < highest_one 7 bits = elim (cases_lt 0 (highest_one 7 bits)) [
      | inl more ↦ more
      | inr none ↦
          let z : highest_one 7 bits ≡ 0 = omega arith in
          let one : 2 ^ highest_one 7 bits ≡ 1 = ap (λ k. 2 ^ k) z in
          absurd (omega arith)
    ] in
    let both = highest-spec 7 bits (omega arith) place in
    (both.0, subst (λ k. bits < k) (pow-suc 2 (highest_one 7 bits)) both.1)

pub fields-wide : (n : Bool) (imms : ℕ) → imms < 64 → size_of n imms ≡ 64 → (n ≡ true) × (imms ≡ ones_of n imms)
fields-wide true imms lt e = (refl, sym (ap (λ k. imms % k) e ∙ mod-eq_of_lt lt))
fields-wide false imms lt e = let spec = length-spec false imms (omega arith) in absurd (let l = spec.0 in omega arith)

six_lengths : (P : ℕ → Type 0) → P 0 → P 1 → P 2 → P 3 → P 4 → P 5 → (l : ℕ) → l < 6 → P l
six_lengths P a b c d e f zero lt = a
six_lengths P a b c d e f (suc zero) lt = b
six_lengths P a b c d e f (suc (suc zero)) lt = c
six_lengths P a b c d e f (suc (suc (suc zero))) lt = d
six_lengths P a b c d e f (suc (suc (suc (suc zero)))) lt = e
six_lengths P a b c d e f (suc (suc (suc (suc (suc zero))))) lt = f
six_lengths P a b c d e f (suc (suc (suc (suc (suc (suc k)))))) lt = absurd (omega arith)

-- above the ones, imms has the inverse of the length's bit, below ones
imms_of : (l imms : ℕ) → l < 6 → 2 ^ l ≤ 63 - imms → 63 - imms < 2 ^ l * 2 → imms < 64 → imms ≡ 64 - 2 * 2 ^ l + imms % 2 ^ l
imms_of l imms lt = six_lengths (λ l. 2 ^ l ≤ 63 - imms → 63 - imms < 2 ^ l * 2 → imms < 64 → imms ≡ 64 - 2 * 2 ^ l + imms % 2 ^ l)
    (λ a b c. omega arith) (λ a b c. omega arith) (λ a b c. omega arith) (λ a b c. omega arith) (λ a b c. omega arith)
    (λ a b c. omega arith) l lt

pub fields-narrow : (n : Bool) (imms : ℕ) → imms < 64 → 2 ≤ size_of n imms → size_of n imms ≤ 32 → (n ≡ false)
    × (imms ≡ 64 - 2 * size_of n imms + ones_of n imms)
fields-narrow true imms lt some le = let spec = length-spec true imms some in absurd (let l = spec.1 in omega arith)
fields-narrow false imms lt some le =
    let spec = length-spec false imms some in
    let low = spec.0 in
    let high = spec.1 in
    let short : length_of false imms < 6 =
    below_power (length_of false imms) 6 (size_of false imms) (omega arith) (let h : size_of false imms < 64 = omega arith in h) in
    (refl, imms_of (length_of false imms) imms short (omega arith) (omega arith) lt)

pub size-known : (n : Bool) (imms : ℕ) → (size_of n imms ≡ 64) ⊎ (size_of n imms ≤ 32)
size-known n imms = elim (cases_lt (length_of n imms) 6) [
  | inl less ↦ inr (size_half (length_of n imms) less)
  | inr more ↦ let lt = length-lt n imms in inl (ap (λ k. 2 ^ k) (let e : length_of n imms ≡ 6 = omega arith in e))
]

abbrev width_log : Bool → ℕ
width_log true = 6
width_log false = 5

-- ---- what the fields of a word say of it

some-mask : (n wide : Bool) (imms immr word : ℕ) → bit_mask_of n imms immr wide ≡ Some word → (is_reserved n imms wide ≡ false)
    × (mask_of n imms immr wide ≡ word)
some-mask n wide imms immr word e = elim (cases_Bool (is_reserved n imms wide)) [
  | inl taken ↦ let f = none-of n wide imms immr taken in cc
  | inr left ↦ let f = some-of n wide imms immr left in (left, cc)
]

or_parts : (a b c : Bool) → (a || b || c) ≡ false → (a ≡ false) × (b ≡ false) × (c ≡ false)
or_parts false false false e = (refl, refl, refl)
or_parts true b c e = cc
or_parts false true c e = cc
or_parts false false true e = cc

narrow_one : (n wide : Bool) → (n && not wide) ≡ false → n ≡ true → wide ≡ true
narrow_one true true e f = refl
narrow_one true false e f = cc
narrow_one false wide e f = cc

free-parts : (n wide : Bool) (imms : ℕ) → is_reserved n imms wide ≡ false → (n ≡ true → wide ≡ true) × (length_of n imms ≢ 0)
    × (ones_of n imms ≢ size_of n imms - 1)
unfolding is_reserved
free-parts n wide imms e =
    let parts = or_parts (n && not wide) (length_of n imms == 0) (ones_of n imms == size_of n imms - 1) e in
    (narrow_one n wide parts.0, (λ z. both_ways _ parts.1 (eq-eqb _ _ z)), (λ z. both_ways _ parts.2 (eq-eqb _ _ z)))

whole-times : (wide : Bool) (l : ℕ) → l < 7 → (wide ≡ false → l < 6) → width_of wide ≡ 2 ^ (width_log wide - l) * 2 ^ l
whole-times true l lt short = let e : 6 - l + l ≡ 6 = omega arith in ap (λ k. 2 ^ k) (sym e) ∙ pow-add 2 (6 - l) l
whole-times false l lt short =
    let small = short refl in
    let e : 5 - l + l ≡ 5 = omega arith in
    ap (λ k. 2 ^ k) (sym e) ∙ pow-add 2 (5 - l) l

width-some : (wide : Bool) → 0 < width_of wide
width-some true = lit< tt
width-some false = lit< tt

-- elements of 64 bits are of words of 64
short : (n wide : Bool) (imms immr mask : ℕ) → IsFieldsOf n imms immr wide mask → is_reserved n imms wide ≡ false → wide ≡ false
    → length_of n imms < 6
short n true imms immr mask f free e = cc
short n false imms immr mask f free e =
    let parts = free-parts n false imms free in
    let lt = length-lt n imms in
    elim (cases_lt (length_of n imms) 6) [
      | inl less ↦ less
      | inr more ↦
          let six : size_of n imms ≡ 64 = ap (λ k. 2 ^ k) (let e : length_of n imms ≡ 6 = omega arith in e) in
          let one = fields-wide n imms f.imms_in_range six in
          let wide = parts.0 one.0 in
          cc
    ]

bit_from : (d a b : ℕ) → d < 2 → (d ≡ 1) ↔ (a ≤ b) → d ≡ bool_number (nat_le a b)
bit_from d a b lt iff = elim (cases_lt b a) [
  | inl less ↦
      let off : d ≢ 1 = λ e. let le = iff.0 e in omega arith in
      (let z : d ≡ 0 = omega arith in z) ∙ ap bool_number (sym (lt-leb a b less))
  | inr more ↦ iff.1 more ∙ ap bool_number (sym (le-leb a b more))
]

pub periodic-of : (n wide : Bool) (imms immr word : ℕ) → IsFieldsOf n imms immr wide word
    → IsPeriodic word (width_of wide) (size_of n imms) immr (ones_of n imms)
periodic-of n wide imms immr word f =
    let given = some-mask n wide imms immr word f.given in
    let parts = free-parts n wide imms given.0 in
    let facts = subst (IsMask n imms immr wide) given.1 (mask-facts n wide imms immr) in
    let size = pow_pos (length_of n imms) in
    let ones = mod_below imms (size_of n imms) size in
    let other = parts.2 in
    let turn : turn_of n imms immr ≡ immr = mod-eq_of_lt f.immr_in_range in
    record {
      times = 2 ^ (width_log wide - length_of n imms);
      whole = whole-times wide (length_of n imms) (length-lt n imms) (short n wide imms immr word f given.0);
      some = width-some wide;
      room = omega arith;
      turn_in_range = f.immr_in_range;
      bits = λ i lt. bit_from (digit_at 2 word i) ((i + immr) % size_of n imms) (ones_of n imms) (bit_at-lt word i)
          (subst (λ t. (digit_at 2 word i ≡ 1) ↔ ((i + t) % size_of n imms ≤ ones_of n imms)) turn (facts.bits i lt));
    }

-- an element has a one and a zero
pub size-some : (n wide : Bool) (imms immr word : ℕ) → IsFieldsOf n imms immr wide word → 2 ≤ size_of n imms
size-some n wide imms immr word f = let p = periodic-of n wide imms immr word f in let room = p.room in omega arith

pub triple : (a n : Bool) (b c imms immr : ℕ) → a ≡ n → b ≡ imms → c ≡ immr
    → ◌≡◌ {A = Option (Bool × ℕ × ℕ)} (Some (a, b, c)) (Some (n, imms, immr))
triple a n b c imms immr e f g = cc

-- ---- the other fields of a mask

turn_again : (n wide : Bool) (imms immr : ℕ) → bit_mask_of n imms (immr % size_of n imms) wide ≡ bit_mask_of n imms immr wide
unfolding bit_mask_of mask_of
turn_again n wide imms immr =
    ap (λ t. if is_reserved n imms wide then None else Some
    (number_of_digits 2 (λ i. bool_number (nat_le ((i + t) % size_of n imms) (ones_of n imms))) (width_of wide)))
    (mod-mod immr (size_of n imms))

fields-again : (n wide : Bool) (imms immr word : ℕ) → imms < 64 → bit_mask_of n imms immr wide ≡ Some word
    → IsFieldsOf n imms (immr % size_of n imms) wide word
fields-again n wide imms immr word lt e = record {
  imms_in_range = lt;
  immr_in_range = mod_below immr (size_of n imms) (pow_pos (length_of n imms));
  given = turn_again n wide imms immr ∙ e;
}

-- no fields are found only where there are none
pub none-exactly : (wide : Bool) (word : ℕ) (r : Option (Bool × ℕ × ℕ)) → IfSome r (λ f. IsFieldsOf f.0 f.1 f.2 wide word)
    → ((n : Bool) (imms immr : ℕ) → IsFieldsOf n imms immr wide word → r ≡ Some (n, imms, immr)) → IsNone r
    ↔ ((n : Bool) (imms immr : ℕ) → imms < 64 → immr < 64 → bit_mask_of n imms immr wide ≢ Some word)
none-exactly wide word None some only =
    ((λ _ n imms immr l m e. let found = only n imms (immr % size_of n imms) (fields-again n wide imms immr word l e) in cc), (λ _. refl))
none-exactly wide word (Some f) some only = (
  (λ e. absurd (both_ways true e refl)),
  (λ all. absurd (let lt = some.immr_in_range in let le = size_small (length_of f.0 f.1) (length-lt f.0 f.1) in
      all f.0 f.1 f.2 some.imms_in_range (omega arith) some.given)),
)
