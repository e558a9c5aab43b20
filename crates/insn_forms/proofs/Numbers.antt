-- The numbers that fields can have, for the tables that say their ranges.
use Rattle.std.proofs.Common.{◌≡◌, ℕ, zero, suc, ◌-◌, ◌+◌, ◌%◌, ◌<◌, ◌≤◌, ◌^◌, ◌==◌, ◌&&◌, Bool, true, false, cond, nat_lt, refl, ap, ap₂}
use Rattle.std.proofs.Common.{◌∙◌, arith, eqb-true, mod-eq_of_lt, ℤ, pos, ◌-ℤ◌, ◌≤ℤ◌, ◌<ℤ◌}
use Rattle.std.specs.Prelude.{length, int_le, int_lt}
use denote.Enum.Declared.{Declared, variants, tag_of}
use denote.Enum.Enum.{tag_below}
use Rattle.std.proofs.lemmas.Bool.{lt-ltb, ltb-true, ltb-false, eqb-false, and_parts}
use Rattle.std.proofs.lemmas.Int.{ints}
use Rattle.plain_lemmas.proofs.Numbers.{two_pow-halves}
use Rattle.insn_forms.specs.declared.field.Field.{Field}
use Rattle.insn_forms.specs.Fields.{bits_of, field_in, signed_value}
use Rattle.insn_forms.specs.Forms.{flag_bit, is_signed}
use Rattle.insn_forms.specs.Values.{IsSigned}
use Rattle.insn_forms.proofs.Bits.{field_in-lt}

-- ---- a test of all numbers below a bound
unfoldable pub all_below : (ℕ → Bool) → ℕ → Bool
all_below p zero = true
all_below p (suc n) = p n && all_below p n

pub below : (p : ℕ → Bool) (n k : ℕ) → all_below p n ≡ true → k < n → p k ≡ true
unfolding all_below
below p zero k e lt = absurd (omega arith)
below p (suc n) k e lt = here (k == n) refl (λ g. below p n k (and_parts (p n) (all_below p n) e).1 g)
  where
    here : (b : Bool) → (k == n) ≡ b → (k < n → p k ≡ true) → p k ≡ true
    here true h on = ap p (eqb-true k n h) ∙ (and_parts (p n) (all_below p n) e).0
    here false h on = let g = eqb-false k n h in on (omega arith)

-- the numbers below a bound are those of what they stand for, by a test of each
pub same_below : (g : ℕ → ℕ) (n k : ℕ) → all_below (λ m. g m == m) n ≡ true → k < n → g k ≡ k
same_below g n k e lt = eqb-true _ _ (below (λ m. g m == m) n k e lt)

-- ---- numbers that are in their fields
infixr 35 ◌&◌
pub ◌&◌ : {a b : Bool} → a ≡ true → b ≡ true → (a && b) ≡ true
e & f = ap₂ (λ x y. x && y) e f

-- a number below what its field holds
pub low : {n m : ℕ} → n < m → nat_lt n m ≡ true
low lt = lt-ltb _ _ lt

pub flag : (b : Bool) → nat_lt (flag_bit b) 2 ≡ true
flag true = refl
flag false = refl

-- the number of one of the variants of a type
pub tag : (T : Declared) (it : T.D) → nat_lt (tag_of T it) (length (variants T)) ≡ true
tag T it = low (tag_below (variants T) (T.to it))

le_test : (a b : ℤ) → a ≤ℤ b → int_le a b ≡ true
le_test a b h = grind (arith, ints)

lt_test : (a b : ℤ) → a <ℤ b → int_lt a b ≡ true
lt_test a b h = grind (arith, ints)

-- a number in two's complement
pub signed : (width : ℕ) (z : ℤ) → 0 < width → (pos 0 -ℤ pos (2 ^ (width - 1))) ≤ℤ z → z <ℤ pos (2 ^ (width - 1)) → is_signed width z ≡ true
unfolding is_signed
signed width z some from to = (low some & le_test _ _ from) & lt_test _ _ to

pub twos_complement : (width : ℕ) (z : ℤ) → 0 < width → IsSigned width z → is_signed width z ≡ true
twos_complement width z some h = signed width z some h.low h.high

-- ---- numbers of fields
pub small : (f : Field) (w : ℕ) → field_in f w % 2 ^ 8 < 2 ^ bits_of f
small f w = let lt = field_in-lt f w in omega arith

pub half_small : (f : Field) (w : ℕ) → field_in f w % 2 ^ 16 < 2 ^ bits_of f
half_small f w = let lt = field_in-lt f w in omega arith

pub cut_below : (n m : ℕ) → n < m → n % 2 ^ 8 < m
cut_below n m lt = omega arith

pub uncut : (f : Field) (w : ℕ) → 2 ^ bits_of f ≤ 2 ^ 8 → field_in f w % 2 ^ 8 ≡ field_in f w
uncut f w le = let lt = field_in-lt f w in mod-eq_of_lt (omega arith)

-- a number below twice a half, less the whole from the half on
in_halves : (half whole bits : ℕ) → whole ≡ half + half → bits < whole → (b : Bool) → (b ≡ true → bits < half) → (b ≡ false → half ≤ bits)
    → ((pos 0 -ℤ pos half) ≤ℤ cond b (pos bits) (pos bits -ℤ pos whole)) × (cond b (pos bits) (pos bits -ℤ pos whole) <ℤ pos half)
in_halves half whole bits e small true f g = let h = f refl in (omega (arith, ints), omega (arith, ints))
in_halves half whole bits e small false f g = let h = g refl in (omega (arith, ints), omega (arith, ints))

pub signed_small : (f : Field) (w : ℕ) → 0 < bits_of f
    → ((pos 0 -ℤ pos (2 ^ (bits_of f - 1))) ≤ℤ signed_value (bits_of f) (field_in f w))
    × (signed_value (bits_of f) (field_in f w) <ℤ pos (2 ^ (bits_of f - 1)))
unfolding signed_value
signed_small f w some =
    let n = field_in f w in
    in_halves (2 ^ (bits_of f - 1)) (2 ^ bits_of f) n (two_pow-halves (bits_of f) some) (field_in-lt f w) (nat_lt n (2 ^ (bits_of f - 1)))
    (ltb-true _ _) (ltb-false _ _)

pub signed_ranged : (f : Field) (w : ℕ) → 0 < bits_of f → IsSigned (bits_of f) (signed_value (bits_of f) (field_in f w))
signed_ranged f w some = let both = signed_small f w some in record { low = both.0; high = both.1 }
