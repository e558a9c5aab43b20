-- Numbers of sources: how large they are, and the sums of their products.
use Rattle.std.proofs.Common.{◌≡◌, ℕ, zero, suc, ◌-◌, ◌*◌, ◌^◌, ◌<◌, ap, ◌∙◌, sym, arith, inl, inr, cond, subst}
use Rattle.std.proofs.Common.{Bool, true, false, if◌then◌else◌, ℤ, pos, ◌+ℤ◌, ◌-ℤ◌, ◌*ℤ◌, lt-ltb, le-ltb, nat_lt}
use Rattle.std.specs.Prelude.{negsuc, neg_ℤ, FitsSigned}
use Rattle.std.specs.Int.{w16, w32}
use Rattle.std.proofs.lemmas.Bool.{cases_lt, cond-true, cond-false}
use Rattle.std.proofs.lemmas.Int.{ints}
use Rattle.std.proofs.Math.IntN.{pos-*ℤ-negsuc, negsuc-*ℤ-negsuc, negsuc-*ℤ-pos, neg_ℤ-neg_ℤ}
use Rattle.plain_lemmas.proofs.Numbers.{pos_sub-lt}
use Rattle.vector_elements.specs.declared.size.Size.{Size}
use Rattle.vector_elements.specs.declared.size.Size.TheVariants.{B, H, S, D}
use Rattle.vector_elements.specs.Numbers.{range_of, signed_of, wrapped}
use Rattle.outer_products.specs.OuterProducts.{number_of}
use Rattle.outer_products.specs.Sources.{negated}

-- a number is below m without its sign
abbrev pub IsWithin : ℕ → ℤ → Type 0
IsWithin m (pos n) = n < m
IsWithin m (negsuc n) = suc n < m

pub wrapped_fits : (size : Size) (z : ℤ) → wrapped size z < range_of size
unfolding wrapped
wrapped_fits B (pos n) = omega arith
wrapped_fits H (pos n) = omega arith
wrapped_fits S (pos n) = omega arith
wrapped_fits D (pos n) = omega arith
wrapped_fits B (negsuc n) = omega arith
wrapped_fits H (negsuc n) = omega arith
wrapped_fits S (negsuc n) = omega arith
wrapped_fits D (negsuc n) = omega arith

-- a number of a source is less than the range of its elements
either_within : (half range x : ℕ) → 0 < half → x < range → IsWithin range (cond (nat_lt x half) (pos x) (pos x -ℤ pos range))
either_within half range x some fits = elim (cases_lt x half) [
  | inl lt ↦ subst (IsWithin range) (sym (cond-true _ _ _ (lt-ltb x half lt))) fits
  | inr ge ↦
      let below : suc (range - x - 1) < range = omega arith in
      subst (IsWithin range) (sym (cond-false _ _ _ (le-ltb x half ge) ∙ pos_sub-lt x range fits)) below
]

signed_within : (size : Size) (x : ℕ) → x < range_of size → IsWithin (range_of size) (signed_of size x)
unfolding signed_of
signed_within B x fits = either_within (2 ^ 7) (2 ^ 8) x (omega arith) fits
signed_within H x fits = either_within (2 ^ 15) (2 ^ 16) x (omega arith) fits
signed_within S x fits = either_within (2 ^ 31) (2 ^ 32) x (omega arith) fits
signed_within D x fits = either_within (2 ^ 63) (2 ^ 64) x (omega arith) fits

pub number_within : (signed : Bool) (size : Size) (x : ℕ) → x < range_of size → IsWithin (range_of size) (number_of signed size x)
unfolding number_of
number_within true size x fits = signed_within size x fits
number_within false size x fits = fits

pub negated_within : (negative : Bool) (m : ℕ) (z : ℤ) → IsWithin m z → IsWithin m (negated negative z)
negated_within true m (pos zero) within = within
negated_within true m (pos (suc n)) within = within
negated_within true m (negsuc n) within = within
negated_within false m z within = within

-- numbers of bytes fit 16 bits, and those of halfwords 32
pub byte_fits : (z : ℤ) → IsWithin (range_of B) z → FitsSigned w16 z
byte_fits (pos n) within = record { sfits = omega (arith, within) }
byte_fits (negsuc n) within = record { sfits = omega (arith, within) }

pub halfword_fits : (z : ℤ) → IsWithin (range_of H) z → FitsSigned w32 z
halfword_fits (pos n) within = record { sfits = omega (arith, within) }
halfword_fits (negsuc n) within = record { sfits = omega (arith, within) }

negative_product : (a b : ℤ) → neg_ℤ a *ℤ b ≡ neg_ℤ (a *ℤ b)
negative_product (pos zero) b = (let none : pos 0 *ℤ b ≡ pos 0 = omega (arith, ints) in none ∙ ap neg_ℤ (sym none))
negative_product (pos (suc m)) (pos n) = negsuc-*ℤ-pos m n
negative_product (pos (suc m)) (negsuc n) =
    negsuc-*ℤ-negsuc m n ∙ sym (ap neg_ℤ (pos-*ℤ-negsuc (suc m) n) ∙ neg_ℤ-neg_ℤ (pos (suc m * suc n)))
negative_product (negsuc m) (pos n) = sym (ap neg_ℤ (negsuc-*ℤ-pos m n) ∙ neg_ℤ-neg_ℤ (pos (suc m * n)))
negative_product (negsuc m) (negsuc n) = pos-*ℤ-negsuc (suc m) n ∙ sym (ap neg_ℤ (negsuc-*ℤ-negsuc m n))

less_four : (old p0 p1 p2 p3 : ℤ)
    → old +ℤ ((neg_ℤ p0 +ℤ neg_ℤ p1) +ℤ (neg_ℤ p2 +ℤ neg_ℤ p3)) ≡ old -ℤ ((((pos 0 +ℤ p0) +ℤ p1) +ℤ p2) +ℤ p3)
less_four old p0 p1 p2 p3 = omega (arith, ints)

more_four : (old p0 p1 p2 p3 : ℤ) → old +ℤ ((p0 +ℤ p1) +ℤ (p2 +ℤ p3)) ≡ old +ℤ ((((pos 0 +ℤ p0) +ℤ p1) +ℤ p2) +ℤ p3)
more_four old p0 p1 p2 p3 = omega (arith, ints)

-- the products of the negatives are subtracted
pub four_products : (negative : Bool) (old a0 a1 a2 a3 b0 b1 b2 b3 : ℤ)
    → old +ℤ ((negated negative a0 *ℤ b0 +ℤ negated negative a1 *ℤ b1) +ℤ (negated negative a2 *ℤ b2 +ℤ negated negative a3 *ℤ b3))
    ≡ (if negative then old -ℤ ((((pos 0 +ℤ a0 *ℤ b0) +ℤ a1 *ℤ b1) +ℤ a2 *ℤ b2) +ℤ a3 *ℤ b3)
    else old +ℤ ((((pos 0 +ℤ a0 *ℤ b0) +ℤ a1 *ℤ b1) +ℤ a2 *ℤ b2) +ℤ a3 *ℤ b3))
four_products true old a0 a1 a2 a3 b0 b1 b2 b3 =
    let n0 = negative_product a0 b0 in
    let n1 = negative_product a1 b1 in
    let n2 = negative_product a2 b2 in
    let n3 = negative_product a3 b3 in
    let f = less_four old (a0 *ℤ b0) (a1 *ℤ b1) (a2 *ℤ b2) (a3 *ℤ b3) in
    cc
four_products false old a0 a1 a2 a3 b0 b1 b2 b3 = more_four old (a0 *ℤ b0) (a1 *ℤ b1) (a2 *ℤ b2) (a3 *ℤ b3)
