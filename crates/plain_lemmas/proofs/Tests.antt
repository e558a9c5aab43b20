-- What `&&`, `||` and `not` of tests tell, and what tests of numbers do.
use Rattle.std.proofs.Common.{◌≡◌, ◌≢◌, ℕ, zero, suc, ◌<◌, ◌≤◌, ◌==◌, ◌&&◌, ◌||◌, Bool, true, false, not, cond, IsTrue, refl, arith}
use Rattle.std.proofs.lemmas.Bool.Decides.{nat_tests}
use Rattle.std.specs.Ordering.{nat_cmp, eq_by_cmp, is_lt}

-- ---- tests put together

pub and_first : (a b : Bool) → (a && b) ≡ true → a ≡ true
and_first true b e = refl
and_first false b e = e

pub and_second : (a b : Bool) → (a && b) ≡ true → b ≡ true
and_second true b e = e
and_second false b e = cc

pub and-false : (b : Bool) → (b && false) ≡ false
and-false true = refl
and-false false = refl

pub or-false : (b : Bool) → (b || false) ≡ b
or-false true = refl
or-false false = refl

pub or_first : (a b : Bool) → (a || b) ≡ false → a ≡ false
or_first true b e = e
or_first false b e = refl

pub or_second : (a b : Bool) → (a || b) ≡ false → b ≡ false
or_second true b e = cc
or_second false b e = e

-- `Or.resolve_left` and `Or.elim` in other libraries
pub or_resolve_left : (a b : Bool) → (a || b) ≡ true → a ≡ false → b ≡ true
or_resolve_left true b e off = cc
or_resolve_left false b e off = e

pub or_elim : {P : Type 0} (a b : Bool) → (a || b) ≡ true → (a ≡ true → P) → (b ≡ true → P) → P
or_elim true b e f g = f refl
or_elim false b e f g = g e

-- `not a || b` says that a implies b
pub implied : (a b : Bool) → (not a || b) ≡ true → a ≡ true → b ≡ true
implied true b e on = e
implied false b e on = cc

pub not_both : (b : Bool) → not b ≡ true → b ≡ true → ⊥
not_both true e f = cc
not_both false e f = cc

pub not_IsTrue-false : IsTrue false → ⊥
not_IsTrue-false e = cc

-- ---- tests of numbers

pub eqb-self : (n : ℕ) → (n == n) ≡ true
eqb-self n = grind (arith, nat_tests)

pub eqb-zero_of_pos : (n : ℕ) → 0 < n → (n == 0) ≡ false
eqb-zero_of_pos n some = grind (arith, nat_tests)

pub ne_from_not_eqb : (a b : ℕ) → not (a == b) ≡ true → a ≢ b
ne_from_not_eqb a b e = grind (arith, nat_tests)

pub lt_from_ne_le : (a b : ℕ) → (a == b) ≡ false → a ≤ b → a < b
lt_from_ne_le a b e le = grind (arith, nat_tests)

-- ---- the order of numbers as keys of a map

pub eq_by_cmp-nat : (q k : ℕ) → eq_by_cmp nat_cmp q k ≡ (k == q)
eq_by_cmp-nat q k = grind (arith, nat_tests)

pub eq_by_cmp-self : (k : ℕ) → eq_by_cmp nat_cmp k k ≡ true
eq_by_cmp-self k = grind (arith, nat_tests)

pub eq_by_cmp-true : (q k : ℕ) → eq_by_cmp nat_cmp q k ≡ true → q ≡ k
eq_by_cmp-true q k e = grind (arith, nat_tests)

pub eq_by_cmp-above : (k n : ℕ) → k < n → eq_by_cmp nat_cmp n k ≡ false
eq_by_cmp-above k n lt = grind (arith, nat_tests)

pub is_lt-true : (k n : ℕ) → is_lt (nat_cmp k n) ≡ true → k < n
is_lt-true k n e = grind (arith, nat_tests)

-- what the parts of a test are, as one set
pub ruleset test_parts = (and_first, and_second, and-false, or-false, or_first, or_second, or_resolve_left, implied, not_both)
