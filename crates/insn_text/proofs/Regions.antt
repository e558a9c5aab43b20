-- Words by the values of some of their bits, and a test that each word of a region is printed.
-- A region is a mask and the value of its bits: the words that have it.
use Rattle.std.proofs.Common.{◌≡◌, ℕ, zero, suc, ◌-◌, ◌*◌, ◌^◌, ◌<◌, Bool, true, false, not, ◌&&◌, ◌||◌, ◌==◌, cond, List, [], ◌∷◌, Some}
use Rattle.std.proofs.Common.{bit_and, refl, sym, ap, ap₂, ◌∙◌, arith, eqb-true, eq-eqb}
use Rattle.std.specs.Prelude.{bit_or}
use Rattle.std.specs.List.{find, list_all}
use Rattle.std.specs.Int.{bit_at}
use Rattle.std.specs.Int.Bits.{or_zero_r}
use Rattle.std.proofs.lemmas.Nat.{and_assoc, and_comm}
use Rattle.std.proofs.lemmas.Nat.Bits.{and_pow, bit_at_and, bit_at_or, bit_at-lt, same_from_bits}
use Rattle.std.proofs.lemmas.Bool.{and_parts, false_from_ne_true}
use Rattle.bit_ops.specs.Masks.{highest_one}
use Rattle.insn_text.specs.declared.item.Shape.{Shape}
use Rattle.insn_text.specs.Texts.{prints, items_of}
use Rattle.insn_text.specs.Rules.{is_sayable}

-- no word of the region is printed in the shape
unfoldable pub is_apart : ℕ → ℕ → Shape → Bool
is_apart mask value s = s.alias || not (bit_and s.value mask == bit_and value s.mask)

-- each word of the region has the shape's fixed bits
unfoldable pub is_inside : ℕ → ℕ → Shape → Bool
is_inside mask value s = (bit_and s.mask mask == s.mask) && (bit_and value s.mask == s.value)

-- the highest bit that the shape fixes and the region does not
unfoldable pub free_bit : ℕ → Shape → ℕ
free_bit mask s = 2 ^ highest_one 32 (s.mask - bit_and s.mask mask)

abbrev pub Test : Type 0
Test = ℕ → ℕ → List Shape → Bool

-- how a region is tested at a shape: on to the next, or at its operands, or by halves
unfoldable pub covers_at : Test → (ℕ → ℕ → Shape → Bool) → ℕ → ℕ → Shape → List Shape → Bool → Bool → Bool
covers_at go says mask value s ss true inside = go mask value ss
covers_at go says mask value s ss false true = says mask value s
covers_at go says mask value s ss false false =
    go (bit_or mask (free_bit mask s)) value (s ∷ ss) && go (bit_or mask (free_bit mask s)) (bit_or value (free_bit mask s)) (s ∷ ss)

-- each word of the region that is to be printed is printed in one of the shapes; where none is left, the region is to have no such word
unfoldable pub covers : (ℕ → ℕ → Bool) → (ℕ → ℕ → Shape → Bool) → ℕ → ℕ → ℕ → List Shape → Bool
covers ends says zero mask value ss = false
covers ends says (suc fuel) mask value [] = ends mask value
covers ends says (suc fuel) mask value (s ∷ ss) =
    covers_at (λ m v rest. covers ends says fuel m v rest) says mask value s ss (is_apart mask value s) (is_inside mask value s)

unfoldable pub keep_unless : Bool → Shape → List Shape → List Shape
keep_unless true s rest = rest
keep_unless false s rest = s ∷ rest

-- the shapes in which words of the region may be printed
unfoldable pub kept : ℕ → ℕ → List Shape → List Shape
kept mask value [] = []
kept mask value (s ∷ ss) = keep_unless (is_apart mask value s) s (kept mask value ss)

-- ---- halves of a region

and-or : (a b c : ℕ) → bit_and a (bit_or b c) ≡ bit_or (bit_and a b) (bit_and a c)
and-or a b c = same_from_bits (bit_and a (bit_or b c)) (bit_or (bit_and a b) (bit_and a c)) (λ i. at i)
  where
    at : (i : ℕ) → bit_at (bit_and a (bit_or b c)) i ≡ bit_at (bit_or (bit_and a b) (bit_and a c)) i
    at i =
        omega (
          arith,
          bit_at_and a (bit_or b c) i,
          bit_at_or b c i,
          bit_at_or (bit_and a b) (bit_and a c) i,
          bit_at_and a b i,
          bit_at_and a c i,
        )

pub data IsBit (word bit : ℕ) : Type 0 where
  clear : bit_and word bit ≡ 0 → IsBit word bit
  is_set : bit_and word bit ≡ bit → IsBit word bit

pub one_bit : (word bit : ℕ) → IsBit word (2 ^ bit)
one_bit word bit = by_value (bit_at word bit) (bit_at-lt word bit) (and_pow word bit)
  where
    by_value : (n : ℕ) → n < 2 → bit_and word (2 ^ bit) ≡ n * 2 ^ bit → IsBit word (2 ^ bit)
    by_value zero lt e = clear (e ∙ (omega arith))
    by_value (suc zero) lt e = is_set (e ∙ (omega arith))
    by_value (suc (suc n)) lt e = absurd (omega arith)

free_one : (word mask : ℕ) (s : Shape) → IsBit word (free_bit mask s)
unfolding free_bit
free_one word mask s = one_bit word (highest_one 32 (s.mask - bit_and s.mask mask))

pub half_clear : (word mask value bit : ℕ) → bit_and word mask ≡ value → bit_and word bit ≡ 0 → bit_and word (bit_or mask bit) ≡ value
half_clear word mask value bit m z = and-or word mask bit ∙ ap₂ bit_or m z ∙ or_zero_r value

pub half_set : (word mask value bit : ℕ) → bit_and word mask ≡ value → bit_and word bit ≡ bit
    → bit_and word (bit_or mask bit) ≡ bit_or value bit
half_set word mask value bit m z = and-or word mask bit ∙ ap₂ bit_or m z

-- ---- a region and a shape

agree : (word mask value : ℕ) (s : Shape) → bit_and word mask ≡ value → bit_and word s.mask ≡ s.value
    → bit_and s.value mask ≡ bit_and value s.mask
agree word mask value s m n =
    ap (λ x. bit_and x mask) (sym n) ∙ and_assoc mask word s.mask ∙ ap (bit_and word) (and_comm s.mask mask)
    ∙ sym (and_assoc s.mask word mask) ∙ ap (λ x. bit_and x s.mask) m

apart_prints : (word mask value : ℕ) (s : Shape) → bit_and word mask ≡ value → is_apart mask value s ≡ true → prints word s ≡ false
unfolding is_apart prints
apart_prints word mask value s m e = false_from_ne_true (not s.alias && (bit_and word s.mask == s.value)) (λ p.
    let parts = and_parts (not s.alias) (bit_and word s.mask == s.value) p in
    neither s.alias _ parts.0 (eq-eqb _ _ (agree word mask value s m (eqb-true _ _ parts.1))) e)
  where
    neither : (a b : Bool) → not a ≡ true → b ≡ true → (a || not b) ≡ true → ⊥
    neither true b x y z = cc
    neither false true x y z = cc
    neither false false x y z = cc

inside_prints : (word mask value : ℕ) (s : Shape) → bit_and word mask ≡ value → is_apart mask value s ≡ false
    → is_inside mask value s ≡ true → prints word s ≡ true
unfolding is_apart is_inside prints
inside_prints word mask value s m a e =
    let parts = and_parts (bit_and s.mask mask == s.mask) (bit_and value s.mask == s.value) e in
    let fixed : bit_and word s.mask ≡ s.value =
    ap (bit_and word) (sym (eqb-true _ _ parts.0) ∙ and_comm s.mask mask) ∙ sym (and_assoc s.mask word mask) ∙ ap (λ x. bit_and x s.mask) m
    ∙ eqb-true _ _ parts.1 in
    no_alias s.alias _ _ a (eq-eqb _ _ fixed)
  where
    no_alias : (alias b c : Bool) → (alias || not b) ≡ false → c ≡ true → (not alias && c) ≡ true
    no_alias true b c x y = cc
    no_alias false b c x y = y

-- ---- the test is sound

-- the word is printed in one of the shapes, whose operands have texts for its fields
pub record PrintedIn (word : ℕ) (shapes : List Shape) : Type 0 where
  pub shape : Shape
  pub found : find (prints word) shapes ≡ Some shape
  pub sayable : list_all (is_sayable word) (items_of shape) ≡ true

first_here : (word : ℕ) (s : Shape) (ss : List Shape) → prints word s ≡ true → find (prints word) (s ∷ ss) ≡ Some s
first_here word s ss e = ap (λ b. cond b (Some s) (find (prints word) ss)) e

first_later : (word : ℕ) (s : Shape) (ss : List Shape) → prints word s ≡ false → find (prints word) (s ∷ ss) ≡ find (prints word) ss
first_later word s ss e = ap (λ b. cond b (Some s) (find (prints word) ss)) e

printed_later : (word : ℕ) (s : Shape) (ss : List Shape) → prints word s ≡ false → PrintedIn word ss → PrintedIn word (s ∷ ss)
printed_later word s ss e p = record { shape = p.shape; found = first_later word s ss e ∙ p.found; sayable = p.sayable }

pub find-kept : (word mask value : ℕ) (ss : List Shape) → bit_and word mask ≡ value
    → find (prints word) (kept mask value ss) ≡ find (prints word) ss
unfolding kept keep_unless
find-kept word mask value [] m = refl
find-kept word mask value (s ∷ ss) m = by_test (find-kept word mask value ss m) (is_apart mask value s) refl
  where
    by_test : find (prints word) (kept mask value ss) ≡ find (prints word) ss → (b : Bool) → is_apart mask value s ≡ b
        → find (prints word) (keep_unless b s (kept mask value ss)) ≡ find (prints word) (s ∷ ss)
    by_test rest true e = rest ∙ sym (first_later word s ss (apart_prints word mask value s m e))
    by_test rest false e = ap (cond (prints word s) (Some s)) rest

module _ (word : ℕ) (says : ℕ → ℕ → Shape → Bool)
    (says_sound : (mask value : ℕ) (s : Shape) → bit_and word mask ≡ value → says mask value s ≡ true
    → list_all (is_sayable word) (items_of s) ≡ true) where
  covers_at-printed : (go : Test) → ((mask value : ℕ) (ss : List Shape) → go mask value ss ≡ true → bit_and word mask ≡ value
      → PrintedIn word ss) → (mask value : ℕ) (s : Shape) (ss : List Shape)
      → (apart inside : Bool) → is_apart mask value s ≡ apart → is_inside mask value s ≡ inside
      → covers_at go says mask value s ss apart inside ≡ true → bit_and word mask ≡ value → PrintedIn word (s ∷ ss)
  unfolding covers_at
  covers_at-printed go sound mask value s ss true inside a i e m =
      printed_later word s ss (apart_prints word mask value s m a) (sound mask value ss e m)
  covers_at-printed go sound mask value s ss false true a i e m =
      record { shape = s; found = first_here word s ss (inside_prints word mask value s m a i); sayable = says_sound mask value s m e }
  covers_at-printed go sound mask value s ss false false a i e m =
      let bit = free_bit mask s in
      let parts = and_parts (go (bit_or mask bit) value (s ∷ ss)) (go (bit_or mask bit) (bit_or value bit) (s ∷ ss)) e in
      elim (free_one word mask s) [
        | clear z ↦ sound (bit_or mask bit) value (s ∷ ss) parts.0 (half_clear word mask value bit m z)
        | is_set z ↦ sound (bit_or mask bit) (bit_or value bit) (s ∷ ss) parts.1 (half_set word mask value bit m z)
      ]

  pub covers-printed : (ends : ℕ → ℕ → Bool) → ((mask value : ℕ) → bit_and word mask ≡ value → ends mask value ≡ true → ⊥)
      → (fuel mask value : ℕ) (ss : List Shape)
      → covers ends says fuel mask value ss ≡ true → bit_and word mask ≡ value → PrintedIn word ss
  unfolding covers
  covers-printed ends never zero mask value ss e m = cc
  covers-printed ends never (suc fuel) mask value [] e m = absurd (never mask value m e)
  covers-printed ends never (suc fuel) mask value (s ∷ ss) e m =
      covers_at-printed _ (λ n v rest f g. covers-printed ends never fuel n v rest f g) mask value s ss (is_apart mask value s)
      (is_inside mask value s) refl refl e m
