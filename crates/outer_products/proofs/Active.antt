-- Sources whose elements are zero where they are not active.
use Rattle.std.proofs.Common.{◌≡◌, ℕ, zero, suc, ◌+◌, ◌*◌, ◌/◌, ◌%◌, ◌^◌, ◌<◌, ap, ◌∙◌, sym, refl, arith, subst}
use Rattle.std.proofs.Common.{Bool, true, false, ◌&&◌, if◌then◌else◌, ℤ, pos, ◌*ℤ◌, List, [], ◌∷◌, length, take, drop, get_or, mod-eq_of_lt}
use Rattle.std.proofs.lemmas.Int.{ints}
use Rattle.std.proofs.lemmas.List.{get_or-drop}
use Rattle.std.proofs.Math.Nat.{pow-suc}
use Rattle.std.specs.Simd.Lanes.{number_l}
use Rattle.vector_elements.specs.declared.size.Size.{Size}
use Rattle.vector_elements.specs.declared.size.Size.TheVariants.{B, H, S, D}
use Rattle.vector_elements.specs.Elements.{element_of, is_active, each_element, each_or_zero}
use Rattle.vector_elements.specs.Numbers.{bytes_in, range_of, signed_of}
use Rattle.vector_elements.proofs.ReadBack.{read_back}
use Rattle.vector_elements.proofs.Sixteen.{values_of}
use Rattle.outer_products.specs.OuterProducts.{number_of, Source, source_number, is_source_active, product_of}

-- bytes as numbers
abbrev pub AreBytes : List ℕ → Type 0
AreBytes xs = (k : ℕ) → get_or xs k 0 < 256

some_values : (e : ℕ) → 0 < 256 ^ e
some_values zero = omega arith
some_values (suc e) = let more = some_values e in let power = pow-suc 256 e in omega (arith, more, power)

number_fits : (e : ℕ) (xs : List ℕ) → AreBytes xs → number_l 256 (take e xs) < 256 ^ e
number_fits zero [] bytes = omega arith
number_fits zero (x ∷ xs) bytes = omega arith
number_fits (suc e) [] bytes = some_values (suc e)
number_fits (suc e) (x ∷ xs) bytes =
    let rest = number_fits e xs (λ k. bytes (suc k)) in
    let first = bytes 0 in
    let power = pow-suc 256 e in
    omega (arith, rest, first, power)

-- an element is below the values that its bytes have
pub element_fits : (e : ℕ) (xs : List ℕ) (i : ℕ) → AreBytes xs → element_of e xs i < 256 ^ e
unfolding element_of
element_fits e xs i bytes =
    number_fits e (drop (e * i) xs) (λ k. subst (λ x. x < 256) (sym (get_or-drop (e * i) xs k 0)) (bytes (e * i + k)))

-- what is read back of elements that were written
pub element_written : (size : Size) (bytes : List ℕ) (f : ℕ → ℕ → ℕ) (i : ℕ) → i < length bytes / bytes_in size
    → f i (element_of (bytes_in size) bytes i) < range_of size
    → element_of (bytes_in size) (each_element (bytes_in size) bytes f) i ≡ f i (element_of (bytes_in size) bytes i)
unfolding each_element
element_written size bytes f i below fits =
    let e = bytes_in size in
    read_back e (λ k. f k (element_of e bytes k)) (length bytes / e) i below
    ∙ ap (λ m. f i (element_of e bytes i) % m) (values_of size) ∙ mod-eq_of_lt fits

-- a source element as a number, or zero
abbrev pub active_number : Size → Source → ℕ → ℤ
active_number size s i = if is_source_active size s i then source_number size s i else pos 0

zero_left : (a : ℤ) → pos 0 *ℤ a ≡ pos 0
zero_left a = omega (arith, ints)

zero_right : (a : ℤ) → a *ℤ pos 0 ≡ pos 0
zero_right a = omega (arith, ints)

both_active : (p q : Bool) (a b : ℤ) → (if p then a else pos 0) *ℤ (if q then b else pos 0) ≡ (if p && q then a *ℤ b else pos 0)
both_active true true a b = refl
both_active true false a b = zero_right a
both_active false true a b = zero_left b
both_active false false a b = zero_left (pos 0)

pub product_is : (size : Size) (n m : Source) (i j : ℕ) → active_number size n i *ℤ active_number size m j ≡ product_of size n m i j
unfolding product_of
product_is size n m i j =
    both_active (is_source_active size n i) (is_source_active size m j) (source_number size n i) (source_number size m j)

no_number : (signed : Bool) (size : Size) → number_of signed size 0 ≡ pos 0
unfolding number_of signed_of
no_number true B = refl
no_number true H = refl
no_number true S = refl
no_number true D = refl
no_number false size = refl

kept_number : (b signed : Bool) (size : Size) (x : ℕ) → number_of signed size (if b then x else 0)
    ≡ (if b then number_of signed size x else pos 0)
kept_number true signed size x = refl
kept_number false signed size x = no_number signed size

kept_fits : (b : Bool) (x m : ℕ) → x < m → (if b then x else 0) < m
kept_fits true x m lt = lt
kept_fits false x m lt = omega (arith, lt)

module _ (size : Size) (s : Source) (bytes : AreBytes s.vector) where
  -- its elements, where those that are not active are zero
  abbrev pub active_bytes : List ℕ
  active_bytes = each_or_zero (bytes_in size) s.predicate s.vector (λ i old. old)

  kept : ℕ → ℕ
  kept i = if is_source_active size s i then element_of (bytes_in size) s.vector i else 0

  kept_is : (i : ℕ) → i < length s.vector / bytes_in size → element_of (bytes_in size) active_bytes i ≡ kept i
  unfolding kept
  kept_is i below =
      element_written size s.vector (λ k old. if is_active (bytes_in size) s.predicate k then old else 0) i below (fits i)
    where
      fits : (i : ℕ) → kept i < range_of size
      fits i = kept_fits (is_source_active size s i) _ _
          (subst (λ m. element_of (bytes_in size) s.vector i < m) (values_of size) (element_fits (bytes_in size) s.vector i bytes))

  pub active_is : (i : ℕ) → i < length s.vector / bytes_in size
      → number_of s.signed size (element_of (bytes_in size) active_bytes i) ≡ active_number size s i
  unfolding kept
  active_is i below =
      ap (number_of s.signed size) (kept_is i below) ∙ kept_number (is_source_active size s i) s.signed size
      (element_of (bytes_in size) s.vector i)
