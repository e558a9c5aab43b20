-- Vectors that are written two elements at a time.
use Rattle.std.proofs.Common.{◌≡◌, ℕ, ◌+◌, ◌*◌, ◌/◌, ◌%◌, List, ◌++◌, length, take, drop, ap, ◌∙◌, sym, arith, subst}
use Rattle.std.specs.Simd.Lanes.{digits_l}
use Rattle.vector_elements.specs.declared.size.Size.{Size}
use Rattle.vector_elements.specs.declared.size.Size.TheVariants.{B, H, S, D}
use Rattle.vector_elements.specs.Elements.{listed, bytes_of, each_element}
use Rattle.vector_elements.specs.Numbers.{bytes_in}
use Rattle.vector_elements.proofs.Lists.{written, finished, some_bytes}
use Rattle.sve_perm.specs.Permute.{vector_like}

-- the first i elements are written
abbrev pub IsWrittenTo : ℕ → (ℕ → ℕ) → List ℕ → List ℕ → ℕ → Type 0
IsWrittenTo e f old d i = d ≡ bytes_of e (listed f i) ++ drop (e * i) old

pub pair_written : (e : ℕ) (f : ℕ → ℕ) (old d : List ℕ) (i x y : ℕ) → IsWrittenTo e f old d (2 * i) → x ≡ f (2 * i) → y ≡ f (2 * i + 1)
    → (d₁ d₂ : List ℕ) → d₁ ≡ take (e * (2 * i)) d ++ (digits_l 256 e x ++ drop (e * (2 * i) + e) d)
    → d₂ ≡ take (e * (2 * i + 1)) d₁ ++ (digits_l 256 e y ++ drop (e * (2 * i + 1) + e) d₁)
    → IsWrittenTo e f old d₂ (2 * (i + 1))
pair_written e f old d i x y so_far is_x is_y d₁ d₂ first second =
    let one : IsWrittenTo e f old d₁ (2 * i + 1) = first ∙ written e f old (2 * i) d x so_far is_x in
    let both : IsWrittenTo e f old d₂ (2 * i + 1 + 1) = second ∙ written e f old (2 * i + 1) d₁ y one is_y in
    let next : 2 * i + 1 + 1 ≡ 2 * (i + 1) = omega arith in
    subst (λ n. IsWrittenTo e f old d₂ n) next both

whole_pairs : (size : Size) (n i : ℕ) → n % (2 * bytes_in size) ≡ 0 → i ≡ n / (2 * bytes_in size) → 2 * i ≡ n / bytes_in size
whole_pairs B n i whole is = omega arith
whole_pairs H n i whole is = omega arith
whole_pairs S n i whole is = omega arith
whole_pairs D n i whole is = omega arith

whole_elements : (size : Size) (n : ℕ) → n % (2 * bytes_in size) ≡ 0 → n % bytes_in size ≡ 0
whole_elements B n whole = omega arith
whole_elements H n whole = omega arith
whole_elements S n whole = omega arith
whole_elements D n whole = omega arith

pub pairs_done : (size : Size) (f : ℕ → ℕ) (old d : List ℕ) (i : ℕ) → length old % (2 * bytes_in size) ≡ 0
    → i ≡ length old / (2 * bytes_in size) → IsWrittenTo (bytes_in size) f old d (2 * i)
    → (n : List ℕ) → length n ≡ length old → d ≡ vector_like size n f
unfolding each_element vector_like
pairs_done size f old d i whole is so_far n long =
    finished (bytes_in size) (λ k was. f k) old d (2 * i) (some_bytes size) (whole_elements size (length old) whole)
    (whole_pairs size (length old) i whole is) so_far
    ∙ ap (λ k. bytes_of (bytes_in size) (listed f (k / bytes_in size))) (sym long)
