-- The numbers of a source's elements.
use Rattle.std.proofs.Common.{◌≡◌, ℕ, ◌+◌, ◌/◌, ◌<◌, ◌≤◌, List, [], ◌∷◌, ◌++◌, length, take, ap, ap₂, ◌∙◌, sym, arith, inl, inr, subst}
use Rattle.std.proofs.Common.{Bool, false, ℤ, pos}
use Rattle.std.specs.Prelude.{FitsSigned}
use Rattle.std.proofs.Math.ListN.{set}
use Rattle.std.proofs.Math.Nat.{mul-div_cancel_left}
use Rattle.std.proofs.lemmas.Bool.{cases_lt}
use Rattle.std.proofs.lemmas.Grind.{common_steps}
use Rattle.std.proofs.lemmas.List.{take_more_set, get_or_past}
use Rattle.vector_elements.specs.declared.size.Size.{Size}
use Rattle.vector_elements.specs.Elements.{listed, element_of, each_element}
use Rattle.vector_elements.specs.Numbers.{bytes_in, range_of}
use Rattle.vector_elements.proofs.Lists.{length-listed, listed-at, length-written, listed-next, some_bytes}
use Rattle.vector_elements.proofs.Sixteen.{values_of, listed-more}
use Rattle.outer_products.specs.OuterProducts.{Source}
use Rattle.outer_products.specs.Sources.{negated, number_at, elements_of, unpaired, pair_number, pairs_of, number, AllFit}
use Rattle.outer_products.proofs.Numbers.{IsWithin, number_within, negated_within}
use Rattle.outer_products.proofs.Active.{AreBytes, element_fits, active_number, active_bytes, active_is}
use mir.Syntax.{Width}

-- one number further
pub written_to : (f : ℕ → ℤ) (out : List ℤ) (i : ℕ) (x : ℤ) → i < length out → take i out ≡ listed f i → x ≡ f i
    → take (i + 1) (set out i x) ≡ listed f (i + 1)
written_to f out i x inside so_far is =
    take_more_set out i x inside ∙ ap₂ (λ t y. t ++ y ∷ []) so_far is ∙ sym (listed-next f i)

-- all of them
pub all_written : (f : ℕ → ℤ) (out : List ℤ) (n i : ℕ) → length out ≡ i → i ≡ n → take i out ≡ listed f i → out ≡ listed f n
all_written f out n i end count so_far =
    let all : take i out ≡ out = grind (arith, common_steps) in
    sym all ∙ so_far ∙ ap (listed f) count

-- some numbers more
pub written_run : {A : Type 0} → (f : ℕ → A) (out new : List A) (n k end : ℕ) → take n out ≡ listed f n
    → take (n + k) new ≡ take n out ++ listed (λ j. f (n + j)) k → n + k ≡ end → take end new ≡ listed f end
written_run f out new n k end so_far is long =
    ap (λ e. take e new) (sym long) ∙ is ∙ ap (λ t. t ++ listed (λ j. f (n + j)) k) so_far
    ∙ sym (listed-more f n k) ∙ ap (listed f) long

-- each number fits
number_fits : (size : Size) (w : Width) → ((z : ℤ) → IsWithin (range_of size) z → FitsSigned w z)
    → (signed negative : Bool) (bytes : List ℕ) → AreBytes bytes → (i : ℕ) → FitsSigned w (number_at size signed negative bytes i)
number_fits size w fits signed negative bytes are i =
    let x = element_of (bytes_in size) bytes i in
    let small = subst (λ m. x < m) (values_of size) (element_fits (bytes_in size) bytes i are) in
    fits _ (negated_within negative _ _ (number_within signed size x small))

listed_fit : (w : Width) (f : ℕ → ℤ) (n : ℕ) → ((i : ℕ) → FitsSigned w (f i)) → FitsSigned w (pos 0) → AllFit w (listed f n)
listed_fit w f n fits none k = elim (cases_lt k n) [
  | inl below ↦ subst (FitsSigned w) (sym (listed-at f n k (pos 0) below)) (fits k)
  | inr past ↦ subst (FitsSigned w) (sym (get_or_past (listed f n) k (pos 0) (subst (λ m. m ≤ k) (sym (length-listed f n)) past))) none
]

pub numbers_fit : (size : Size) (w : Width) → ((z : ℤ) → IsWithin (range_of size) z → FitsSigned w z) → FitsSigned w (pos 0)
    → (signed negative : Bool) (bytes : List ℕ) → AreBytes bytes → AllFit w (elements_of size signed negative bytes)
numbers_fit size w fits none signed negative bytes are =
    listed_fit w _ _ (number_fits size w fits signed negative bytes are) none

pub pairs_fit : (size : Size) (w : Width) → ((z : ℤ) → IsWithin (range_of size) z → FitsSigned w z) → FitsSigned w (pos 0)
    → (count : ℕ) (signed : Bool) (bytes : List ℕ) → AreBytes bytes → AllFit w (pairs_of count size signed bytes)
pairs_fit size w fits none count signed bytes are =
    listed_fit w _ _ (λ i. number_fits size w fits signed false bytes are (unpaired count i)) none

module _ (size : Size) (negative : Bool) (s : Source) (bytes : AreBytes s.vector) where
  active_count : length (active_bytes size s bytes) / bytes_in size ≡ length s.vector / bytes_in size
  unfolding each_element
  active_count =
      ap (λ k. k / bytes_in size) (length-written (bytes_in size) _ (length s.vector / bytes_in size))
      ∙ mul-div_cancel_left (length s.vector / bytes_in size) (some_bytes size)

  -- number i is that of the element, or zero where it is not active
  pub read_number : (i : ℕ) → i < length s.vector / bytes_in size
      → number (elements_of size s.signed negative (active_bytes size s bytes)) i ≡ negated negative (active_number size s i)
  read_number i below =
      listed-at (number_at size s.signed negative (active_bytes size s bytes)) (length (active_bytes size s bytes) / bytes_in size) i
      (pos 0)
      (subst (λ n. i < n) (sym active_count) below)
      ∙ ap (negated negative) (active_is size s bytes i below)

  -- the same in pairs
  pub read_pair : (count i : ℕ) → i < length s.vector / bytes_in size → unpaired count i < length s.vector / bytes_in size
      → number (pairs_of count size s.signed (active_bytes size s bytes)) i ≡ active_number size s (unpaired count i)
  read_pair count i below inside =
      listed-at (pair_number count size s.signed (active_bytes size s bytes))
      (length (active_bytes size s bytes) / bytes_in size) i (pos 0) (subst (λ n. i < n) (sym active_count) below)
      ∙ active_is size s bytes (unpaired count i) inside
