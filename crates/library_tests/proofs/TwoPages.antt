-- Two pages, one after the other, make a memory.
use Rattle.std.proofs.Common.{◌≡◌, ℕ, zero, suc, ◌<◌, [], ◌∷◌, get_or, subst, arith, Some, slice_get}
use Rattle.paged_memory.specs.PageList.{IsPageList, IsPageImage}
use Rattle.paged_memory.specs.declared.page_list.PageImage.{PageImage}

two_ascend : (a b : PageImage) → a.address < b.address → (i j : ℕ) (p q : PageImage) → i < j → slice_get (a ∷ b ∷ []) i ≡ Some p
    → slice_get (a ∷ b ∷ []) j ≡ Some q → p.address < q.address
two_ascend a b l zero zero p q m e f = absurd (omega arith)
two_ascend a b l zero (suc zero) p q m e f =
    let first : a ≡ p = cc in
    let second : b ≡ q = cc in
    subst (λ x. x.address < q.address) first (subst (λ x. a.address < x.address) second l)
two_ascend a b l zero (suc (suc j)) p q m e f = cc
two_ascend a b l (suc i) zero p q m e f = absurd (omega arith)
two_ascend a b l (suc zero) (suc zero) p q m e f = absurd (omega arith)
two_ascend a b l (suc zero) (suc (suc j)) p q m e f = cc
two_ascend a b l (suc (suc i)) (suc j) p q m e f = cc

two_each : (a b : PageImage) → IsPageImage a → IsPageImage b → (k : ℕ) (d : PageImage) → k < 2 → IsPageImage (get_or (a ∷ b ∷ []) k d)
two_each a b first second zero d l = first
two_each a b first second (suc zero) d l = second
two_each a b first second (suc (suc k)) d l = absurd (omega arith)

-- two pages, one after the other, make a memory
pub two_listed : (a b : PageImage) → IsPageImage a → IsPageImage b → a.address < b.address → IsPageList (a ∷ b ∷ [])
two_listed a b first second l = record {
  each = λ k d m. two_each a b first second k d m;
  ascending = two_ascend a b l;
  few = omega arith;
}
