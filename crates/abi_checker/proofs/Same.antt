-- The permissions and the bytes of a run that are as they were, and the rows of ZA.
use Rattle.std.proofs.Common.{inl, inr, ◌≡◌, ℕ, zero, suc, ◌+◌, ◌-◌, ◌/◌, ◌%◌, ◌^◌, ◌<◌, ◌≤◌, List, [], ◌∷◌, length, get_or, refl, ap}
use Rattle.std.proofs.Common.{sym, ◌∙◌}
use Rattle.std.proofs.Common.{arith, Some, None, Option}
use Rattle.std.specs.Prelude.{nat_lt}
use Rattle.std.specs.declared.vec.Vec.{Vec}
use Rattle.std.proofs.lemmas.Bool.{cases_Bool}
use Rattle.std.proofs.lemmas.Bool.Decides.{nat_tests}
use Rattle.std.proofs.lemmas.List.{ext_get_or, length-map}
use Rattle.std.specs.FinMap.{get}
use Rattle.sve_vectors.specs.Layout.{items_of}
use Rattle.std.specs.Option.{option_or}
use Rattle.paged_memory.specs.Memory.{AddressSpace, byte_with, bytes_with, and_byte, first_without, unless_there}
use Rattle.lazy_saving.specs.Dormant.{HasSamePages}

same_page : (a done i place : ℕ) → place ≡ (a + done) % 2 ^ 64 → done ≤ i → i < done + (4096 - place % 4096)
    → (a + i) % 2 ^ 64 / 4096 ≡ place / 4096
same_page a done i place e l m = omega (arith, e, l, m)

pub pages_on : (before after : AddressSpace) (a done place : ℕ) → place ≡ (a + done) % 2 ^ 64 → HasSamePages before after a done
    → get after.perm (place / 4096) ≡ get before.perm (place / 4096) → HasSamePages before after a (done + (4096 - place % 4096))
pages_on before after a done place e h same i less = elim (cases_Bool (nat_lt i done)) [
  | inl under ↦ let l : i < done = grind (arith, nat_tests) in h i l
  | inr over ↦
      let l : done ≤ i = grind (arith, nat_tests) in
      let at = same_page a done i place e l less in
      ap (λ n. get after.perm n) at ∙ same ∙ sym (ap (λ n. get before.perm n) at)
]

pub row_at : {A : Type 0} (rows : List (Vec ℕ A)) (i : ℕ) (d : Vec ℕ A) → i < length rows
    → get_or (items_of rows) i [] ≡ (get_or rows i d).items
row_at [] i d l = absurd (omega arith)
row_at (r ∷ rows) zero d l = refl
row_at (r ∷ rows) (suc i) d l = row_at rows i d (omega arith)

pub rows_same : {A : Type 0} (vectors : List (List ℕ)) (rows : List (Vec ℕ A)) → length rows ≡ length vectors
    → ((k : ℕ) → k < length rows → get_or vectors k [] ≡ get_or (items_of rows) k []) → vectors ≡ items_of rows
rows_same {A} vectors rows e h =
    let long : length (items_of rows) ≡ length rows = length-map rows (λ (r : Vec ℕ A). r.items) in
    ext_get_or [] vectors (items_of rows) (sym e ∙ sym long) (λ i l. h i (omega (arith, e, l)))

-- ---- bytes that can be read

or_none : (f : Option ℕ) → option_or f None ≡ None → f ≡ None
or_none None h = refl
or_none (Some x) h = cc

not_first : (f : Option ℕ) (x : ℕ) → option_or f (Some x) ≡ None → ⊥
not_first None x h = cc
not_first (Some y) x h = cc

gap_on : (xs : Option (List ℕ)) (y f : Option ℕ) (x : ℕ) → (xs ≡ None → f ≡ None → ⊥) → and_byte xs y ≡ None
    → option_or f (unless_there x y) ≡ None → ⊥
gap_on xs None f x ih h k = not_first f x k
gap_on None (Some b) f x ih h k = ih refl (or_none f k)
gap_on (Some bs) (Some b) f x ih h k = cc

pub no_gap : (need : ℕ) (m : AddressSpace) (a n : ℕ) → bytes_with need m a n ≡ None → first_without need m a n ≡ None → ⊥
unfolding bytes_with first_without
no_gap need m a zero h k = cc
no_gap need m a (suc n) h k =
    gap_on (bytes_with need m a n) (byte_with need m ((a + n) % 2 ^ 64)) (first_without need m a n) ((a + n) % 2 ^ 64)
    (λ p q. no_gap need m a n p q) h k
