-- Workers one after another, and the numbers of their passes.
use Rattle.std.proofs.Common.{◌≡◌, ◌≢◌, ℕ, zero, suc, ◌+◌, ◌<◌, List, [], ◌∷◌, ◌++◌, length, get_or, take, refl, sym, ap, ◌∙◌, subst, arith}
use Rattle.std.specs.Prelude.{Some, All, slice_get, slice_set}
use Rattle.std.proofs.lemmas.List.Elements.{All-nil, All-cons, All-head, All-tail}
use Rattle.std.proofs.lemmas.Option.{none-some}
use native.Mathlib.Decide.{ℕ_discrete}
use mathlib.Core.Logic.{dite}
use Rattle.shared_region.proofs.Growth.{set_other}
use Rattle.run_queue.specs.declared.view.Role.{Role}
use Rattle.run_queue.specs.declared.view.Role.TheVariants.{Numbered}
use Rattle.run_queue.specs.declared.view.PassView.{PassView}
use Rattle.run_queue.specs.declared.view.Whereabouts.{Whereabouts}
use Rattle.run_queue.specs.declared.view.Whereabouts.TheVariants.{Out, Back}
use Rattle.run_queue.specs.Passes.{given_in, with_back}
use Rattle.smp_runner.specs.Workers.{AreNumbered}
use Rattle.smp_runner.specs.Gathered.{AreOutBelow, HasJoined}

module _ {X : Type 0} (role : X → Role) where
  numbered_at : (xs : List X) (x : X) (n i : ℕ) (d : X) → ((j : ℕ) (e : X) → j < length xs → role (get_or xs j e) ≡ Numbered (n + j)) →
      role x ≡ Numbered (n + length xs)
      → i < length (xs ++ x ∷ []) → role (get_or (xs ++ x ∷ []) i d) ≡ Numbered (n + i)
  numbered_at [] x n zero d h is lt = is
  numbered_at [] x n (suc i) d h is lt = absurd (omega arith)
  numbered_at (y ∷ ys) x n zero d h is lt = h zero d (omega arith)
  numbered_at (y ∷ ys) x n (suc i) d h is lt =
      let a : suc n + i ≡ n + suc i = omega arith in
      let b : n + suc (length ys) ≡ suc n + length ys = omega arith in
      numbered_at ys x (suc n) i d (λ j e l. let c : n + suc j ≡ suc n + j = omega arith in h (suc j) e (omega arith) ∙ ap Numbered c)
      (is ∙ ap Numbered b) (omega arith) ∙ ap Numbered a

  -- one more worker
  pub numbered_more : (xs ys : List X) (x : X) (k : ℕ) → AreNumbered role xs → role x ≡ Numbered k → k ≡ length xs → ys ≡ xs ++ x ∷ []
      → AreNumbered role ys
  numbered_more xs ys x k h is len more = subst (AreNumbered role) (sym more) (λ i d lt.
      let a = numbered_at xs x 0 i d (λ j e l. let z : j ≡ 0 + j = omega arith in h j e l ∙ ap Numbered z)
      (let z : k ≡ 0 + length xs = omega (arith, len) in is ∙ ap Numbered z) lt in
      let z : 0 + i ≡ i = omega arith in
      a ∙ ap Numbered z)

  at_end : (xs : List X) (x d : X) → get_or (xs ++ x ∷ []) (length xs) d ≡ x
  at_end [] x d = refl
  at_end (y ∷ ys) x d = at_end ys x d

  at_front : (xs : List X) (x d : X) (i : ℕ) → i < length xs → get_or (xs ++ x ∷ []) i d ≡ get_or xs i d
  at_front [] x d i lt = absurd (omega arith)
  at_front (y ∷ ys) x d zero lt = refl
  at_front (y ∷ ys) x d (suc i) lt = at_front ys x d i (omega arith)

  snoc_length : (xs : List X) (x : X) → length (xs ++ x ∷ []) ≡ length xs + 1
  snoc_length [] x = refl
  snoc_length (y ∷ ys) x = let h = snoc_length ys x in omega (arith, h)

  -- the last is taken
  pub numbered_less : (xs ys : List X) (x : X) → AreNumbered role xs → xs ≡ ys ++ x ∷ [] → AreNumbered role ys ×
      (role x ≡ Numbered (length ys))
  numbered_less xs ys x h is =
      let h' : AreNumbered role (ys ++ x ∷ []) = subst (AreNumbered role) is h in (
        λ i d lt. ap role (sym (at_front ys x d i lt)) ∙ h' i d (let s = snoc_length ys x in omega (arith, s, lt)),
        ap role (sym (at_end ys x x)) ∙ h' (length ys) x (let s = snoc_length ys x in omega (arith, s)),
      )

  -- the same roles, by index
  pub numbered_same : (xs ys : List X) → length ys ≡ length xs →
      ((i : ℕ) (d : X) → i < length xs → role (get_or ys i d) ≡ role (get_or xs i d))
      → AreNumbered role xs → AreNumbered role ys
  numbered_same xs ys len same h i d lt = same i d (omega (arith, len, lt)) ∙ h i d (omega (arith, len, lt))

module _ {X : Type 0} (F : X → Type 0) where
  pub all_less : (xs ys : List X) (x : X) → All F xs → xs ≡ ys ++ x ∷ [] → All F ys × F x
  all_less xs ys x h is = go ys (subst (All F) is h)
    where
      go : (zs : List X) → All F (zs ++ x ∷ []) → All F zs × F x
      go [] k = (All-nil F, All-head F x [] k)
      go (z ∷ zs) k = let r = go zs (All-tail F z (zs ++ x ∷ []) k) in (All-cons F z zs (All-head F z (zs ++ x ∷ []) k) r.0, r.1)

-- the numbers that are out, where one comes back
pub below_less : (g h : List Whereabouts) (r : Role) (v w : PassView) (n k : ℕ) → AreOutBelow (given_in v.role) n → n ≡ k + 1 → r ≡
    Numbered k → HasJoined v r w
    → AreOutBelow (given_in w.role) k
below_less g h r v w n k only is at joined j out =
    let given = given_in v.role in
    let now : given_in w.role ≡ slice_set given k Back = joined.given ∙ ap (λ (x : Role). with_back given x) at in
    let out' : slice_get (slice_set given k Back) j ≡ Some Out = ap (λ (l : List Whereabouts). slice_get l j) (sym now) ∙ out in
    dite (ℕ_discrete j k)
    (λ (same : j ≡ k). absurd (not_back given k (ap (slice_get (slice_set given k Back)) (sym same) ∙ out')))
    (λ (ne : j ≢ k). let lt = only j (sym (set_other given k j Back ne) ∙ out') in omega (arith, lt, is, ne))
  where
    back_out : Some Back ≡ Some Out → ⊥
    back_out p = cc

    not_back : (l : List Whereabouts) (i : ℕ) → slice_get (slice_set l i Back) i ≡ Some Out → ⊥
    not_back [] i p = none-some Out p
    not_back (x ∷ xs) zero p = back_out p
    not_back (x ∷ xs) (suc i) p = not_back xs i p

pub take_back : {X : Type 0} (n : ℕ) (xs ys : List X) → n ≡ length xs → take n (xs ++ ys) ≡ xs
take_back {X} n xs ys is = ap (λ k. take k (xs ++ ys)) is ∙ go xs
  where
    go : (zs : List X) → take (length zs) (zs ++ ys) ≡ zs
    go [] = refl
    go (z ∷ zs) = ap (λ (l : List X). z ∷ l) (go zs)
