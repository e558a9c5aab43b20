-- The first place that passes a test.
use Rattle.std.proofs.Common.{◌≡◌, ℕ, zero, suc, ◌+◌, ◌<◌, ◌⊎◌, inl, inr, Bool, true, false, cond, List, [], ◌∷◌, Option, Some, None, refl}
use Rattle.std.proofs.Common.{sym, ◌∙◌, ap, subst, arith, add-one}
use Rattle.std.specs.List.{find, range_with_len}

-- the answer so far, or else the next place where it passes the test
abbrev pub or_next : Option ℕ → Bool → ℕ → Option ℕ
or_next None passes place = cond passes (Some place) None
or_next (Some first) passes place = Some first

or_next-cond : (passes : Bool) (first : ℕ) (rest : Option ℕ) (next : Bool) (place : ℕ)
    → cond passes (Some first) (or_next rest next place) ≡ or_next (cond passes (Some first) rest) next place
or_next-cond true first rest next place = refl
or_next-cond false first rest next place = refl

find-more_from : (test : ℕ → Bool) (a n : ℕ)
    → find test (range_with_len a (suc n)) ≡ or_next (find test (range_with_len a n)) (test (a + n)) (a + n)
find-more_from test a zero = let e : a + 0 ≡ a = omega arith in rw e refl
find-more_from test a (suc n) =
    let e : a + suc n ≡ a + 1 + n = omega arith in
    rw e (ap (cond (test a) (Some a)) (find-more_from test (a + 1) n)
    ∙ or_next-cond (test a) a (find test (range_with_len (a + 1) n)) (test (a + 1 + n)) (a + 1 + n))

find-next : (test : ℕ → Bool) (n : ℕ) → find test (range_with_len 0 (suc n)) ≡ or_next (find test (range_with_len 0 n)) (test n) n
find-next test n =
    let z : 0 + n ≡ n = omega arith in
    subst (λ k. find test (range_with_len 0 (suc n)) ≡ or_next (find test (range_with_len 0 n)) (test k) k) z (find-more_from test 0 n)

-- one more place
pub find-more : (test : ℕ → Bool) (n : ℕ) → find test (range_with_len 0 (n + 1)) ≡ or_next (find test (range_with_len 0 n)) (test n) n
find-more test n = ap (λ k. find test (range_with_len 0 k)) (add-one n) ∙ find-next test n

-- no place passes
pub find-none : (test : ℕ → Bool) (n : ℕ) → ((q : ℕ) → q < n → test q ≡ false) → find test (range_with_len 0 n) ≡ None
find-none test zero fails = refl
find-none test (suc n) fails =
    let before : find test (range_with_len 0 n) ≡ None = find-none test n (λ q l. fails q (omega arith)) in
    let here : test n ≡ false = fails n (omega arith) in
    find-next test n ∙ ap (λ o. or_next o (test n) n) before ∙ ap (λ b. cond b (Some n) None) here

same_or_low : (a b : ℕ) → a < suc b → (a ≡ b) ⊎ (a < b)
same_or_low a b l = grind arith

-- the least place that passes
pub find-first : (test : ℕ → Bool) (n p : ℕ) → p < n → test p ≡ true → ((q : ℕ) → q < p → test q ≡ false)
    → find test (range_with_len 0 n) ≡ Some p
find-first test zero p l here before = absurd (omega arith)
find-first test (suc n) p l here before =
    find-next test n ∙ elim (same_or_low p n l) [
      | inl same ↦ ap (λ o. or_next o (test n) n) (find-none test n (λ q low. before q (omega arith)))
          ∙ ap (λ b. cond b (Some n) None) (ap test (sym same) ∙ here) ∙ ap Some (sym same)
      | inr low ↦ ap (λ o. or_next o (test n) n) (find-first test n p low here before)
    ]

none_next : (o : Option ℕ) (passes : Bool) (n : ℕ) → or_next o passes n ≡ None → (o ≡ None) × (passes ≡ false)
none_next None true n e = cc
none_next None false n e = (refl, refl)
none_next (Some p) passes n e = cc

-- where none was found, none passes
pub none-find : (test : ℕ → Bool) (n q : ℕ) → find test (range_with_len 0 n) ≡ None → q < n → test q ≡ false
none-find test zero q e l = absurd (omega arith)
none-find test (suc n) q e l =
    let parts : (find test (range_with_len 0 n) ≡ None) × (test n ≡ false) =
    none_next (find test (range_with_len 0 n)) (test n) n (sym (find-next test n) ∙ e) in
    elim (same_or_low q n l) [
      | inl same ↦ ap test same ∙ parts.1
      | inr low ↦ none-find test n q parts.0 low
    ]

same_place : (p q : ℕ) → ◌≡◌ {A = Option ℕ} (Some p) (Some q) → p ≡ q
same_place p q e = cc

-- what was found passes
pub find-passes : (test : ℕ → Bool) (xs : List ℕ) (p : ℕ) → find test xs ≡ Some p → test p ≡ true
find-passes test [] p e = cc
find-passes test (x ∷ xs) p e = elim (test x) as (λ b. test x ≡ b → cond b (Some x) (find test xs) ≡ Some p → test p ≡ true) [
  | true ↦ λ is s. subst (λ n. test n ≡ true) (same_place x p s) is
  | false ↦ λ is s. find-passes test xs p s
] refl e
