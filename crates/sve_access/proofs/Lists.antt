-- The bytes of the active elements, one element further.
use Rattle.std.proofs.Common.{◌≡◌, ℕ, zero, suc, ◌+◌, ◌<◌, Bool, true, List, [], ◌∷◌, ◌++◌}
use Rattle.std.proofs.Common.{length, refl, ap, sym, ◌∙◌, arith, append-nil, None, All, inl, inr}
use Rattle.std.specs.Prelude.{flat_map}
use Rattle.std.specs.List.{find}
use Rattle.std.specs.Option.{option_or}
use Rattle.std.proofs.lemmas.Bool.{cases_lt}
use Rattle.std.proofs.lemmas.List.Concat.{flat_map-append}
use Rattle.std.proofs.lemmas.List.Elements.{All-head, All-tail, All-cons}
use Rattle.std.proofs.lemmas.List.Folds.{find-append}
use Rattle.std.specs.FinMap.{FinMap, insert}
use Rattle.std.specs.Ordering.{nat_cmp}
use Rattle.plain_lemmas.proofs.Options.{second_none, first_none}
use Rattle.vector_elements.specs.declared.size.Size.{Size}
use Rattle.vector_elements.specs.Elements.{is_active}
use Rattle.vector_elements.specs.Numbers.{bytes_in}
use Rattle.sve_perm.specs.Active.{active_places}
use Rattle.sve_perm.proofs.Sums.{place_where, places-more}
use Rattle.mem_access.specs.Values.{set_each}

-- what a function gives of the active elements among the first k
abbrev pub of_first : (ℕ → List ℕ) → Size → List ℕ → ℕ → List ℕ
of_first f element pg k = flat_map f (active_places element pg k)

pub none_first : (f : ℕ → List ℕ) (element : Size) (pg : List ℕ) → of_first f element pg 0 ≡ []
unfolding active_places
none_first f element pg = refl

-- one element further
pub of_more : (f : ℕ → List ℕ) (element : Size) (pg : List ℕ) (k : ℕ)
    → of_first f element pg (k + 1) ≡ of_first f element pg k ++ flat_map f (place_where (is_active (bytes_in element) pg k) k)
of_more f element pg k =
    ap (flat_map f) (places-more element pg k)
    ∙ flat_map-append f (active_places element pg k) (place_where (is_active (bytes_in element) pg k) k)

pub of_active : (f : ℕ → List ℕ) (element : Size) (pg : List ℕ) (k : ℕ) → is_active (bytes_in element) pg k ≡ true
    → of_first f element pg (k + 1) ≡ of_first f element pg k ++ f k
of_active f element pg k on =
    of_more f element pg k ∙ ap (λ b. of_first f element pg k ++ flat_map f (place_where b k)) on
    ∙ ap (λ t. of_first f element pg k ++ t) (append-nil (f k))

-- the first of them that fails a check
pub find_more : (test : ℕ → Bool) (f : ℕ → List ℕ) (element : Size) (pg : List ℕ) (k : ℕ)
    → option_or (find test (of_first f element pg k)) (find test (flat_map f (place_where (is_active (bytes_in element) pg k) k)))
    ≡ find test (of_first f element pg (k + 1))
find_more test f element pg k =
    sym (ap (find test) (of_more f element pg k)
    ∙ find-append test (of_first f element pg k) (flat_map f (place_where (is_active (bytes_in element) pg k) k)))

-- a property of each byte of the active elements is one of the bytes of each of them
abbrev pub Holds : (List ℕ → Type 0) → Type 0
Holds P = (xs ys : List ℕ) → P (xs ++ ys) → P xs × P ys

pub each_active : (P : List ℕ → Type 0) → Holds P → (f : ℕ → List ℕ) (element : Size) (pg : List ℕ) (n : ℕ)
    → P (of_first f element pg n) → (k : ℕ) → k < n → is_active (bytes_in element) pg k ≡ true → P (f k)
each_active P parts f element pg zero all k lt on = absurd (omega (arith, lt))
each_active P parts f element pg (suc n) all k lt on =
    let next : suc n ≡ n + 1 = omega arith in
    let split = parts (of_first f element pg n) (flat_map f (place_where (is_active (bytes_in element) pg n) n))
    (rw (sym (of_more f element pg n)) (rw next at all)) in
    elim (cases_lt k n) [
      | inl before ↦ each_active P parts f element pg n split.0 k before on
      | inr last ↦
          let here : n ≡ k = omega (arith, lt, last) in
          let one : flat_map f (place_where (is_active (bytes_in element) pg n) n) ≡ f k =
          ap (λ j. flat_map f (place_where (is_active (bytes_in element) pg j) j)) here
          ∙ ap (λ b. flat_map f (place_where b k)) on ∙ append-nil (f k) in
          rw (sym one) split.1
    ]

-- no byte of them fails a check
pub none_fails : (test : ℕ → Bool) → Holds (λ xs. find test xs ≡ None)
none_fails test xs ys none =
    let both = sym (find-append test xs ys) ∙ none in
    (first_none (find test xs) (find test ys) both, second_none (find test xs) (find test ys) both)

pub all_parts : (P : ℕ → Type 0) → Holds (All P)
all_parts P [] ys all = ((λ k d none. absurd (omega (arith, none))), all)
all_parts P (x ∷ xs) ys all =
    let parts = all_parts P xs ys (All-tail P x (xs ++ ys) all) in
    (All-cons P x xs (All-head P x (xs ++ ys) all) parts.0, parts.1)

-- bytes that are set one after the other
pub set_append : (mem : FinMap nat_cmp ℕ) (xs ys bs cs : List ℕ) → length xs ≡ length bs
    → set_each (set_each mem xs bs) ys cs ≡ set_each mem (xs ++ ys) (bs ++ cs)
unfolding set_each
set_append mem [] ys [] cs e = refl
set_append mem [] ys (b ∷ bs) cs e = absurd (omega (arith, e))
set_append mem (x ∷ xs) ys [] cs e = absurd (omega (arith, e))
set_append mem (x ∷ xs) ys (b ∷ bs) cs e = set_append (insert mem x b) xs ys bs cs (omega (arith, e))
