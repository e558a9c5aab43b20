-- The answers of the numbers below a limit, in order.
use Rattle.std.proofs.Common.{◌≡◌, ℕ, zero, suc, ◌+◌, ◌-◌, ◌<◌, ◌≤◌, List, ◌++◌, Option, None, refl, ap, sym, ◌∙◌, arith}
use Rattle.std.proofs.lemmas.List.{append-nil, append_assoc}
use Rattle.elf_headers.specs.Below.{answers, answers_below}
use Rattle.elf_headers.proofs.Below.{answers_below-zero, answers_below-next, answers_below-none}

none_more : {A : Type 0} (answer : ℕ → Option A) (n m : ℕ) → ((k : ℕ) → n ≤ k → k < n + m → answer k ≡ None)
    → answers_below answer (n + m) ≡ answers_below answer n
none_more answer n zero h = let e : n + 0 ≡ n = omega arith in rw e refl
none_more answer n (suc m) h =
    let e : n + suc m ≡ n + m + 1 = omega arith in
    rw e (answers_below-none answer (n + m) (h (n + m) (omega arith) (omega arith)) ∙ none_more answer n m (λ k a b. h k a (omega arith)))

-- numbers without an answer add none
pub answers_below-gap : {A : Type 0} (answer : ℕ → Option A) (n m : ℕ) → n ≤ m → ((k : ℕ) → n ≤ k → k < m → answer k ≡ None)
    → answers_below answer m ≡ answers_below answer n
answers_below-gap answer n m l h =
    let e : n + (m - n) ≡ m = omega arith in
    rw e at (none_more answer n (m - n) (λ k a b. h k a (omega arith)))

-- a list with the answers so far, and one more
pub answered_more : {A : Type 0} (answer : ℕ → Option A) (old now new : List A) (n : ℕ) (o : Option A) → now ≡ old ++ answers_below answer n
    → new ≡ now ++ answers o → o ≡ answer n → new ≡ old ++ answers_below answer (n + 1)
answered_more answer old now new n o before here is =
    here ∙ (λ i. before i ++ answers (is i)) ∙ append_assoc old (answers_below answer n) (answers (answer n))
    ∙ ap (λ l. old ++ l) (sym (answers_below-next answer n))

pub answered_none : {A : Type 0} (answer : ℕ → Option A) (old : List A) → old ≡ old ++ answers_below answer 0
answered_none answer old = sym (ap (λ l. old ++ l) (answers_below-zero answer) ∙ append-nil old)
