-- The numbers below a limit: the first answer, tests of one and of all, and the list of answers.
use Rattle.std.proofs.Common.{◌⊎◌, inl, inr, ◌≡◌, ℕ, zero, suc, ◌+◌, ◌<◌, ◌≤◌, Bool, true, false, List, [], ◌∷◌, ◌++◌, length, get_or}
use Rattle.std.proofs.Common.{Option, Some, None, IfSome, refl, ap, sym, ◌∙◌, arith, add-one, All}
use Rattle.std.specs.Prelude.{◌||◌, Contains}
use Rattle.std.specs.List.{list_any}
use Rattle.std.proofs.Math.Bool.{or-true, or-false, and-false}
use Rattle.std.proofs.lemmas.List.{append-nil}
use Rattle.std.proofs.lemmas.List.Folds.{list_any-append}
use Rattle.std.proofs.lemmas.List.Elements.{All-nil, All-append, All-push, Contains-append_left, Contains-push}
use Rattle.std.specs.Option.{option_or}
use Rattle.elf_headers.specs.Below.{first_below, any_below, all_below, count_below, answers, answers_below}

-- a number below one more is below, or is that number
pub low_or_last : (i n : ℕ) → i < suc n → (i < n) ⊎ (i ≡ n)
low_or_last i n h = grind arith

-- ---- the first answer

pub first_below-zero : {A : Type 0} (answer : ℕ → Option A) → first_below answer 0 ≡ None
unfolding first_below
first_below-zero answer = refl

pub first_below-next : {A : Type 0} (answer : ℕ → Option A) (n : ℕ)
    → first_below answer (n + 1) ≡ option_or (first_below answer n) (answer n)
unfolding first_below
first_below-next answer n = rw add-one refl

-- one more number without an answer
pub first_below-none : {A : Type 0} (answer : ℕ → Option A) (n : ℕ) → first_below answer n ≡ None → answer n ≡ None
    → first_below answer (n + 1) ≡ None
first_below-none answer n before here = rw (first_below-next answer n, before, here) refl

-- no number has an answer
pub first_below-all_none : {A : Type 0} (answer : ℕ → Option A) (n : ℕ) → ((i : ℕ) → i < n → answer i ≡ None) → first_below answer n ≡ None
first_below-all_none answer zero h = first_below-zero answer
first_below-all_none answer (suc n) h =
    rw (← add-one) (first_below-none answer n (first_below-all_none answer n (λ i l. h i (omega arith))) (h n (omega arith)))

-- where there is no first answer, there is none
pub first_below-each_none : {A : Type 0} (answer : ℕ → Option A) (n : ℕ) → first_below answer n ≡ None → (i : ℕ) → i < n → answer i ≡ None
unfolding first_below
first_below-each_none answer zero h i l = absurd (omega arith)
first_below-each_none {A = A} answer (suc n) h i l =
    elim (first_below answer n) as (λ o. first_below answer n ≡ o → option_or o (answer n) ≡ None → answer i ≡ None) [
      | None ↦ λ before here. elim (low_or_last i n l)
          [ inl below ↦ first_below-each_none answer n before i below | inr last ↦ rw (sym last) at here ]
      | Some x ↦ λ before here. cc
    ] refl h

-- a first answer stays when more numbers are asked
pub first_below-stays : {A : Type 0} (answer : ℕ → Option A) (i n : ℕ) (x : A) → first_below answer i ≡ Some x → i ≤ n
    → first_below answer n ≡ Some x
unfolding first_below
first_below-stays answer i zero x h l = let e : i ≡ zero = omega arith in rw e at h
first_below-stays answer i (suc n) x h l =
    elim (low_or_last i (suc n) (omega arith)) [
      | inl below ↦ rw (first_below-stays answer i n x h (omega arith)) refl
      | inr last ↦ rw last at h
    ]

-- the first number with an answer, below the limit
pub first_below-found : {A : Type 0} (answer : ℕ → Option A) (i n : ℕ) (x : A) → first_below answer i ≡ None → answer i ≡ Some x → i < n
    → first_below answer n ≡ Some x
first_below-found answer i n x before here l =
    let now : first_below answer (i + 1) ≡ Some x = rw (first_below-next answer i, before, here) refl in
    first_below-stays answer (i + 1) n x now (omega arith)

-- ---- a test that one number passes

pub any_below-zero : (test : ℕ → Bool) → any_below test 0 ≡ false
unfolding any_below
any_below-zero test = refl

pub any_below-next : (test : ℕ → Bool) (n : ℕ) → any_below test (n + 1) ≡ (any_below test n || test n)
unfolding any_below
any_below-next test n = rw add-one refl

-- a number that passes, below the limit
pub any_below-found : (test : ℕ → Bool) (i n : ℕ) → test i ≡ true → i < n → any_below test n ≡ true
unfolding any_below
any_below-found test i zero h l = absurd (omega arith)
any_below-found test i (suc n) h l =
    elim (low_or_last i n l) [
      | inl below ↦ rw (any_below-found test i n h below) refl
      | inr last ↦ let here : test n ≡ true = rw last at h in rw here (or-true (any_below test n))
    ]

-- no number passes
pub any_below-all_none : (test : ℕ → Bool) (n : ℕ) → ((i : ℕ) → i < n → test i ≡ false) → any_below test n ≡ false
unfolding any_below
any_below-all_none test zero h = refl
any_below-all_none test (suc n) h = rw (any_below-all_none test n (λ i l. h i (omega arith)), h n (omega arith)) refl

-- where one passes, it is there
pub any_below-one : (test : ℕ → Bool) (n : ℕ) → any_below test n ≡ true → (i : ℕ) × (i < n) × (test i ≡ true)
unfolding any_below
any_below-one test zero h = cc
any_below-one test (suc n) h =
    elim (any_below test n) as (λ t. any_below test n ≡ t → (t || test n) ≡ true → (i : ℕ) × (i < suc n) × (test i ≡ true)) [
      | true ↦ λ before here. let old : (i : ℕ) × (i < n) × (test i ≡ true) =
          any_below-one test n before in (old.0, omega (arith, old.1), old.2)
      | false ↦ λ before here. (n, omega arith, here)
    ] refl h

-- the same tests
pub any_below-same : (one two : ℕ → Bool) (n : ℕ) → ((i : ℕ) → i < n → one i ≡ two i) → any_below one n ≡ any_below two n
unfolding any_below
any_below-same one two zero h = refl
any_below-same one two (suc n) h = rw (any_below-same one two n (λ i l. h i (omega arith)), h n (omega arith)) refl

-- ---- a test that each number passes

-- a number that fails, below the limit
pub all_below-found : (test : ℕ → Bool) (i n : ℕ) → test i ≡ false → i < n → all_below test n ≡ false
unfolding all_below
all_below-found test i zero h l = absurd (omega arith)
all_below-found test i (suc n) h l =
    elim (low_or_last i n l) [
      | inl below ↦ rw (all_below-found test i n h below) refl
      | inr last ↦ let here : test n ≡ false = rw last at h in rw here (and-false (all_below test n))
    ]

-- each number passes
pub all_below-all : (test : ℕ → Bool) (n : ℕ) → ((i : ℕ) → i < n → test i ≡ true) → all_below test n ≡ true
unfolding all_below
all_below-all test zero h = refl
all_below-all test (suc n) h = rw (all_below-all test n (λ i l. h i (omega arith)), h n (omega arith)) refl

-- where all pass, each does
pub all_below-each : (test : ℕ → Bool) (n : ℕ) → all_below test n ≡ true → (i : ℕ) → i < n → test i ≡ true
all_below-each test n h i l =
    elim (test i) as (λ t. test i ≡ t → t ≡ true) [ true ↦ λ e. refl | false ↦ λ e. sym (all_below-found test i n e l) ∙ h ] refl

-- the same tests
pub all_below-same : (one two : ℕ → Bool) (n : ℕ) → ((i : ℕ) → i < n → one i ≡ two i) → all_below one n ≡ all_below two n
unfolding all_below
all_below-same one two zero h = refl
all_below-same one two (suc n) h = rw (all_below-same one two n (λ i l. h i (omega arith)), h n (omega arith)) refl

-- ---- the answers in order

pub answers_below-zero : {A : Type 0} (answer : ℕ → Option A) → answers_below answer 0 ≡ []
unfolding answers_below
answers_below-zero answer = refl

pub answers_below-next : {A : Type 0} (answer : ℕ → Option A) (n : ℕ) → answers_below answer (n + 1) ≡ answers_below answer n
    ++ answers (answer n)
unfolding answers_below
answers_below-next answer n = rw add-one refl

-- one more number without an answer
pub answers_below-none : {A : Type 0} (answer : ℕ → Option A) (n : ℕ) → answer n ≡ None
    → answers_below answer (n + 1) ≡ answers_below answer n
answers_below-none answer n h = rw (answers_below-next answer n, h) (append-nil (answers_below answer n))

-- one more number with an answer
pub answers_below-some : {A : Type 0} (answer : ℕ → Option A) (n : ℕ) (x : A) → answer n ≡ Some x
    → answers_below answer (n + 1) ≡ answers_below answer n ++ x ∷ []
answers_below-some answer n x h = rw (answers_below-next answer n, h) refl

-- the same answers
pub answers_below-same : {A : Type 0} (one two : ℕ → Option A) (n : ℕ) → ((i : ℕ) → i < n → one i ≡ two i)
    → answers_below one n ≡ answers_below two n
unfolding answers_below
answers_below-same one two zero h = refl
answers_below-same one two (suc n) h = rw (answers_below-same one two n (λ i l. h i (omega arith)), h n (omega arith)) refl

All-answers : {A : Type 0} (P : A → Type 0) (o : Option A) → IfSome o P → All P (answers o)
All-answers P None h = All-nil P
All-answers P (Some x) h = All-push P [] x (All-nil P) h

-- what holds of each answer holds of the list
pub All-answers_below : {A : Type 0} (P : A → Type 0) (answer : ℕ → Option A) (n : ℕ) → ((i : ℕ) → i < n → IfSome (answer i) P)
    → All P (answers_below answer n)
unfolding answers_below
All-answers_below P answer zero h = All-nil P
All-answers_below P answer (suc n) h =
    All-append P (answers_below answer n) (answers (answer n)) (All-answers_below P answer n (λ i l. h i (omega arith)))
    (All-answers P (answer n) (h n (omega arith)))

-- an answer is in the list
pub Contains-answers_below : {A : Type 0} (answer : ℕ → Option A) (i n : ℕ) (x : A) → answer i ≡ Some x → i < n
    → Contains (answers_below answer n) x
unfolding answers_below
Contains-answers_below answer i zero x h l = absurd (omega arith)
Contains-answers_below answer i (suc n) x h l =
    elim (low_or_last i n l) [
      | inl below ↦ Contains-append_left (answers_below answer n) (answers (answer n)) x (Contains-answers_below answer i n x h below)
      | inr last ↦ let here : answer n ≡ Some x = rw last at h in rw here (Contains-push (answers_below answer n) x)
    ]

-- a test of an answer, where there is one
abbrev pub passes : {A : Type 0} → (A → Bool) → Option A → Bool
passes test None = false
passes test (Some x) = test x

list_any-answers : {A : Type 0} (test : A → Bool) (o : Option A) → list_any test (answers o) ≡ passes test o
list_any-answers test None = refl
list_any-answers test (Some x) = or-false (test x)

-- one of the answers passes
pub list_any-answers_below : {A : Type 0} (test : A → Bool) (answer : ℕ → Option A) (n : ℕ)
    → list_any test (answers_below answer n) ≡ any_below (λ i. passes test (answer i)) n
unfolding answers_below any_below
list_any-answers_below test answer zero = refl
list_any-answers_below test answer (suc n) =
    list_any-append test (answers_below answer n) (answers (answer n))
    ∙ rw (list_any-answers_below test answer n, list_any-answers test (answer n)) refl

-- one more number at the front
any_below-front : (test : ℕ → Bool) (n : ℕ) → any_below test (suc n) ≡ (test 0 || any_below (λ k. test (suc k)) n)
unfolding any_below
any_below-front test zero = elim (test 0) as (λ t. (false || t) ≡ (t || false)) [ true ↦ refl | false ↦ refl ]
any_below-front test (suc n) =
    ap (λ t. t || test (suc n)) (any_below-front test n)
    ∙ elim (test 0) as (λ t. ((t || any_below (λ k. test (suc k)) n) || test (suc n))
    ≡ (t || (any_below (λ k. test (suc k)) n || test (suc n)))) [ true ↦ refl | false ↦ refl ]

-- one of a list's items passes, by its place
pub list_any-any_below : {A : Type 0} (test : A → Bool) (xs : List A) (d : A)
    → list_any test xs ≡ any_below (λ k. test (get_or xs k d)) (length xs)
unfolding any_below
list_any-any_below test [] d = refl
list_any-any_below test (x ∷ xs) d =
    ap (λ t. test x || t) (list_any-any_below test xs d) ∙ sym (any_below-front (λ k. test (get_or (x ∷ xs) k d)) (length xs))

-- ---- how many numbers pass

pub count_below-same : (one two : ℕ → Bool) (n : ℕ) → ((i : ℕ) → i < n → one i ≡ two i) → count_below one n ≡ count_below two n
unfolding count_below
count_below-same one two zero h = refl
count_below-same one two (suc n) h = rw (count_below-same one two n (λ i l. h i (omega arith)), h n (omega arith)) refl

-- no number from one on passes
pub count_below-none : (test : ℕ → Bool) (m k : ℕ) → ((n : ℕ) → m ≤ n → n < m + k → test n ≡ false)
    → count_below test (m + k) ≡ count_below test m
unfolding count_below
count_below-none test m zero h = let e : m + 0 ≡ m = omega arith in rw e refl
count_below-none test m (suc k) h =
    let e : m + suc k ≡ suc (m + k) = omega arith in
    let here : test (m + k) ≡ false = h (m + k) (omega arith) (omega arith) in
    let before : count_below test (m + k) ≡ count_below test m = count_below-none test m k (λ n a b. h n a (omega arith)) in
    rw (e, here, before) (omega arith)

-- each number from one on passes
pub count_below-full : (test : ℕ → Bool) (m k : ℕ) → ((n : ℕ) → m ≤ n → n < m + k → test n ≡ true)
    → count_below test (m + k) ≡ count_below test m + k
unfolding count_below
count_below-full test m zero h = let e : m + 0 ≡ m = omega arith in rw e (omega arith)
count_below-full test m (suc k) h =
    let e : m + suc k ≡ suc (m + k) = omega arith in
    let here : test (m + k) ≡ true = h (m + k) (omega arith) (omega arith) in
    let before : count_below test (m + k) ≡ count_below test m + k = count_below-full test m k (λ n a b. h n a (omega arith)) in
    rw (e, here, before) (omega arith)
