-- What holds of the numbers below a limit, in order.
use Rattle.std.specs.Prelude.{ℕ, zero, suc, ◌+◌, cond, Bool, true, false, ◌&&◌, ◌||◌, List, [], ◌∷◌, ◌++◌}
use Rattle.std.specs.Prelude.{Option, Some, None}
use Rattle.std.specs.Option.{option_or}

-- what the least number below n with an answer answers
unfoldable pub first_below : {A : Type 0} → (ℕ → Option A) → ℕ → Option A
first_below answer zero = None
first_below answer (suc n) = option_or (first_below answer n) (answer n)

-- one of the numbers below n passes the test
unfoldable pub any_below : (ℕ → Bool) → ℕ → Bool
any_below test zero = false
any_below test (suc n) = any_below test n || test n

-- each of the numbers below n passes the test
unfoldable pub all_below : (ℕ → Bool) → ℕ → Bool
all_below test zero = true
all_below test (suc n) = all_below test n && test n

-- how many of the numbers below n pass the test
unfoldable pub count_below : (ℕ → Bool) → ℕ → ℕ
count_below test zero = 0
count_below test (suc n) = count_below test n + cond (test n) 1 0

-- a list of one answer, or of none
abbrev pub answers : {A : Type 0} → Option A → List A
answers None = []
answers (Some x) = x ∷ []

-- the answers of the numbers below n, in order
unfoldable pub answers_below : {A : Type 0} → (ℕ → Option A) → ℕ → List A
answers_below answer zero = []
answers_below answer (suc n) = answers_below answer n ++ answers (answer n)
