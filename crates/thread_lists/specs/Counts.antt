-- How often numbers stand in lists.
use Rattle.std.specs.Prelude.{◌≡◌, ℕ, ◌+◌, ◌==◌, nat_lt, if◌then◌else◌, List, [], ◌∷◌}

-- the numbers of some items, added up
abbrev pub total : {A : Type 0} → (A → ℕ) → List A → ℕ
total f [] = 0
total f (x ∷ xs) = f x + total f xs

-- how often a number stands in a list
abbrev pub occurrences : ℕ → List ℕ → ℕ
occurrences t [] = 0
occurrences t (x ∷ xs) = (if x == t then 1 else 0) + occurrences t xs

-- once, if it is one of so many threads
abbrev pub once_below : ℕ → ℕ → ℕ
once_below t threads = if nat_lt t threads then 1 else 0

-- a list without a number, where that stands first
abbrev pub without : ℕ → List ℕ → List ℕ
without t [] = []
without t (x ∷ xs) = if x == t then xs else (x ∷ without t xs)

-- each of so many threads is once in a list of numbers, and no other is
abbrev pub AreOnceEach : ℕ → List ℕ → Type 0
AreOnceEach threads numbers = (t : ℕ) → occurrences t numbers ≡ once_below t threads
