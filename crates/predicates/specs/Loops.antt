-- The predicates of loops, and the number of active elements.
-- Source: DDI 0487, C8.2: WHILELT and WHILELO (predicate), CNTP.
use Rattle.std.specs.Prelude.{ℕ, ◌+◌, ◌%◌, Bool, if◌then◌else◌, List, [], ◌∷◌, ℤ, pos, ◌+ℤ◌, int_lt}
use Rattle.vector_elements.specs.declared.size.Size.{Size}
use Rattle.vector_elements.specs.declared.size.Size.TheVariants.{S, D}
use Rattle.vector_elements.specs.Numbers.{bytes_in, range_of, signed_of}
use Rattle.predicates.specs.Predicates.{predicate_of}

-- a register's number has 64 bits or the low 32
abbrev pub register_size : Bool → Size
register_size wide = if wide then D else S

-- the whole number that a register stands for, with a sign or without
unfoldable pub register_number : Bool → Bool → ℕ → ℤ
register_number is_signed wide x =
    if is_signed then signed_of (register_size wide) (x % range_of (register_size wide))
    else pos (x % range_of (register_size wide))

-- element i holds where the first number and i are below the second
unfoldable pub while_at : Bool → Bool → ℕ → ℕ → ℕ → Bool
while_at is_signed wide n m i =
    int_lt (register_number is_signed wide n +ℤ pos i) (register_number is_signed wide m)

unfoldable pub while_predicate : Bool → Bool → Size → ℕ → ℕ → ℕ → List ℕ
while_predicate is_signed wide size bytes n m =
    predicate_of (bytes_in size) bytes (while_at is_signed wide n m)

-- CNTP: how many of some truth values are true
abbrev pub true_count : List Bool → ℕ
true_count [] = 0
true_count (x ∷ xs) = (if x then 1 else 0) + true_count xs
