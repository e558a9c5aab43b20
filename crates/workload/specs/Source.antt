-- The source of a benchmark that a number stands for: lines that set up streaming mode, ZA and registers,
-- as many lines as the number says, each chosen by the next number of a sequence, and lines that end the
-- program. Source: this project's own.
use Rattle.std.specs.Prelude.{ℕ, zero, suc, ◌+◌, ◌*◌, ◌/◌, ◌%◌, ◌==◌, List, [], ◌∷◌, ◌++◌, map, codes}
use Rattle.std.specs.Prelude.{decimal, if◌then◌else◌}
use Rattle.std.specs.List.{flat_map, range_with_len}

-- the number that follows another
abbrev pub next_number : ℕ → ℕ
next_number s = (25173 * s + 13849) % 65536

-- number i of the sequence of a source; number 0 is that of the source
unfoldable pub number_at : ℕ → ℕ → ℕ
number_at number zero = number
number_at number (suc i) = next_number (number_at number i)

-- what a number chooses a line by: 0 to 3
abbrev pub kind_of : ℕ → ℕ
kind_of s = s / 16 % 4

-- the line that adds a number
abbrev pub sum_line : ℕ → List ℕ
sum_line addend = codes "add x12, x12, #" ++ decimal addend

-- the line that a number chooses; the last kind adds the number's low 12 bits
unfoldable pub chosen_line : ℕ → List ℕ
chosen_line s =
    if kind_of s == 0 then codes "smopa za0.s, p0/m, p0/m, z0.b, z1.b"
    else if kind_of s == 1 then codes "add z0.b, z0.b, z1.b"
    else if kind_of s == 2 then codes "ldadd x10, x11, [x9]"
    else sum_line (s % 4096)

-- line i of them, from 1, is that which number i chooses
unfoldable pub chosen_lines : ℕ → List (List ℕ)
chosen_lines number = map (λ i. chosen_line (number_at number i)) (range_with_len 1 number)

-- the lines before them
abbrev pub first_lines : List (List ℕ)
first_lines =
    codes ".text" ∷ codes ".global _start" ∷ codes "_start:" ∷ codes "smstart" ∷ codes "ptrue p0.b, all"
    ∷ codes "index z0.b, #0, #1" ∷ codes "index z1.b, #1, #2" ∷ codes "movz x9, #32512, lsl #32"
    ∷ codes "movz x10, #1" ∷ []

-- the lines after them
abbrev pub last_lines : List (List ℕ)
last_lines = codes "smstop" ∷ codes "movz x8, #93" ∷ codes "movz x0, #0" ∷ codes "svc #0" ∷ []

-- the lines of the source of a number
unfoldable pub source_lines : ℕ → List (List ℕ)
source_lines number = first_lines ++ (chosen_lines number ++ last_lines)

-- a line as it stands in a text
abbrev pub ended : List ℕ → List ℕ
ended line = line ++ codes "\n"

-- the text of the source of a number
unfoldable pub source_of : ℕ → List ℕ
source_of number = flat_map ended (source_lines number)
