-- The name of a mapping symbol by its first three bytes, as the code reads it.
use Rattle.std.specs.Prelude.{ℕ, ◌+◌, Bool, List, ◌==◌, ◌&&◌, ◌||◌}
use Rattle.sm_types.specs.Objects.{dollar, dot}
use Rattle.elf_headers.specs.Header.{number_at}

-- the name that begins at an offset in the file is `$` and the letter, or these followed by `.` and a suffix
unfoldable pub is_mapping_name : List ℕ → ℕ → ℕ → Bool
is_mapping_name file offset letter =
    (number_at file offset 1 == dollar) && (number_at file (offset + 1) 1 == letter)
    && ((number_at file (offset + 2) 1 == 0) || (number_at file (offset + 2) 1 == dot))
