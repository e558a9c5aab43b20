-- The numbers that each option of a run takes. Source: this project's own command line (docs/COMMAND.md).
use Rattle.std.specs.Prelude.{ℕ, ◌==◌, ◌&&◌, ◌||◌, nat_le, Bool}

-- one of the five vector lengths in bits
abbrev pub is_length : ℕ → Bool
is_length bits = (bits == 128) || (bits == 256) || (bits == 512) || (bits == 1024) || (bits == 2048)

abbrev pub is_between : ℕ → ℕ → ℕ → Bool
is_between least most number = nat_le least number && nat_le number most

abbrev pub is_slice : ℕ → Bool
is_slice number = is_between 1 1000000 number

abbrev pub is_budget : ℕ → Bool
is_budget number = is_between 1 4294967295 number

abbrev pub are_threads : ℕ → Bool
are_threads number = is_between 1 32 number

abbrev pub are_cores : ℕ → Bool
are_cores number = is_between 1 64 number

abbrev pub is_kernel : ℕ → Bool
is_kernel number = is_between 1 2 number
