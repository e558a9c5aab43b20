-- Before which instruction a run for an address halts.
use Rattle.std.specs.Prelude.{ℕ, ◌==◌, Bool}

-- the one at the address, whatever its word
abbrev pub is_at : ℕ → ℕ → ℕ → Bool
is_at address pc word = pc == address
