-- Counts of what went wrong outside. Source: the project's own rule. A count is a u64 that never falls, and
-- rises at each fault, by one or more.
use Rattle.std.specs.Prelude.{ℕ, ◌≤◌, ◌<◌, ◌+◌, ◌^◌, ◌⊎◌}

-- The count rose. A count that stands at its type's last value is read as risen.
abbrev pub Rose : ℕ → ℕ → Type 0
Rose before now = (before < now) ⊎ (2 ^ 64 ≤ before + 1)
