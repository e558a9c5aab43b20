-- The bits of a byte as bytes.
use Rattle.std.specs.Prelude.{◌≡◌, ℕ, ◌/◌, ◌%◌, ◌^◌, ◌<◌, ◌==◌, not, List, slice_index}

-- byte k is zero exactly where bit k of the byte is clear
abbrev pub IsSpread : ℕ → List ℕ → Type 0
IsSpread byte bytes = (k : ℕ) → k < 8 → (slice_index bytes k == 0) ≡ not (byte / 2 ^ k % 2 == 1)
