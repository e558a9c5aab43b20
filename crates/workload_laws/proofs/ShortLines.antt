-- Lines of few bytes, of which none is a line feed.
use Rattle.std.proofs.Common.{◌≡◌, ℕ, Bool, true, not, ◌&&◌, ◌==◌, nat_lt, nat_le, List, length}
use Rattle.std.specs.List.{list_all}
use Rattle.std.proofs.lemmas.Bool.{and_parts}

-- a byte of a line: ASCII, and no line feed
unfoldable pub is_line_byte : ℕ → Bool
is_line_byte c = nat_lt c 128 && not (c == 10)

-- a line of at most 40 such bytes
unfoldable pub is_short_line : List ℕ → Bool
is_short_line line = list_all is_line_byte line && nat_le (length line) 40

pub short_parts : (line : List ℕ) → is_short_line line ≡ true → (list_all is_line_byte line ≡ true) × (nat_le (length line) 40 ≡ true)
unfolding is_short_line
short_parts line e = and_parts (list_all is_line_byte line) (nat_le (length line) 40) e
