-- Numbers and truth values in a text.
use Rattle.std.specs.Prelude.{ℕ, List, Bool, true, false}
use Rattle.std.specs.Int.{w32, w64, to_be_bytes}
use Rattle.hex.specs.Hex.{encode_lower}

-- a number in 16 hexadecimal digits
unfoldable pub hex64 : ℕ → List ℕ
hex64 n = encode_lower (to_be_bytes w64 n)

-- a number in 8 hexadecimal digits
unfoldable pub hex32 : ℕ → List ℕ
hex32 n = encode_lower (to_be_bytes w32 n)

-- 1 (49) where it holds, else 0 (48)
unfoldable pub digit : Bool → ℕ
digit true = 49
digit false = 48
