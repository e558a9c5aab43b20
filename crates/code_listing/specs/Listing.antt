-- The listing of code words. Source: this project's own.
use Rattle.std.specs.Prelude.{ℕ, ◌∷◌, [], List, codes}
use Rattle.std.specs.List.{concat, flat_map}
use Rattle.insn_text.specs.Texts.{text_of}
use Rattle.text_lines.specs.Lines.{hex64, hex32}

-- the line of a code word: its address in 16 hexadecimal digits, the word in 8, and its text
unfoldable pub listing_line : ℕ × ℕ → List ℕ
listing_line entry =
    concat (hex64 entry.0 ∷ codes " " ∷ hex32 entry.1 ∷ codes " " ∷ text_of entry.1 ∷ codes "\n" ∷ [])

-- the lines of some code words in their order
unfoldable pub listing_text : List (ℕ × ℕ) → List ℕ
listing_text entries = flat_map listing_line entries
