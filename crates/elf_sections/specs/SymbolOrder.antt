-- Marks in another order, which say the same of each section.
use Rattle.std.specs.Prelude.{◌≡◌, ◌<◌, ◌≤◌, length, get_or, ℕ, Bool, cond, List, [], ◌∷◌, Option, Some, None}
use Rattle.std.specs.Prelude.{◌==◌, ◌&&◌}
use Rattle.std.specs.List.Sorted.{IsNonDecreasingBy}
use Rattle.std.specs.Option.{option_or}
use Rattle.elf_sections.specs.declared.mapping_symbols.MappingSymbol.{MappingSymbol}

-- the mapping symbol is of that section and has that value
abbrev pub is_symbol_of : ℕ → ℕ → MappingSymbol → Bool
is_symbol_of section value m = (m.section == section) && (m.value == value)

-- the last mapping symbol of a section that has a value
unfoldable pub last_symbol : ℕ → ℕ → List MappingSymbol → Option MappingSymbol
last_symbol section value [] = None
last_symbol section value (m ∷ symbols) =
    option_or (last_symbol section value symbols) (cond (is_symbol_of section value m) (Some m) None)

-- of each section and value both have the same last mapping symbol
abbrev pub SayTheSame : List MappingSymbol → List MappingSymbol → Type 0
SayTheSame symbols others =
    (section value : ℕ) → last_symbol section value symbols ≡ last_symbol section value others

-- mapping symbols in order of section, and within a section in order of value
pub record AreSymbolsInOrder (symbols : List MappingSymbol) : Type 0 where
  pub sections : IsNonDecreasingBy (λ m. m.section) symbols
  pub values :
      (i j : ℕ) (d : MappingSymbol) → i ≤ j → j < length symbols
      → (get_or symbols i d).section ≡ (get_or symbols j d).section
      → (get_or symbols i d).value ≤ (get_or symbols j d).value
