-- What holds of a line that is in the grammar, and of a location counter before which no fault was found.
use Rattle.std.specs.Prelude.{◌≤◌}
use Rattle.asm_parser.specs.Statements.{Says, Nothing, IntoText, IntoData, Quads, Words, Bytes, Zeros, Aligns}
use Rattle.asm_parser.specs.Statements.{Globals, Codes}
use Rattle.asm_core.specs.declared.location_counter.LocationCounter.{LocationCounter}

-- each part has at most 4 MiB
pub record IsInLimits (p : LocationCounter) : Type 0 where
  pub text : p.text_size ≤ 4194304
  pub data_part : p.data_size ≤ 4194304

-- an alignment is to 4096 at most
abbrev pub HasSmallAlign : Says → Type 0
HasSmallAlign (Aligns power) = power ≤ 12
HasSmallAlign Nothing = Unit {0}
HasSmallAlign IntoText = Unit {0}
HasSmallAlign IntoData = Unit {0}
HasSmallAlign (Quads values) = Unit {0}
HasSmallAlign (Words numbers) = Unit {0}
HasSmallAlign (Bytes numbers) = Unit {0}
HasSmallAlign (Zeros count) = Unit {0}
HasSmallAlign (Globals name) = Unit {0}
HasSmallAlign (Codes code column) = Unit {0}
