-- The line of the fault for which a source is refused: lines, columns and places in decimal, distances in
-- decimal with their sign.
use Rattle.std.specs.Prelude.{ℕ, ◌∷◌, [], List, decimal, codes}
use Rattle.std.specs.Fmt.{signed_decimal}
use Rattle.std.specs.List.{concat}
use Rattle.asm_core.specs.declared.fault.AsmFault.{AsmFault}
use Rattle.asm_core.specs.declared.fault.AsmFault.TheVariants.{TooLong, NotText, Line, Doubled, Undefined}
use Rattle.asm_core.specs.declared.fault.AsmFault.TheVariants.{TooFar, TooLarge, NoStart, Memory}
use Rattle.asm_parser.specs.declared.line.LineFault.{LineFault}
use Rattle.asm_parser.specs.declared.line.LineFault.TheVariants as line

-- what is wrong with a line by itself, and at which column
unfoldable pub line_words : LineFault → List ℕ
line_words (line.UnknownName column) = concat (codes "line unknownname " ∷ decimal column ∷ [])
line_words (line.BadOperand column) = concat (codes "line badoperand " ∷ decimal column ∷ [])
line_words (line.BadNumber column) = concat (codes "line badnumber " ∷ decimal column ∷ [])
line_words (line.Extra column) = concat (codes "line extra " ∷ decimal column ∷ [])
line_words line.Memory = codes "line memory"

-- why a source is refused, with the values of the fault but its line
unfoldable pub source_words : AsmFault → List ℕ
source_words TooLong = codes "toolong"
source_words (NotText offset) = concat (codes "nottext " ∷ decimal offset ∷ [])
source_words (Line number fault) = line_words fault
source_words (Doubled number) = codes "doubled"
source_words (Undefined number) = codes "undefined"
source_words (TooFar number distance) = concat (codes "toofar " ∷ signed_decimal distance ∷ [])
source_words (TooLarge number) = codes "toolarge"
source_words NoStart = codes "nostart"
source_words Memory = codes "memory"

-- the line of a fault, or 0 where it has none
abbrev pub line_number : AsmFault → ℕ
line_number TooLong = 0
line_number (NotText offset) = 0
line_number (Line number fault) = number
line_number (Doubled number) = number
line_number (Undefined number) = number
line_number (TooFar number distance) = number
line_number (TooLarge number) = number
line_number NoStart = 0
line_number Memory = 0

-- the line that is written for a fault
unfoldable pub source_line : AsmFault → List ℕ
source_line fault =
    concat (codes "bad source: line " ∷ decimal (line_number fault) ∷ codes ": " ∷ source_words fault
    ∷ codes "\n" ∷ [])
