-- The line of the fault for which a plan, or a script, is refused.
use Rattle.std.specs.Prelude.{ℕ, [], ◌∷◌, List, decimal, codes}
use Rattle.std.specs.List.{concat}
use Rattle.line_reader.specs.File.{Fault}
use Rattle.line_reader.specs.declared.text_fault.TextKind.{TextKind}
use Rattle.line_reader.specs.declared.text_fault.TextKind.TheVariants as kinds

-- what is wrong with it
abbrev pub fault_word : TextKind → List ℕ
fault_word kinds.TooLong = codes "toolong"
fault_word kinds.NotText = codes "nottext"
fault_word kinds.Unknown = codes "unknown"
fault_word kinds.BadNumber = codes "badnumber"
fault_word kinds.Extra = codes "extra"
fault_word kinds.Missing = codes "missing"

-- the line that is written for a fault of a plan or a script
unfoldable pub plan_line : Fault → List ℕ
plan_line fault =
    concat (codes "bad plan: line " ∷ decimal fault.line ∷ codes ": " ∷ fault_word fault.kind ∷ codes "\n" ∷
    [])
