-- What a table of labels tells of a name.
use Rattle.std.specs.Prelude.{◌≡◌, ℕ, List, ◌++◌, true, false, Option}
use Rattle.std.specs.HashMap.{get_by}
use Rattle.std.specs.Str.{bytes_eq}
use Rattle.asm_core.specs.declared.labels.Labels.{Labels}
use Rattle.asm_core.specs.declared.labels.LabelPosition.{LabelPosition}
use Rattle.asm_core.specs.Layout.{Label, names_of}
use Rattle.asm_core.specs.Faults.{is_doubled}
use Rattle.asm_core.specs.declared.fault.AsmFault.{AsmFault}
use Rattle.asm_core.specs.declared.fault.AsmFault.TheVariants.{Doubled}

-- the position of the label of that name
abbrev pub known : Labels → List ℕ → Option LabelPosition
known labels name = get_by (λ k. bytes_eq name k.now) labels.positions

-- the table tells of each name the label of that name among these
pub record Knows (table : Labels) (labels : List Label) : Type 0 where
  pub each : (name : List ℕ) → known table name ≡ names_of labels name

-- labels were added to a table: none of them has the name of one before it, and it tells of them too
abbrev pub HaveAdded : Labels → Labels → List Label → Type 0
HaveAdded old new more =
    (list : List Label) → Knows old list → (is_doubled list more ≡ false) × Knows new (list ++ more)

-- the fault of line number n, one of whose labels has the name of one before it
abbrev pub IsDoubledBy : ℕ → Labels → List Label → AsmFault → Type 0
IsDoubledBy n old more fault =
    (list : List Label) → Knows old list → (is_doubled list more ≡ true) × (fault ≡ Doubled n)
