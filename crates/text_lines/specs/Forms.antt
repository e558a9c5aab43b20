-- The lines of a guest thread's state in a report, by kind: their form, and in which order they stand.
-- Source: docs/REPORT.md.
use Rattle.std.specs.Prelude.{ℕ, List, [], ◌∷◌, ◌++◌, codes}
use Rattle.sm_types.specs.declared.version.Version.{Version}
use Rattle.sm_types.specs.declared.version.Version.TheVariants.{One, Two}
use Rattle.text_lines.specs.declared.forms.FieldKind.{FieldKind}
use Rattle.text_lines.specs.declared.forms.FieldKind.TheVariants as field
use Rattle.text_lines.specs.declared.forms.Often.{Often}
use Rattle.text_lines.specs.declared.forms.Often.TheVariants.{Once, AtMostOnce, AnyTimes}
use Rattle.text_lines.specs.declared.forms.LineKind.{LineKind}
use Rattle.text_lines.specs.declared.forms.LineKind.TheVariants as kind

-- the name with which the lines of a kind begin
abbrev pub name_of : LineKind → List ℕ
name_of kind.Turns = codes "turns"
name_of kind.Pc = codes "pc"
name_of kind.X = codes "x"
name_of kind.Sp = codes "sp"
name_of kind.Nzcv = codes "nzcv"
name_of kind.Tpidr = codes "tpidr"
name_of kind.Tpidr2 = codes "tpidr2"
name_of kind.Svcr = codes "svcr"
name_of kind.Z = codes "z"
name_of kind.P = codes "p"
name_of kind.Ffr = codes "ffr"
name_of kind.Za = codes "za"
name_of kind.Memory = codes "memory"
name_of kind.Held = codes "held"
name_of kind.Inside = codes "inside"
name_of kind.Mask = codes "mask"
name_of kind.Depth = codes "depth"
name_of kind.Polled = codes "polled"
name_of kind.Handler = codes "handler"

-- the fields after it
abbrev pub fields_of : LineKind → List FieldKind
fields_of kind.Turns = field.Long ∷ []
fields_of kind.Pc = field.Value ∷ []
fields_of kind.X = field.Number ∷ field.Value ∷ []
fields_of kind.Sp = field.Value ∷ []
fields_of kind.Nzcv = field.Flags ∷ []
fields_of kind.Tpidr = field.Value ∷ []
fields_of kind.Tpidr2 = field.Value ∷ []
fields_of kind.Svcr = field.Number ∷ []
fields_of kind.Z = field.Number ∷ field.Bytes ∷ []
fields_of kind.P = field.Number ∷ field.Bytes ∷ []
fields_of kind.Ffr = field.Bytes ∷ []
fields_of kind.Za = field.Number ∷ field.Bytes ∷ []
fields_of kind.Memory = field.Number ∷ field.Digest ∷ []
fields_of kind.Held = field.Value ∷ []
fields_of kind.Inside = field.Truth ∷ []
fields_of kind.Mask = field.Value ∷ []
fields_of kind.Depth = field.Number ∷ []
fields_of kind.Polled = field.Truth ∷ []
fields_of kind.Handler = field.Number ∷ field.Value ∷ []

-- how many of them stand together
abbrev pub often_of : LineKind → Often
often_of kind.Turns = Once
often_of kind.Pc = Once
often_of kind.X = AnyTimes
often_of kind.Sp = Once
often_of kind.Nzcv = Once
often_of kind.Tpidr = Once
often_of kind.Tpidr2 = Once
often_of kind.Svcr = Once
often_of kind.Z = AnyTimes
often_of kind.P = AnyTimes
often_of kind.Ffr = AtMostOnce
often_of kind.Za = AnyTimes
often_of kind.Memory = Once
often_of kind.Held = Once
often_of kind.Inside = Once
often_of kind.Mask = Once
often_of kind.Depth = Once
often_of kind.Polled = Once
often_of kind.Handler = AnyTimes

-- how signals are masked: the first version says whether the thread is in a handler, the second has the mask
-- and the number of handlers
abbrev pub masking_lines : Version → List LineKind
masking_lines One = kind.Inside ∷ []
masking_lines Two = kind.Mask ∷ kind.Depth ∷ []

-- the kinds of the lines of a state in a version of the report, in their order
unfoldable pub state_lines : Version → List LineKind
state_lines version =
    kind.Turns ∷ kind.Pc ∷ kind.X ∷ kind.Sp ∷ kind.Nzcv ∷ kind.Tpidr ∷ kind.Tpidr2 ∷ kind.Svcr
    ∷ kind.Z ∷ kind.P ∷ kind.Ffr ∷ kind.Za ∷ kind.Memory ∷ kind.Held
    ∷ (masking_lines version ++ kind.Polled ∷ kind.Handler ∷ [])
