-- What the code's own types tell.
use Rattle.std.specs.Prelude.{◌≡◌, ℕ, ◌+◌, List, Option, Some, None, map, Result, Ok, Err}
use Rattle.vector_runner.specs.Field.{Field}
use Rattle.vector_runner.specs.Field as said
use Rattle.vector_runner.specs.Grammar.{TooLong, Line}
use Rattle.vector_runner.specs.Grammar as grammar
use Rattle.vector_runner.specs.declared.vector.Field as code
use Rattle.vector_runner.specs.declared.vector.Field.TheVariants as field
use Rattle.vector_runner.specs.declared.registers.BytesField.{BytesField}
use Rattle.vector_runner.specs.declared.registers.BytesField.TheVariants as of_bytes
use Rattle.vector_runner.specs.declared.vector.Vector.{Vector}
use Rattle.vector_runner.specs.declared.words.Unread.{Unread}
use Rattle.vector_runner.specs.declared.words.Unread.TheVariants as unread
use Rattle.vector_runner.specs.declared.read.VectorFault.{VectorFault}
use Rattle.vector_runner.specs.declared.read.VectorFault.TheVariants as fault

-- what a field says
abbrev pub field_told : code.Field → Field
field_told (field.X n value) = said.X n value
field_told (field.Sp value) = said.Sp value
field_told (field.Nzcv n z c v) = said.Nzcv n z c v
field_told (field.Tpidr value) = said.Tpidr value
field_told (field.Tpidr2 value) = said.Tpidr2 value
field_told (field.Svcr streaming za_on) = said.Svcr streaming za_on
field_told (field.Z n bytes) = said.Z n bytes.items
field_told (field.P n bytes) = said.P n bytes.items
field_told (field.Ffr bytes) = said.Ffr bytes.items
field_told (field.Za n bytes) = said.Za n bytes.items
field_told (field.M bytes) = said.M bytes.items

-- a field whose value is bytes, of them
abbrev pub with_bytes : BytesField → List ℕ → Field
with_bytes (of_bytes.Z n) = said.Z n
with_bytes (of_bytes.P n) = said.P n
with_bytes of_bytes.Ffr = said.Ffr
with_bytes (of_bytes.Za n) = said.Za n
with_bytes of_bytes.M = said.M

-- what a vector says
abbrev pub vector_told : Vector → said.Vector
vector_told v = record { word = v.word; fields = map field_told v.fields.items }

-- the answer of a reader is what is said, as the view tells it, or that nothing is; want of memory says
-- nothing of it
abbrev pub SaysAs : {R A : Type 0} → (R → A) → Option A → Result R Unread → Type 0
SaysAs view is (Ok r) = is ≡ Some (view r)
SaysAs view is (Err unread.Outside) = is ≡ None
SaysAs view is (Err unread.Memory) = Unit {0}

-- the vector of a line behind so many others, or that the line is at fault
abbrev pub or_line : ℕ → Option said.Vector → Result said.Vector grammar.Fault
or_line before (Some v) = Ok v
or_line before None = Err (Line (before + 1))

-- the same of the vectors of a file, or its fault
abbrev pub IsFault : {A : Type 0} → Result A grammar.Fault → VectorFault → Type 0
IsFault is fault.TooLong = is ≡ Err TooLong
IsFault is (fault.Line number) = is ≡ Err (Line number)
IsFault is fault.Memory = Unit {0}

abbrev pub AnswersAs : {R A : Type 0} → (R → A) → Result A grammar.Fault → Result R VectorFault → Type 0
AnswersAs view is (Ok r) = is ≡ Ok (view r)
AnswersAs view is (Err it) = IsFault is it
