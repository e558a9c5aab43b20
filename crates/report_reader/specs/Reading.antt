-- Reading a report line by line, up to the first line that is not in the format.
use Rattle.std.specs.Prelude.{◌≡◌, ℕ, Bool, List, Option, Result, Ok, Err}
use Rattle.line_reader.specs.Reading as reading
use Rattle.line_reader.specs.Reading.{Left}
use Rattle.report_reader.specs.declared.fault.ReportKind.{ReportKind}
use Rattle.report_reader.specs.declared.fault.ReportKind.TheVariants.{NotText}
use Rattle.report_reader.specs.declared.fault.ReportFault.{ReportFault}
use Rattle.report_reader.specs.declared.fault.ReportFault.TheVariants as fault

-- a line that is not in the format, counted from 1, and the part to which it should belong
abbrev pub Fault : Type 0
Fault = reading.Fault ReportKind

-- what the next lines say, and what is left after them; or the first of them that does not say it
abbrev pub Reading : Type 0 → Type 0
Reading A = reading.Reading ReportKind A

-- the fault of the next line, which should belong to that part
abbrev pub fault_at : ReportKind → Left → Fault
fault_at part left = reading.fault_at NotText part left

-- the next line, where it says something; it is at fault where it does not
abbrev pub taken : {A : Type 0} → ReportKind → Option A → Reading A
taken part said left = reading.taken NotText part said left

-- the next line, of that part, says it
abbrev pub line : {A : Type 0} → ReportKind → (List ℕ → Option A) → Reading A
line part says left = reading.line NotText part says left

-- the next line is of a kind; to which part it should belong else goes by the line
abbrev pub line_by : (List ℕ → ReportKind) → (List ℕ → Bool) → Reading (Unit {0})
line_by part is left = reading.line_by NotText part is left

-- ---- what the code tells of them

-- a fault of the code is that of a reading; want of memory says nothing of it
abbrev pub IsFault : {A : Type 0} → Result (A × Left) Fault → ReportFault → Type 0
IsFault read (fault.Line line kind) = read ≡ Err (record { line = line; kind = kind })
IsFault read fault.Memory = Unit {0}

-- a result is what is read, as the view tells it, and this is left
abbrev pub ReadsAs : {R A : Type 0} → (R → A) → Result (A × Left) Fault → Result R ReportFault → Left → Type 0
ReadsAs view read (Ok r) left = read ≡ Ok (view r, left)
ReadsAs view read (Err fault) left = IsFault read fault

-- a result is what is read, and this is left
abbrev pub Reads : {A : Type 0} → Result (A × Left) Fault → Result A ReportFault → Left → Type 0
Reads read (Ok a) left = read ≡ Ok (a, left)
Reads read (Err fault) left = IsFault read fault
