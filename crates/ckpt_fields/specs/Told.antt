-- What the code tells of the reading of fields.
use Rattle.std.specs.Prelude.{◌≡◌, List, ℕ, Some, Result, Ok, Err}
use Rattle.field_table.specs.Table.{Table}
use Rattle.field_table.specs.Reading.{Left, Reads, Fails}
use Rattle.field_table.specs.declared.place.BadField.{BadField}
use Rattle.report_reader.specs.Report.{Report}
use Rattle.ckpt_fields.specs.Rows as rows
use Rattle.ckpt_fields.specs.Rows.{checkpoint_fault}
use Rattle.ckpt_fields.specs.declared.fault.CkptFault.{CkptFault}
use Rattle.ckpt_fields.specs.declared.fault.CkptFault.TheVariants.{TooLong, Field, Memory}

-- a fault is that of the first bad field of a table; want of memory says nothing of it
abbrev pub IsFault : Table → Left → CkptFault → Type 0
IsFault table from TooLong = ⊥
IsFault table from (Field offset) = Fails table from (record { offset = offset })
IsFault table from Memory = Unit {0}

-- the answer of what reads some fields of a table, whose values the answer tells: they are read, and what
-- follows is this table; or the fault is that of the first bad one
abbrev pub Answers :
    {R : Type 0} → Table → (R → List (List ℕ)) → (R → Table) → Left → Left → Result R BadField → Type 0
Answers table values next from to (Ok r) = Reads table (values r) (next r) from to
Answers table values next from to (Err fault) = Fails table from fault

-- likewise, where memory may be wanting
abbrev pub AnswersOrLacks :
    {R : Type 0} → Table → (R → List (List ℕ)) → (R → Table) → Left → Left → Result R CkptFault → Type 0
AnswersOrLacks table values next from to (Ok r) = Reads table (values r) (next r) from to
AnswersOrLacks table values next from to (Err fault) = IsFault table from fault

-- the fault of a file is that by which it is no checkpoint for a report; want of memory says nothing of it
abbrev pub IsFaultOf : Report → List ℕ → CkptFault → Type 0
IsFaultOf report bytes TooLong = checkpoint_fault report bytes ≡ Some rows.TooLong
IsFaultOf report bytes (Field offset) = checkpoint_fault report bytes ≡ Some (rows.Field offset)
IsFaultOf report bytes Memory = Unit {0}
