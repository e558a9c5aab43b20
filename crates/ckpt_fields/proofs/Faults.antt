-- Faults that are passed on, and those of the whole file.
use Rattle.std.proofs.Common.{◌≡◌, ℕ, ◌<◌, ◌≤◌, ◌++◌, true, false, List, [], length, Some, None, Result, Ok, Err, refl, ap, sym, ◌∙◌, subst, arith}
use Rattle.std.specs.Prelude.{IsErrAnd, IfErr, nat_lt, option_map}
use Rattle.std.specs.List.{concat}
use Rattle.std.proofs.lemmas.Bool.Decides.{nat_tests}
use Rattle.std.proofs.lemmas.List.{append-nil}
use Rattle.field_table.specs.Table.{Table, End, first_bad, IsFilled}
use Rattle.field_table.specs.Reading.{Left, Reads, Fails}
use Rattle.field_table.specs.declared.place.BadField.{BadField}
use Rattle.field_table.proofs.Tables.{passes_filled, filled_reads}
use Rattle.field_table.proofs.Reading.{fails_more}
use Rattle.report_reader.specs.Report.{Report}
use Rattle.ckpt_fields.specs.Rows as rows
use Rattle.ckpt_fields.specs.Rows.{checkpoint_table, bad_field, checkpoint_fault}
use Rattle.ckpt_fields.specs.Told.{IsFault, AnswersOrLacks, IsFaultOf}
use Rattle.ckpt_fields.specs.declared.fault.CkptFault.{CkptFault}
use Rattle.ckpt_fields.specs.declared.fault.CkptFault.TheVariants.{TooLong, Field, Memory}

-- a bad field that is told as a fault of the file
pub told_on : {R : Type 0} (result : Result R CkptFault) (fault : BadField) (table : Table) (told : R → List (List ℕ)) (next : R → Table)
    (from to : Left) → IsErrAnd result (λ f. f ≡ Field fault.offset) → Fails table from fault
    → AnswersOrLacks table told next from to result
told_on (Ok r) fault table told next from to h k = absurd h
told_on (Err f) fault table told next from to h k =
    let as_fault : IsFault table from (Field fault.offset) = record { bad = k.bad } in
    subst (λ g. IsFault table from g) (sym h) as_fault

-- a fault of the file that is passed on
pub fault_on : {R : Type 0} (result : Result R CkptFault) (fault : CkptFault) (table : Table) (told : R → List (List ℕ)) (next : R → Table)
    (from to : Left) → IsErrAnd result (λ f. f ≡ fault) → IsFault table from fault → AnswersOrLacks table told next from to result
fault_on (Ok r) fault table told next from to h k = absurd h
fault_on (Err f) fault table told next from to h k = subst (λ g. IsFault table from g) (sym h) k

-- some fields, and then a fault
pub fault_more : {table between : Table} {values : List (List ℕ)} {from through : Left} (fault : CkptFault)
    → Reads table values between from through → IsFault between through fault → IsFault table from fault
fault_more TooLong h k = absurd k
fault_more (Field offset) h k = fails_more h k
fault_more Memory h k = tt

-- ---- the whole file

-- the beginning of a file
abbrev pub begin : List ℕ → Left
begin bytes = record { at = 0; bytes = bytes }

not_long : (bytes : List ℕ) → length bytes ≤ 67108864 → nat_lt 67108864 (length bytes) ≡ false
not_long bytes l = grind (arith, nat_tests)

pub too_long : (report : Report) (bytes : List ℕ) → 67108864 < length bytes → checkpoint_fault report bytes ≡ Some rows.TooLong
unfolding checkpoint_fault
too_long report bytes l = let test : nat_lt 67108864 (length bytes) ≡ true = grind (arith, nat_tests) in rw test refl

field_bad : (report : Report) (bytes : List ℕ) (place : Left) (offset : ℕ) → place ≡ begin bytes → length bytes ≤ 67108864
    → first_bad (checkpoint_table report) place.bytes place.at ≡ Some offset → checkpoint_fault report bytes ≡ Some (rows.Field offset)
unfolding checkpoint_fault
field_bad report bytes place offset e l bad =
    let short : nat_lt 67108864 (length bytes) ≡ false = not_long bytes l in
    let here : bad_field report bytes ≡ Some offset =
    ap (λ (p : Left). first_bad (checkpoint_table report) p.bytes p.at) (sym e) ∙ bad in
    rw short (ap (option_map rows.Field) here)

is_fault_of : (report : Report) (bytes : List ℕ) (place : Left) (fault : CkptFault) → place ≡ begin bytes → length bytes ≤ 67108864
    → IsFault (checkpoint_table report) place fault → IsFaultOf report bytes fault
is_fault_of report bytes place TooLong e l h = absurd h
is_fault_of report bytes place (Field offset) e l h = field_bad report bytes place offset e l h.bad
is_fault_of report bytes place Memory e l h = tt

-- a bad field of the file
pub file_fails : {R : Type 0} (report : Report) (bytes : List ℕ) (place : Left) (result : Result R CkptFault) (fault : BadField)
    → place ≡ begin bytes → length bytes ≤ 67108864 → IsErrAnd result (λ f. f ≡ Field fault.offset)
    → Fails (checkpoint_table report) place fault → IfErr result (λ f. IsFaultOf report bytes f)
file_fails report bytes place (Ok r) fault e l h k = tt
file_fails report bytes place (Err f) fault e l h k =
    let as_fault : IsFault (checkpoint_table report) place (Field fault.offset) = record { bad = k.bad } in
    subst (λ g. IsFaultOf report bytes g) (sym h) (is_fault_of report bytes place (Field fault.offset) e l as_fault)

-- a fault of it
pub file_fault : {R : Type 0} (report : Report) (bytes : List ℕ) (place : Left) (result : Result R CkptFault) (fault : CkptFault)
    → place ≡ begin bytes → length bytes ≤ 67108864 → IsErrAnd result (λ f. f ≡ fault)
    → IsFault (checkpoint_table report) place fault → IfErr result (λ f. IsFaultOf report bytes f)
file_fault report bytes place (Ok r) fault e l h k = tt
file_fault report bytes place (Err f) fault e l h k =
    subst (λ g. IsFaultOf report bytes g) (sym h) (is_fault_of report bytes place fault e l k)

-- all fields are read, and nothing is left
pub file_whole : {values : List (List ℕ)} {table next : Table} {place to : Left} (bytes : List ℕ) → place ≡ begin bytes
    → Reads table values next place to → to.bytes ≡ [] → bytes ≡ concat values
file_whole {values} {table} {next} {place} {to} bytes e h end =
    ap (λ (p : Left). p.bytes) (sym e) ∙ h.whole ∙ ap (λ l. concat values ++ l) end ∙ append-nil (concat values)

pub file_filled : {values : List (List ℕ)} {table : Table} {place to : Left} → Reads table values End place to → IsFilled table values
file_filled {values} {table} h = subst (IsFilled table) (append-nil values) (passes_filled table End values [] h.passes tt)

-- what is filled is no fault
pub file_good : (report : Report) (bytes : List ℕ) (values : List (List ℕ)) → length bytes ≤ 67108864
    → IsFilled (checkpoint_table report) values → bytes ≡ concat values → checkpoint_fault report bytes ≡ None
unfolding checkpoint_fault
file_good report bytes values l filled whole =
    let short : nat_lt 67108864 (length bytes) ≡ false = not_long bytes l in
    let good : bad_field report bytes ≡ None =
    ap (λ b. first_bad (checkpoint_table report) b 0) whole ∙ filled_reads (checkpoint_table report) values 0 filled in
    rw short (ap (option_map rows.Field) good)
