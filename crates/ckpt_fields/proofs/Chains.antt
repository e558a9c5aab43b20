-- Parts of a table are read one after the other.
use Rattle.std.proofs.Common.{◌≡◌, ℕ, zero, suc, ◌++◌, ◌<◌, ◌==◌, true, List, [], ◌∷◌, Result, Ok, Err, refl, sym, subst, arith}
use Rattle.std.specs.Prelude.{IsErrAnd, nat_lt}
use Rattle.std.proofs.lemmas.Bool.Decides.{nat_tests}
use Rattle.bit_ops.specs.Sums.{bool_number}
use Rattle.byteorder.specs.Endian.{little_bytes}
use Rattle.field_table.specs.Table.{Table}
use Rattle.field_table.specs.Rows.{told, fields, rows}
use Rattle.field_table.specs.Reading.{Left, Reads, Fails}
use Rattle.field_table.specs.declared.place.BadField.{BadField}
use Rattle.field_table.proofs.Reading.{reads_more, fails_more}
use Rattle.ckpt_fields.specs.Told.{Answers}

-- some fields, and then what a part answers
pub answers_more : {R : Type 0} (table between : Table) (values : List (List ℕ)) (told : R → List (List ℕ)) (next : R → Table)
    (from through to : Left) (result : Result R BadField) → Reads table values between from through
    → Answers between told next through to result → Answers table (λ r. values ++ told r) next from to result
answers_more table between values told next from through to (Ok r) h k = reads_more h k
answers_more table between values told next from through to (Err fault) h k = fails_more h k

-- a fault that is passed on
pub passed_on : {R : Type 0} (result : Result R BadField) (fault : BadField) (table : Table) (told : R → List (List ℕ)) (next : R → Table)
    (from to : Left) → IsErrAnd result (λ f. f ≡ fault) → Fails table from fault → Answers table told next from to result
passed_on (Ok r) fault table told next from to h k = absurd h
passed_on (Err f) fault table told next from to h k = subst (λ g. Fails table from g) (sym h) k

-- a number that is told by another name
pub told_as : (next : Table) (m n : ℕ) (from to : Left) → m ≡ n → Reads (told m next) (little_bytes 4 m ∷ []) next from to
    → Reads (told n next) (little_bytes 4 n ∷ []) next from to
told_as next m n from to e h = subst (λ k. Reads (told k next) (little_bytes 4 k ∷ []) next from to) e h

pub told_fails_as : (next : Table) (m n : ℕ) (from : Left) (fault : BadField) → m ≡ n → Fails (told m next) from fault
    → Fails (told n next) from fault
told_fails_as next m n from fault e h = subst (λ k. Fails (told k next) from fault) e h

-- the same bytes under another name
pub reads_as : {table next : Table} {from to : Left} (values others : List (List ℕ)) → values ≡ others → Reads table values next from to
    → Reads table others next from to
reads_as {table} {next} {from} {to} values others e h = subst (λ v. Reads table v next from to) e h

-- a truth value is told by 0 or 1
pub truth_told : (n : ℕ) → nat_lt n 2 ≡ true → bool_number (n == 1) ≡ n
truth_told zero h = refl
truth_told (suc zero) h = refl
truth_told (suc (suc n)) h = let less : suc (suc n) < 2 = grind (arith, nat_tests) in absurd (omega (arith, less))

-- fields whose number and size are told by other names
pub fields_as : (next : Table) (bytes : List ℕ) (m n k l : ℕ) (from to : Left) → m ≡ n → k ≡ l
    → Reads (fields m k next) (rows m k bytes) next from to → Reads (fields n l next) (rows n l bytes) next from to
fields_as next bytes m n k l from to e f h =
    subst (λ q. Reads (fields n q next) (rows n q bytes) next from to) f
    (subst (λ q. Reads (fields q k next) (rows q k bytes) next from to) e h)

pub fields_fail_as : (next : Table) (m n k l : ℕ) (from : Left) (fault : BadField) → m ≡ n → k ≡ l
    → Fails (fields m k next) from fault → Fails (fields n l next) from fault
fields_fail_as next m n k l from fault e f h =
    subst (λ q. Fails (fields n q next) from fault) f (subst (λ q. Fails (fields q k next) from fault) e h)
