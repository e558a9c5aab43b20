-- Fields of a list, one item after the other.
use Rattle.std.proofs.Common.{◌≡◌, ℕ, zero, suc, ◌-◌, ◌<◌, ◌++◌, List, [], ◌∷◌, map, get_or, ap, sym, ◌∙◌, arith, append_assoc}
use Rattle.std.specs.List.{flat_map}
use Rattle.std.proofs.lemmas.List.{append-nil}
use Rattle.field_table.specs.Table.{Table, End}
use Rattle.field_table.specs.Rows.{repeated}
use Rattle.field_table.specs.Reading.{Left, Reads}
use Rattle.field_table.proofs.Reading.{item_fails}
use Rattle.ckpt_fields.specs.Told.{IsFault}
use Rattle.ckpt_fields.specs.declared.fault.CkptFault.{CkptFault}
use Rattle.ckpt_fields.specs.declared.fault.CkptFault.TheVariants.{TooLong, Field, Memory}

pub all_one : {X : Type 0} (P : X → Type 0) (x : X) → P x → (k : ℕ) (d : X) → k < 1 → P (get_or (x ∷ []) k d)
all_one P x p zero d l = p
all_one P x p (suc k) d l = absurd (omega arith)

pushed : {X Y : Type 0} (value : Y → List (List ℕ)) (said : X → Y) (xs : List X) (x : X)
    → flat_map value (map said (xs ++ x ∷ [])) ≡ flat_map value (map said xs) ++ value (said x)
pushed value said [] x = append-nil (value (said x))
pushed value said (y ∷ ys) x =
    ap (λ l. value (said y) ++ l) (pushed value said ys x)
    ∙ sym (append_assoc (value (said y)) (flat_map value (map said ys)) (value (said x)))

-- the fields of some items, and of one more
pub values_more : {X Y : Type 0} (value : Y → List (List ℕ)) (said : X → Y) (first : List (List ℕ)) (xs all : List X) (x : X)
    → all ≡ xs ++ x ∷ []
    → (first ++ flat_map value (map said xs)) ++ value (said x) ≡ first ++ flat_map value (map said all)
values_more value said first xs all x e =
    append_assoc first (flat_map value (map said xs)) (value (said x))
    ∙ ap (λ l. first ++ l) (sym (ap (λ l. flat_map value (map said l)) e ∙ pushed value said xs x))

-- and of none
pub values_none : {X Y : Type 0} (value : Y → List (List ℕ)) (said : X → Y) (first : List (List ℕ)) (xs : List X)
    → xs ≡ [] → first ≡ first ++ flat_map value (map said xs)
values_none value said first xs e =
    sym (append-nil first) ∙ ap (λ l. first ++ l) (ap (λ l. flat_map value (map said l)) (sym e))

-- an item for which there is no memory, or that is not as it must be
pub item_fault : (item : ℕ → (ℕ → Table) → Table) (count i key : ℕ) (next table : Table) (values : List (List ℕ)) (from through : Left)
    (fault : CkptFault) → i < count → Reads table values (repeated item (count - i) key next) from through
    → ((follows : ℕ → Table) → IsFault (item key follows) through fault) → IsFault table from fault
item_fault item count i key next table values from through TooLong l h k = absurd (k (λ a. End))
item_fault item count i key next table values from through (Field offset) l h k =
    item_fails item count i key next table values from through (record { offset = offset }) l h k
item_fault item count i key next table values from through Memory l h k = tt
