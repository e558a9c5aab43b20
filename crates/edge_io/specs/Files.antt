-- Where files come from. Source: the project's own rule.
use Rattle.std.specs.Prelude.{ℕ, ◌≡◌, ◌≤◌, Bool, IsTrue, List, Option, Some, None, take, Result, Ok, Err}
use Rattle.std.specs.Prelude.{IfSome, IsSome, option_map}
use Rattle.std.specs.BTreeMap.{BTreeMap, get_by_text}
use Rattle.std.specs.declared.vec.Vec.{Vec}
use Rattle.std.specs.declared.string.String.{String}
use Rattle.edge_io.specs.Cause.{Rose}
use Rattle.edge_io.specs.declared.files.FileFault.{FileFault}
use Rattle.edge_io.specs.declared.files.FileFault.TheVariants.{Absent, Failed, Memory}

-- a map from names to bytes, where the files tell it
abbrev pub Told : Type 0
Told = Option (List ℕ → Option (List ℕ))

-- What is known of the files: the bytes of each name, where they tell that; how often a file was not there;
-- how often one could not be read; and whether no fetch fails, now and after any number of calls.
pub record FilesView : Type 0 where
  pub told : Told
  pub absences : ℕ
  pub faults : ℕ
  pub reliable : Bool

-- the bytes of each name of a map
abbrev pub content_of : {Y Z : Type 0} → BTreeMap (String Y) (Vec ℕ Z) → List ℕ → Option (List ℕ)
content_of entries name = option_map (λ bytes. bytes.items) (get_by_text entries name)

-- What an answer to a fetch says, of the files before and after it. Where they are told, Absent comes
-- exactly where the name is not in them.
abbrev pub FetchAnswer :
    {Z : Type 0} → FilesView → FilesView → List ℕ → ℕ → Result (Vec ℕ Z) FileFault → Type 0
FetchAnswer old new name limit (Ok bytes) =
    IfSome old.told (λ files. option_map (take limit) (files name) ≡ Some bytes.items)
    × (new.absences ≡ old.absences) × (new.faults ≡ old.faults)
FetchAnswer old new name limit (Err Absent) =
    IfSome old.told (λ files. files name ≡ None) × Rose old.absences new.absences
    × (old.absences ≤ new.absences) × (new.faults ≡ old.faults)
FetchAnswer old new name limit (Err Failed) =
    IfSome old.told (λ files. IsSome (files name)) × (new.absences ≡ old.absences)
    × Rose old.faults new.faults × (old.faults ≤ new.faults)
FetchAnswer old new name limit (Err Memory) =
    IfSome old.told (λ files. IsSome (files name)) × (new.absences ≡ old.absences) × (new.faults ≡ old.faults)

-- The files after some calls: they tell the same, no count fell, and what fails never did not become what
-- fails.
pub record IsKept (old new : FilesView) : Type 0 where
  pub same : new.told ≡ old.told
  pub absences : old.absences ≤ new.absences
  pub faults : old.faults ≤ new.faults
  pub reliable : IsTrue old.reliable → IsTrue new.reliable
