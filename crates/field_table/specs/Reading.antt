-- Reading the fields of a file one after the other.
use Rattle.std.specs.Prelude.{◌≡◌, ℕ, ◌+◌, List, ◌++◌, length, Some}
use Rattle.std.specs.List.{concat}
use Rattle.field_table.specs.Table.{Table, Passes, first_bad}
use Rattle.field_table.specs.declared.place.Place.{Place}
use Rattle.field_table.specs.declared.place.BadField.{BadField}

-- what is left of a file, and its offset
pub record Left : Type 0 where
  pub at : ℕ
  pub bytes : List ℕ

-- what a place says
abbrev pub left_of : Place → Left
left_of place = record { at = place.at; bytes = place.rest.now }

-- from a place to another the fields with these bytes are read, which are as a table says, and the table of
-- what follows is that one
pub record Reads (table : Table) (values : List (List ℕ)) (next : Table) (from to : Left) : Type 0 where
  pub passes : Passes table values next
  pub whole : from.bytes ≡ concat values ++ to.bytes
  pub at : to.at ≡ from.at + length (concat values)

-- from a place on the first bad field is that of a fault
pub record Fails (table : Table) (from : Left) (fault : BadField) : Type 0 where
  pub bad : first_bad table from.bytes from.at ≡ Some fault.offset
