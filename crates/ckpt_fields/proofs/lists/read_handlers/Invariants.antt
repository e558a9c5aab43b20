use Rattle.std.proofs.Common.{◌≡◌, ◌-◌, ◌++◌, [], ◌∷◌, All, map, length}
use Rattle.std.specs.List.{flat_map}
use Rattle.field_table.specs.Table.{Table}
use Rattle.field_table.specs.Rows.{repeated}
use Rattle.field_table.specs.Reading.{Reads, left_of}
use Rattle.ckpt_fields.specs.Rows.{handlers_of, handler_row}
use Rattle.ckpt_fields.specs.Values.{words, handler_value, handler_said, IsNarrowHandler}
use Rattle.ckpt_fields.proofs.lists.read_handlers.Given as goal

abbrev pub invariant-handlers : goal.invariant-handlers
invariant-handlers l = record {
  count : length l.handlers.items ≡ l._k;
  narrow : All IsNarrowHandler l.handlers.items;
  read : (next : Table) → Reads (handlers_of next)
      (words (l.count ∷ []) ++ flat_map handler_value (map handler_said l.handlers.items))
      (repeated handler_row (l.count - l._k) l.last next) (left_of l.fn.place) (left_of l.place);
}
