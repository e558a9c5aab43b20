use Rattle.std.proofs.Common.{◌≡◌, ◌-◌, ◌++◌, [], ◌∷◌, All, map, length}
use Rattle.std.specs.List.{flat_map}
use Rattle.field_table.specs.Table.{End}
use Rattle.field_table.specs.Rows.{repeated}
use Rattle.field_table.specs.Reading.{Reads, left_of}
use Rattle.ckpt_fields.specs.Rows.{pages_of, page_row}
use Rattle.ckpt_fields.specs.Values.{words, page_value, page_said, IsNarrowPage}
use Rattle.ckpt_fields.proofs.lists.read_pages.Given as goal

abbrev pub invariant-pages : goal.invariant-pages
invariant-pages l = record {
  count : length l.pages.items ≡ l._k;
  narrow : All IsNarrowPage l.pages.items;
  read : Reads pages_of (words (l.count ∷ []) ++ flat_map page_value (map page_said l.pages.items))
      (repeated page_row (l.count - l._k) l.least End) (left_of l.fn.place) (left_of l.place);
}
