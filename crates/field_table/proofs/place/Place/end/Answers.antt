use Rattle.std.proofs.Common.{refl}
use Rattle.field_table.proofs.Reading.{end_fails}
use Rattle.field_table.proofs.place.Place.end.Goals as goal

pub returns-else-is_empty : goal.returns-else-is_empty
returns-else-is_empty c = end_fails _ _ c.is_empty.result c.is_empty.ensures c.if-is_empty.false refl
