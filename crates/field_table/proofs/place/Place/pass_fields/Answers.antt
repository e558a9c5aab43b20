use Rattle.std.proofs.Common.{refl}
use Rattle.field_table.proofs.Reading.{fields_read, fields_fail}
use Rattle.field_table.proofs.place.Place.pass_fields.Goals as goal

pub returns-then-left-count-clause-read : goal.returns-then-left-count-clause-read
returns-then-left-count-clause-read c = λ next. fields_fail c.args.count c.args.size next _ _ c.if-left-count.true refl

pub returns-clause-read : goal.returns-clause-read
returns-clause-read c = λ next.
    fields_read c.args.count c.args.size next c.advance.result.now _ _ c.if-left-count.false c.advance.ensures.bytes
    c.advance.ensures.left
