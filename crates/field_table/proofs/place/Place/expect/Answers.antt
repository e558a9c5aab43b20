use Rattle.std.proofs.Common.{refl}
use Rattle.field_table.proofs.Reading.{said_reads, said_short, said_wrong, not_true, not_false}
use Rattle.field_table.proofs.place.Place.expect.Goals as goal
use Rattle.field_table.proofs.place.Place.expect.Goals.{then-self-size-via-then-self-size, then-self-size-via-else-self-size+then-ne}

pub returns-then-self-size : goal.returns-then-self-size
returns-then-self-size c = λ next.
    elim c.then-self-size.branch [
      | then-self-size-via-then-self-size w ↦ said_short c.args.bytes.now next _ _ w.if-self-size.true refl
      | then-self-size-via-else-self-size+then-ne w ↦ said_wrong c.args.bytes.now next _ _ w.if-self-size.false
          (not_true _ _ w.ne.ensures w.if-ne.true) refl
    ]

pub returns : goal.returns
returns c = λ next.
    said_reads c.args.bytes.now next _ _ c.if-self-size.false (not_false _ _ c.ne.ensures c.if-ne.false) c.advance.ensures.left
