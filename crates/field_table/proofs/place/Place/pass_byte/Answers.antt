use Rattle.std.proofs.Common.{◌∙◌, refl}
use Rattle.field_table.proofs.Reading.{number_passed, number_wrong, number_short}
use Rattle.field_table.proofs.place.Place.pass_byte.Goals as goal
use Rattle.field_table.proofs.place.Place.pass_byte.Goals.{then-self-lt1-via-then-self-lt1, then-self-lt1-via-else-self-lt1+then-not-is_right}

pub returns-then-self-lt1-clause-read : goal.returns-then-self-lt1-clause-read
returns-then-self-lt1-clause-read c = λ holds next same.
    elim c.then-self-lt1.branch [
      | then-self-lt1-via-then-self-lt1 w ↦ number_short 1 holds next _ _ w.if-self-lt1.true refl
      | then-self-lt1-via-else-self-lt1+then-not-is_right w ↦ number_wrong 1 holds next c.args.byte _ _ c.requires
          (same ∙ w.if-not-is_right.true) refl
    ]

pub returns-clause-read : goal.returns-clause-read
returns-clause-read c = λ holds next same.
    number_passed 1 holds next c.args.byte c.advance.result.now _ _ c.if-self-lt1.false (c.requires c.if-self-lt1.false)
    c.advance.ensures.bytes c.number_tells_bytes.ensures (same ∙ c.if-not-is_right.false) c.advance.ensures.left
