use Rattle.std.proofs.Common.{◌∙◌, refl}
use Rattle.field_table.proofs.Reading.{number_passed, number_wrong, number_short}
use Rattle.field_table.proofs.place.Place.pass_doubleword.Goals as goal
use Rattle.field_table.proofs.place.Place.pass_doubleword.Goals.{then-self-lt8-via-then-self-lt8, then-self-lt8-via-else-self-lt8+then-not-is_right}

pub returns-then-self-lt8-clause-read : goal.returns-then-self-lt8-clause-read
returns-then-self-lt8-clause-read c = λ holds next same.
    elim c.then-self-lt8.branch [
      | then-self-lt8-via-then-self-lt8 w ↦ number_short 8 holds next _ _ w.if-self-lt8.true refl
      | then-self-lt8-via-else-self-lt8+then-not-is_right w ↦ number_wrong 8 holds next c.args.number _ _ c.requires
          (same ∙ w.if-not-is_right.true) refl
    ]

pub returns-clause-read : goal.returns-clause-read
returns-clause-read c = λ holds next same.
    number_passed 8 holds next c.args.number c.advance.result.now _ _ c.if-self-lt8.false (c.requires c.if-self-lt8.false)
    c.advance.ensures.bytes c.number_tells_bytes.ensures (same ∙ c.if-not-is_right.false) c.advance.ensures.left
