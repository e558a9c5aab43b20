use Rattle.std.proofs.Common.{◌∙◌, refl}
use Rattle.field_table.proofs.Reading.{number_passed, number_wrong, number_short}
use Rattle.field_table.proofs.place.Place.pass_word.Goals as goal
use Rattle.field_table.proofs.place.Place.pass_word.Goals.{then-self-lt4-via-then-self-lt4, then-self-lt4-via-else-self-lt4+then-not-is_right}

pub returns-then-self-lt4-clause-read : goal.returns-then-self-lt4-clause-read
returns-then-self-lt4-clause-read c = λ holds next same.
    elim c.then-self-lt4.branch [
      | then-self-lt4-via-then-self-lt4 w ↦ number_short 4 holds next _ _ w.if-self-lt4.true refl
      | then-self-lt4-via-else-self-lt4+then-not-is_right w ↦ number_wrong 4 holds next c.args.word _ _ c.requires
          (same ∙ w.if-not-is_right.true) refl
    ]

pub returns-clause-read : goal.returns-clause-read
returns-clause-read c = λ holds next same.
    number_passed 4 holds next c.args.word c.advance.result.now _ _ c.if-self-lt4.false (c.requires c.if-self-lt4.false)
    c.advance.ensures.bytes c.number_tells_bytes.ensures (same ∙ c.if-not-is_right.false) c.advance.ensures.left
