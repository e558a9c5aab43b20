use Rattle.std.proofs.Common.{ℕ, ◌<◌, ◌↔◌, ◌≢◌, Bool, Some, IsNone, subst}
use Rattle.bit_ops.specs.Masks.{bit_mask_of}
use Rattle.bit_ops.proofs.Fields.{none-exactly}
use Rattle.bit_ops.proofs.masks.mask_fields.Goals as goal

pub returns-clause-none : goal.returns-clause-none
returns-clause-none c =
    subst (λ w. IsNone c.fields_of_word.result
    ↔ ((n : Bool) (imms immr : ℕ) → imms < 64 → immr < 64 → bit_mask_of n imms immr c.args.wide ≢ Some w)) c.low_word.ensures.value
    (none-exactly c.args.wide c.low_word.result c.fields_of_word.result c.fields_of_word.ensures.some c.fields_of_word.ensures.only)
