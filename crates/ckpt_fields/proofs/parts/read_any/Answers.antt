use Rattle.std.proofs.Common.{refl, true}
use Rattle.ckpt_fields.proofs.parts.read_any.Goals as goal

pub returns : goal.returns
returns c = λ next. c.in_ok-pass_doubleword.ensures.read (λ n. true) next refl
