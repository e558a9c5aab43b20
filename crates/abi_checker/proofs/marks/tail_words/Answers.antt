use Rattle.std.proofs.Common.{refl, ap}
use Rattle.std.specs.Prelude.{slice_set}
use Rattle.abi_checker.proofs.marks.tail_words.Goals as goal

pub returns : goal.returns
returns c = ap (λ words. slice_set words 4 c.args.call) (c.call_tail-words.ensures.ahead 0 refl)
