use Rattle.sve_exec.proofs.Signs.{leading_signs-counted}
use Rattle.sve_exec.proofs.laws.signs_are_counted.Goals as goal

pub returns : goal.returns
returns c = leading_signs-counted
