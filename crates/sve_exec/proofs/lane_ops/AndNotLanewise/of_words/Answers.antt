use Rattle.sve_exec.specs.Binary.{binary_of}
use Rattle.sve_exec.proofs.Joined.{zip2_changed}
use Rattle.sve_exec.proofs.lane_ops.AndNotLanewise.of_words.Goals as goal

pub returns : goal.returns
unfolding binary_of
returns c = zip2_changed _ _ c.args.a c.args.b
