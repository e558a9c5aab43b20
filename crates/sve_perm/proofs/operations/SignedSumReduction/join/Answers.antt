use Rattle.sve_perm.proofs.Sums.{saddv_more}
use Rattle.sve_perm.proofs.operations.SignedSumReduction.join.Goals as goal

pub returns-clause-value : goal.returns-clause-value
returns-clause-value c = λ xs is. saddv_more c.args.size xs c.args.x c.args.total c.sign_extended.result is c.sign_extended.ensures
