use Rattle.sve_perm.proofs.Sums.{chosen_fits, joined_where}
use Rattle.sve_perm.proofs.reductions.join_where.Goals as goal

pub returns-clause-value : goal.returns-clause-value
returns-clause-value g c = λ xs is.
    joined_where (g.R.Reduction.gives c.args.reduction c.args.size) xs c.args.active c.args.x c.join.result c.args.total
    c.choose.result c.choose.ensures is (c.join.ensures.value xs is)

pub returns-clause-fits : goal.returns-clause-fits
returns-clause-fits g c = chosen_fits _ _ _ _ _ c.choose.ensures c.join.ensures.fits c.requires.total
