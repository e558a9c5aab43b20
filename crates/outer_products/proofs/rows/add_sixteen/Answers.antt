use Rattle.vector_elements.proofs.Lists.{begun}
use Rattle.outer_products.proofs.rows.add_sixteen.Goals as goal

pub returns : goal.returns
returns c =
    let old = c.args.row.now in
    c.add_four-4.ensures.summed old (c.add_four-3.ensures.summed old (c.add_four-2.ensures.summed old
    (c.add_four.ensures.summed old (begun _ _ _))))
