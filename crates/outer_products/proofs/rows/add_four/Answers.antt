use Rattle.vector_elements.specs.declared.size.Size.TheVariants.{S}
use Rattle.outer_products.specs.Sources.{dot_in_pairs}
use Rattle.outer_products.proofs.Written.{summed_turn}
use Rattle.outer_products.proofs.rows.add_four.Goals as goal

pub returns-clause-summed : goal.returns-clause-summed
returns-clause-summed c = λ old is.
    let sums = dot_in_pairs 4 c.args.n c.args.m.now in
    summed_turn S sums old _ _ _ _ _ 4 c.args.t is
    (c.add_words.ensures sums c.word_sums.ensures)
    (c.add_words-2.ensures sums c.word_sums-2.ensures)
    (c.add_words-3.ensures sums c.word_sums-3.ensures)
    (c.add_words-4.ensures sums c.word_sums-4.ensures)
