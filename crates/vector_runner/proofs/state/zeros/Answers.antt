use Rattle.vector_runner.proofs.state.zeros.Goals as goal

pub returns : goal.returns
returns c = c.in_ok-bytes.ensures.items_if_clones_equal (λ y same. same)
