use Rattle.vector_elements.proofs.ReadBack.{gives_elements}
use Rattle.vector_elements.proofs.laws.change_gives_elements.Goals as goal

pub returns : goal.returns
returns c = gives_elements
