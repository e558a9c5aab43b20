use Rattle.std.proofs.Common.{if◌then◌else◌}
use Rattle.vector_elements.specs.Elements.{is_active}
use Rattle.vector_elements.proofs.ReadBack.{gives_elements}
use Rattle.vector_elements.proofs.laws.change_keeps_inactive.Goals as goal

pub returns : goal.returns
returns c = λ e p bytes f some. gives_elements e bytes (λ i old. if is_active e p i then f i old else old) some
