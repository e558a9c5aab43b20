use Rattle.a64_table.specs.Table.{scalar}
use Rattle.sve_table.specs.Table.{vector}
use Rattle.insn_text.proofs.Naming.{named}
use Rattle.insn_text.proofs.VectorNaming.{vector_named}
use Rattle.insn_text.proofs.laws.names_are_those_of_operations.Goals as goal

pub returns-clause-scalars : goal.returns-clause-scalars
unfolding scalar
returns-clause-scalars c =
    λ word it means shape printed. named word means.place means.line shape means.listed means.matches printed

pub returns-clause-vectors : goal.returns-clause-vectors
unfolding vector
returns-clause-vectors c =
    λ word it means shape printed. vector_named word means.place means.line shape means.listed means.matches printed
