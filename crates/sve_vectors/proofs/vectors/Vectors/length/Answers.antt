use Rattle.sve_vectors.proofs.Lent.{whole_registers}
use Rattle.sve_vectors.proofs.vectors.Vectors.length.Goals as goal

pub returns-clause-registers : goal.returns-clause-registers
returns-clause-registers c =
    let v = c.self.inside in
    rw (← c.self.view_is) (whole_registers v c.self.invariant)
