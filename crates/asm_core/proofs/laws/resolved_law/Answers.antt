use Rattle.asm_core.proofs.HasWords.{line_resolves, line_far}
use Rattle.asm_core.proofs.laws.resolved_law.Goals as goal

pub returns-clause-resolved : goal.returns-clause-resolved
returns-clause-resolved c =
    λ text line code column k word from to resolved target is says listed e. line_resolves text line code column k word from to target is says
    listed resolved e

pub returns-clause-far : goal.returns-clause-far
returns-clause-far c =
    λ text line code column k word from to target is says listed e. line_far text line code column k word from to target is says listed e
