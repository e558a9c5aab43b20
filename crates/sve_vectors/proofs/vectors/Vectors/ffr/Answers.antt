use Rattle.std.proofs.Common.{ap, ◌∙◌, sym, ◌/◌, take, List, ℕ}
use Rattle.sve_vectors.specs.Predicates.{truths_of}
use Rattle.sve_vectors.specs.State.{SveState}
use Rattle.sve_vectors.proofs.Held.{ffr_is}
use Rattle.sve_vectors.proofs.vectors.Vectors.ffr.Goals as goal

pub returns-clause-value : goal.returns-clause-value
returns-clause-value c =
    ap (λ (row : List ℕ). truths_of (take (c.self.inside.current / 8) row)) c.deref.ensures.value
    ∙ sym (ffr_is _ _ _ c.self.inside.ffr.items)
    ∙ ap (λ (s : SveState). s.registers.ffr) c.self.view_is
