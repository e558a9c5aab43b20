use Rattle.lazy_saving.proofs.Returned.{kept_over, kept_goes, saved_over, saved_goes}
use Rattle.lazy_saving.proofs.laws.tail_restores_over_changes.Goals as goal

pub returns-clause-kept : goal.returns-clause-kept
returns-clause-kept c = λ vl area p r bytes h w covers on pointer.
    (λ n z lt o. kept_goes vl area p r bytes h w covers on pointer n z lt o, λ t o. kept_over vl area p r bytes h w covers on pointer t o)

pub returns-clause-saved : goal.returns-clause-saved
returns-clause-saved c = λ vl area p r bytes h w covers off pointer. (
  λ n z lt o. saved_goes vl area p r bytes h w covers off pointer n z lt o,
  λ t o. saved_over vl area p r bytes h w covers off pointer
      t o,
)
