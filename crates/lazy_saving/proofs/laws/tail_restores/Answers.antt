use Rattle.lazy_saving.proofs.Plain.{kept, saved}
use Rattle.lazy_saving.proofs.laws.tail_restores.Goals as goal

pub returns-clause-kept : goal.returns-clause-kept
returns-clause-kept c = λ vl p r bytes back w on pointer. let it = kept vl p r bytes back w on pointer in
    (it.state, it.runs, it.is.0, it.is.1)

pub returns-clause-saved : goal.returns-clause-saved
returns-clause-saved c = λ vl p r bytes back w off pointer. let it = saved vl p r bytes back w off pointer in
    (it.state, it.runs, it.is.0, it.is.1)
