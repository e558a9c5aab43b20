use Rattle.std.proofs.Common.{refl}
use Rattle.signal_frames.specs.Return.{restored, returned, unmasked}
use Rattle.signal_frames.proofs.laws.return_sees_no_mode.Goals as goal

pub returns-clause-fault : goal.returns-clause-fault
returns-clause-fault c = λ version depth on vl s. refl

pub returns-clause-state : goal.returns-clause-state
unfolding restored returned
returns-clause-state c = λ version depth on vl s. refl

pub returns-clause-masking : goal.returns-clause-masking
unfolding unmasked
returns-clause-masking c = λ version depth on vl s. refl
