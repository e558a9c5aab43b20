use Rattle.abi_checker.proofs.Once.{one_checked, checked_ends}
use Rattle.abi_checker.proofs.laws.one_answer.Goals as goal

pub returns-clause-one : goal.returns-clause-one
returns-clause-one c = λ program config thread journal count a b h k.
    one_checked program config thread journal count a b h k

pub returns-clause-ends : goal.returns-clause-ends
returns-clause-ends c = λ program config thread journal count abi h.
    checked_ends program config thread journal count abi h
