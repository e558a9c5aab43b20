use Rattle.lazy_saving.proofs.Callers.{whole_array, comes, comes_over}
use Rattle.lazy_saving.proofs.laws.arrays_come_back.Goals as goal

pub returns-clause-back : goal.returns-clause-back
returns-clause-back c = λ vl p s r b h old new w same pc. comes vl p s r b h old new w same pc

pub returns-clause-over : goal.returns-clause-over
returns-clause-over c = λ vl area p s r b h old new w same pc covers. comes_over vl p s r b h old new w same pc area covers

pub returns-clause-whole : goal.returns-clause-whole
returns-clause-whole c = λ on s t bytes h all. whole_array on s t bytes h all
