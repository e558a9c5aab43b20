use Rattle.mem_access.proofs.InMemory.{number_read, none_denied}
use Rattle.mem_access.proofs.near.number_near.Goals as goal

pub returns-in-Some-clause-value : goal.returns-in-Some-clause-value
returns-in-Some-clause-value c = number_read _ _ _ _ _ _ c.in-Some.ensures.there c.bytes_in.ensures.value c.number_of.ensures.value

pub returns-in-Some-clause-allowed : goal.returns-in-Some-clause-allowed
returns-in-Some-clause-allowed c = none_denied _ _ _ _ _ c.in-Some.ensures.there c.bytes_in.ensures.value
