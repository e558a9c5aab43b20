use Rattle.std.proofs.Common.{◌∙◌}
use Rattle.std.proofs.lemmas.List.{length-take-le}
use Rattle.mem_access.proofs.InMemory.{number_read, none_denied}
use Rattle.mem_access.proofs.numbers.read_across.Goals as goal

pub returns-in-Ok-clause-value : goal.returns-in-Ok-clause-value
returns-in-Ok-clause-value c =
    number_read _ _ _ _ _ _ c.in-Ok.ensures.ok (length-take-le _ _ c.bytes_in.ensures.small ∙ c.bytes_in.ensures.value)
    c.number_of.ensures.value

pub returns-in-Ok-clause-allowed : goal.returns-in-Ok-clause-allowed
returns-in-Ok-clause-allowed c =
    none_denied _ _ _ _ _ c.in-Ok.ensures.ok (length-take-le _ _ c.bytes_in.ensures.small ∙ c.bytes_in.ensures.value)
