use Rattle.std.proofs.Common.{◌*◌, ap, ◌∙◌, arith}
use Rattle.std.proofs.lemmas.List.{length-take-le}
use Rattle.mem_access.proofs.InMemory.{none_denied}
use Rattle.mem_access.proofs.Halves.{first_read, second_read}
use Rattle.mem_access.proofs.pairs.read_pair_across.Goals as goal

pub returns-in-Ok-clause-first : goal.returns-in-Ok-clause-first
returns-in-Ok-clause-first c =
    first_read _ _ _ _ c.args.wide _ c.in-Ok.ensures.ok (length-take-le _ _ (omega arith) ∙ ap (λ k. 2 * k) c.register_size.ensures.value)
    c.numbers_of.ensures.first c.numbers_of.ensures.small

pub returns-in-Ok-clause-second : goal.returns-in-Ok-clause-second
returns-in-Ok-clause-second c =
    second_read _ _ _ c.numbers_of.result.0 _ c.args.wide _ c.in-Ok.ensures.ok
    (length-take-le _ _ (omega arith) ∙ ap (λ k. 2 * k) c.register_size.ensures.value) c.numbers_of.ensures.first
    c.numbers_of.ensures.small c.numbers_of.ensures.second

pub returns-in-Ok-clause-allowed : goal.returns-in-Ok-clause-allowed
returns-in-Ok-clause-allowed c =
    none_denied _ _ _ _ _ c.in-Ok.ensures.ok (length-take-le _ _ (omega arith) ∙ ap (λ k. 2 * k) c.register_size.ensures.value)
