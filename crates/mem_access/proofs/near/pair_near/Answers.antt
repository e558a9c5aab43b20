use Rattle.std.proofs.Common.{◌*◌, ap}
use Rattle.mem_access.proofs.InMemory.{none_denied}
use Rattle.mem_access.proofs.Halves.{first_read, second_read}
use Rattle.mem_access.proofs.near.pair_near.Goals as goal

pub returns-in-Some-clause-first : goal.returns-in-Some-clause-first
returns-in-Some-clause-first c =
    first_read _ _ _ _ c.args.wide _ c.in-Some.ensures.there (ap (λ k. 2 * k) c.register_size.ensures.value)
    c.numbers_of.ensures.first c.numbers_of.ensures.small

pub returns-in-Some-clause-second : goal.returns-in-Some-clause-second
returns-in-Some-clause-second c =
    second_read _ _ _ c.numbers_of.result.0 _ c.args.wide _ c.in-Some.ensures.there (ap (λ k. 2 * k) c.register_size.ensures.value)
    c.numbers_of.ensures.first c.numbers_of.ensures.small c.numbers_of.ensures.second

pub returns-in-Some-clause-allowed : goal.returns-in-Some-clause-allowed
returns-in-Some-clause-allowed c = none_denied _ _ _ _ _ c.in-Some.ensures.there (ap (λ k. 2 * k) c.register_size.ensures.value)
