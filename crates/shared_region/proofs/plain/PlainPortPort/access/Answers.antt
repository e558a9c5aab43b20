use Rattle.std.proofs.Common.{rules}
use Rattle.shared_region.specs.History.{entry_of}
use Rattle.shared_region.proofs.Words.{plain, plain_goes_on}
use Rattle.shared_region.proofs.plain.PlainPortPort.access.Goals as goal

pub invariant_of-self-2 : goal.invariant_of-self-2
invariant_of-self-2 c =
    plain_goes_on (plain c.self.inside.words.value c.self.inside.history.items)
    (entry_of c.args.thread c.args.op c.apply-answer.result) _ _ c.self.invariant
    (record { answer = search rules; words = search rules; history = search rules })
