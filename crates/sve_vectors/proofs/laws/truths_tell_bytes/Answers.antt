use Rattle.std.proofs.Common.{rules}
use Rattle.sve_vectors.proofs.Bits.{predicate_bytes-truths}
use Rattle.sve_vectors.proofs.laws.truths_tell_bytes.Goals as goal

pub returns : goal.returns
returns c = predicate_bytes-truths c.args.bytes.now (λ k lt. search (rules, c.type_inv.bytes k))
