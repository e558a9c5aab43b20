use Rattle.sve_vectors.proofs.Bits.{truths-predicate_bytes}
use Rattle.sve_vectors.proofs.laws.bytes_tell_truths.Goals as goal

pub returns : goal.returns
returns c = truths-predicate_bytes
