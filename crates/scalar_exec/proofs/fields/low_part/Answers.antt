use Rattle.std.proofs.Common.{ap, ◌∙◌, ◌-◌, bit_and}
use Rattle.std.proofs.lemmas.Nat.{one_shl, and_mask}
use Rattle.scalar_exec.proofs.fields.low_part.Goals as goal

pub returns-clause-value : goal.returns-clause-value
returns-clause-value c = ap (λ m. bit_and c.args.value (m - 1)) (one_shl c.args.place 64 c.requires) ∙ and_mask c.args.value c.args.place
