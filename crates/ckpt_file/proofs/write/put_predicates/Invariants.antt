use Rattle.std.proofs.Common.{map, take}
use Rattle.sve_vectors.specs.Predicates.{predicate_bytes}
use Rattle.ckpt_file.specs.Putting.{IsPut}
use Rattle.ckpt_file.proofs.write.put_predicates.Given as goal

abbrev pub invariant-loop-n : goal.invariant-loop-n
invariant-loop-n l = IsPut (take l.n (map predicate_bytes l.vectors.registers.predicates)) l.initial.out.items l.out.items
