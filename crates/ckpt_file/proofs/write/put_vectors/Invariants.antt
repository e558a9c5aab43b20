use Rattle.std.proofs.Common.{take}
use Rattle.ckpt_file.specs.Putting.{IsPut}
use Rattle.ckpt_file.proofs.write.put_vectors.Given as goal

abbrev pub invariant-loop-n : goal.invariant-loop-n
invariant-loop-n l = IsPut (take l.n l.vectors.registers.vectors) l.initial.out.items l.out.items
