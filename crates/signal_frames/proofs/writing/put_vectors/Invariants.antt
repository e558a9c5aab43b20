use Rattle.std.proofs.Common.{take}
use Rattle.std.specs.List.{concat}
use Rattle.signal_frames.specs.Writing.{PutsPart}
use Rattle.signal_frames.proofs.writing.put_vectors.Given as goal

abbrev pub invariant-loop-n : goal.invariant-loop-n
invariant-loop-n l = PutsPart l.initial.pages l.pages l.address l.next (concat (take l.n l.vectors.registers.vectors))
