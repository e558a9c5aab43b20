use Rattle.std.proofs.Common.{◌≡◌, map, take}
use Rattle.vector_runner.specs.Run.{answers}
use Rattle.vector_runner.specs.Told.{vector_told}
use Rattle.vector_runner.proofs.run.answer_all.Given as goal

abbrev pub invariant-loop-vector : goal.invariant-loop-vector
invariant-loop-vector l = map (λ line. line.items) l.lines.items ≡ answers l.vl l.svl (map vector_told (take l.vector-index l.vectors))
