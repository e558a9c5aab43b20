use Rattle.std.proofs.Common.{◌≡◌}
use Rattle.std.specs.List.{flat_map}
use Rattle.edge_io.specs.Pieces.{gathered}
use Rattle.edge_io.specs.Sofar.{SoFar}
use Rattle.workload.specs.Source.{number_at, chosen_lines, ended}
use Rattle.workload.proofs.Rest.{rest_of}
use Rattle.workload.proofs.source.put_chosen_lines.Given as goal

abbrev pub invariant-loop-i : goal.invariant-loop-i
invariant-loop-i g l = record {
  number : l.current ≡ number_at l.number l._i;
  left : SoFar (gathered (g.K.Sink.view l.initial.out) l.initial.piece) (gathered (g.K.Sink.view l.out) l.piece) (rest_of l.number l._i)
      (flat_map ended (chosen_lines l.number));
}
