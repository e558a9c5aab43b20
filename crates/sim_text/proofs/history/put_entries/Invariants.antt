use Rattle.std.proofs.Common.{take, Ok}
use Rattle.std.specs.List.{flat_map}
use Rattle.edge_io.specs.Pieces.{gathered, Gathers}
use Rattle.sim_text.specs.History.{entry_line}
use Rattle.sim_text.proofs.history.put_entries.Given as goal

abbrev pub invariant-loop-entry : goal.invariant-loop-entry
invariant-loop-entry g l =
    Gathers (gathered (g.K.Sink.view l.initial.out) l.initial.piece) (gathered (g.K.Sink.view l.out) l.piece) (Ok tt)
    (flat_map entry_line (take l.entry-index l.entries))
