use Rattle.std.proofs.Common.{rules}
use Rattle.shared_table.specs.Seats.{view_of}
use Rattle.library_tests.proofs.Makers.{fresh_new, none_out}
use Rattle.library_tests.proofs.host_threads.try_with.Goals as goal

pub run-maker-requires-clause-fresh : goal.run-maker-requires-clause-fresh
run-maker-requires-clause-fresh g c κs within = fresh_new (view_of c.expect-table.result.1) (search rules)

pub close-requires-clause-back : goal.close-requires-clause-back
close-requires-clause-back g c =
    none_out (view_of c.expect-table.result.1) (view_of c.run-maker.result) (search rules) c.run-maker.ensures.back
