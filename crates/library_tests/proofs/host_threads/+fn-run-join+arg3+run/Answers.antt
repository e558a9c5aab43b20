use Rattle.shared_table.specs.Seats.{view_of}
use Rattle.library_tests.proofs.Makers.{none_more_out}
use Rattle.library_tests.proofs.host_threads.+fn-run-join+arg3+run.Goals as goal

pub returns-clause-back : goal.returns-clause-back
returns-clause-back g t c =
    none_more_out (view_of c.args.maker) (view_of c.split-seat.new.seat) (view_of c.join-seat.result.1) (view_of c.join.new.seat)
    (view_of c.join-seat.result.0) c.args.thread c.split-seat.ensures.maker c.join-seat.ensures.first.number c.join.ensures.maker
    c.join-seat.ensures.second.1.1
