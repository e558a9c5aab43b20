use Rattle.std.proofs.Common.{length}
use Rattle.library_tests.proofs.host_threads.+fn-run-join+arg3+run.Given as goal

abbrev pub decreases-join+arg3 : goal.decreases-join+arg3
decreases-join+arg3 g l = length l.others.now

abbrev pub decreases-run : goal.decreases-run
decreases-run g l = length l.answers.now
