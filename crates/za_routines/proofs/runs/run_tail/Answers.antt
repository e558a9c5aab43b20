use Rattle.kernel_contexts.specs.Context.{state_of}
use Rattle.za_routines.proofs.runs.run_tail.Goals as goal

pub returns-clause-done : goal.returns-clause-done
returns-clause-done g c = c.return_turns-turns.ensures.done (state_of c.run_quietly.new.context) c.in_ok-run_quietly.ensures.after
