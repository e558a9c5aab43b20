use Rattle.kernel_contexts.specs.Context.{state_of}
use Rattle.abi_checker.proofs.Passed.{passed}
use Rattle.abi_checker.proofs.watch.Watch.tell.Goals as goal

pub returns-then-passes : goal.returns-then-passes
returns-then-passes c = λ run n way e past grows whole.
    passed run n c.args.self.now (state_of c.args.context.now) c.args.found c.args.past way e past grows whole
    (c.passes.ensures.call c.if-passes.true) (c.passes.ensures.away c.if-passes.true)
