use Rattle.std.proofs.Common.{None, suc}
use Rattle.kernel_contexts.specs.Context.{state_of}
use Rattle.abi_checker.proofs.AtOnce.{under_none}
use Rattle.abi_checker.proofs.Passed.{passed}
use Rattle.abi_checker.proofs.watch.Watch.look.Goals as goal

pub returns-then-passes-clause-told : goal.returns-then-passes-clause-told
returns-then-passes-clause-told c = λ run n way e past grows whole.
    under_none run (suc n) c.args.self.now c.args.found.now c.requires.none
    (passed run n c.args.self.now (state_of c.args.context.now) None c.args.past way e past grows whole
    (c.passes.ensures.call c.if-passes.true) (c.passes.ensures.away c.if-passes.true))
