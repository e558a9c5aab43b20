use Rattle.std.proofs.Common.{rules, ◌≡◌, false, ap}
use Rattle.std.specs.Prelude.{Ok}
use Rattle.kernel_contexts.specs.Context.{state_of}
use Rattle.abi_checker.specs.Near.{is_near}
use Rattle.abi_checker.proofs.Settled.{none_settles}
use Rattle.abi_checker.proofs.watch.Watch.settle.Goals as goal

pub returns-then-not-is_near-clause-no : goal.returns-then-not-is_near-clause-no
returns-then-not-is_near-clause-no c = λ _.
    let away : is_near c.args.self.now.near (state_of c.args.context.now).core.scalars.pc ≡ false = search rules in
    none_settles (state_of c.args.context.now) c.args.self.now c.requires.near away

pub returns-clause-no : goal.returns-clause-no
returns-clause-no c = λ _. record {
  fine = c.in_ok-returns_unlawfully.ensures.no (ap Ok c.if-branch.false);
  left = c.take_returns.ensures.left;
  all = c.take_returns.ensures.all;
  near = c.take_returns.ensures.near;
}
