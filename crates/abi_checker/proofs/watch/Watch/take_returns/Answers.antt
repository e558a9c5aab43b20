use Rattle.std.proofs.Common.{rules}
use Rattle.std.specs.Prelude.{not}
use Rattle.std.proofs.lemmas.Fn.{filter_same}
use Rattle.kernel_contexts.specs.Context.{state_of}
use Rattle.abi_checker.specs.Returning.{is_back}
use Rattle.abi_checker.proofs.watch.Watch.take_returns.Goals as goal

pub returns-clause-left : goal.returns-clause-left
returns-clause-left c =
    filter_same _ (λ call. not (is_back (state_of c.args.context.now) call)) _ (λ x b f' h. (search rules, search rules)) _ _
    c.retain.ensures.filtered
