use Rattle.std.proofs.Common.{map}
use Rattle.kernel_contexts.specs.Context.{journal_of, thread_of}
use Rattle.smp_runner.proofs.Books.{all_back, kept_journals}
use Rattle.smp_runner.proofs.Runs.{have_run, all_started, all_home, in_number}
use Rattle.smp_runner.proofs.Whole.{fewer}
use Rattle.smp_runner.proofs.run.run_cores.Goals as goal

pub close-requires-clause-back : goal.close-requires-clause-back
close-requires-clause-back g c =
    all_back _ (map (λ x. journal_of x) c.in_ok-contexts.contexts.items) c.args.config.now.threads c.in_ok-contexts.ensures.maker

pub invariant_of-result : goal.invariant_of-result
invariant_of-result g c =
    let contexts = c.in_ok-contexts.contexts.items in record {
      home = all_home _ _ contexts c.in_ok-contexts.ensures.ended;
      order = in_number (λ x. thread_of x) contexts c.args.config.now.threads c.in_ok-contexts.ensures.order;
    }

pub returns-clause-run : goal.returns-clause-run
returns-clause-run g c =
    have_run _ _ c.in_ok-contexts.contexts.items _ c.in_ok-contexts.ensures.order c.in_ok-contexts.ensures.ended
    (fewer (map (λ x. journal_of x) c.in_ok-contexts.contexts.items) _ _ _
    (kept_journals _ (map (λ x. journal_of x) c.in_ok-contexts.contexts.items) c.args.config.now.threads c.in_ok-contexts.ensures.maker)
    c.close.ensures)

pub returns-clause-started : goal.returns-clause-started
returns-clause-started g c = all_started _ _ c.in_ok-contexts.contexts.items c.in_ok-contexts.ensures.ended
