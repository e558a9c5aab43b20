use Rattle.std.proofs.Common.{ap, arith, ◌∙◌}
use Rattle.paged_memory.specs.Pages.{memory_of}
use Rattle.paged_memory.proofs.Runs.{run_sought}
use Rattle.paged_memory.proofs.pages.Pages.bytes_within.Goals as goal

pub returns-clause-gone : goal.returns-clause-gone
returns-clause-gone c =
    run_sought c.as_slice.result.now c.args.self.now.memory 4 c.args.address c.args.count c.run.result
    (ap memory_of c.as_slice.ensures.value ∙ ap (λ t. t.memory) c.self.view_is) (omega arith) c.requires.some c.run.ensures.gone
