use Rattle.std.proofs.Common.{◌≡◌, rules, ap, length, arith}
use Rattle.std.proofs.lemmas.Result.{on_ok_weaker}
use Rattle.paged_memory.specs.Memory.{run_of}
use Rattle.paged_memory.specs.Pages.{table_of}
use Rattle.paged_memory.proofs.Order.{same_count}
use Rattle.paged_memory.proofs.Counted.{owned_count-also}
use Rattle.paged_memory.proofs.pages.Pages.own.Goals as goal

pub invariant_of-self : goal.invariant_of-self
invariant_of-self c =
    let count : length c.own_run.new.pages.items ≡ length c.self.inside.pages.items =
    same_count _ _ c.self.invariant.0 c.own_run.ensures.fine (ap (λ m. m.perm) c.own_run.ensures.memory) in
    (c.own_run.ensures.fine, omega arith)

pub returns-clause-ok : goal.returns-clause-ok
returns-clause-ok c = search rules

pub returns-clause-count : goal.returns-clause-count
returns-clause-count c = on_ok_weaker c.map_err.result (λ owns. owned_count-also c.args.self.now (table_of c.own_run.new.pages.items)
    (run_of c.args.address c.args.length) owns) (returns-clause-ok c)
