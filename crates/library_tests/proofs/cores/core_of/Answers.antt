use Rattle.std.proofs.Common.{rules, ap, arith, ◌∙◌}
use Rattle.core_unit.specs.View.{core_state, held_by}
use Rattle.library_tests.proofs.Places.{absent_more, where_ok}
use Rattle.library_tests.proofs.cores.core_of.Goals as goal

pub admit-requires-clause-absent : goal.admit-requires-clause-absent
admit-requires-clause-absent g c =
    rw c.unstarted-whole.ensures.thread (c.threads.invariant.absent c.threads.thread (omega arith))

pub threads-preserved : goal.threads-preserved
threads-preserved g c =
    let is = where_ok c.admit.result _ (search rules) c.admit.ensures.admitted in
    record {
      options = ap (λ s. s.config) is ∙ c.threads.invariant.options;
      absent = λ t above. absent_more (held_by c.unstarted-whole.result) (core_state c.threads.core) (core_state c.admit.new.self) t is
          (λ same. let its = c.unstarted-whole.ensures.thread in omega (arith, above, same, its))
          (c.threads.invariant.absent t (omega (arith, above)));
    }

pub returns-clause-absent : goal.returns-clause-absent
returns-clause-absent g c = λ t above.
    let end = c.threads.auto.thread-end in
    c.threads.invariant.absent t (omega (arith, end, above))
