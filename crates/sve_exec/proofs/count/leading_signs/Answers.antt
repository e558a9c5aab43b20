use Rattle.std.proofs.Common.{arith, ap, ◌∙◌, ◌≡◌, ◌+◌, ◌-◌}
use Rattle.std.specs.Int.Count.{count_leading_zeros}
use Rattle.vector_elements.specs.Numbers.{bits_in}
use Rattle.sve_exec.specs.Unary.{leading_signs}
use Rattle.sve_exec.proofs.Counts.{zeros_more}
use Rattle.sve_exec.proofs.count.leading_signs.Goals.{After-leading_zeros}
use Rattle.sve_exec.proofs.count.leading_signs.Goals as goal

counted : (c : After-leading_zeros) → c.leading_zeros.result ≡ leading_signs c.args.size c.args.a + 1
counted c =
    c.leading_zeros.ensures ∙ zeros_more c.args.size c.changes.result c.changes.ensures.small
    ∙ ap (λ n. count_leading_zeros (bits_in c.args.size - 1) n + 1) c.changes.ensures.value

pub overflow_sub-result : goal.overflow_sub-result
overflow_sub-result c = let e = counted c in omega arith

pub returns : goal.returns
returns c = let e = counted c in omega arith
