use Rattle.std.proofs.Common.{subst, sym, ◌≤◌}
use Rattle.za_array.specs.Array.{IsSquare}
use Rattle.abi_checker.proofs.open_call.rows_of.Goals as goal

pub returns-clause-square : goal.returns-clause-square
returns-clause-square c =
    subst (λ n. IsSquare n c.args.za.now.vectors) (sym c.size-index-end.ensures.square.count) c.size-index-end.ensures.square

pub returns-clause-small : goal.returns-clause-small
returns-clause-small c = subst (λ n. n ≤ 256) (sym c.size-index-end.ensures.square.count) c.size-index-end.ensures.small
