use Rattle.std.proofs.Common.{refl}
use Rattle.abi_checker.proofs.AtOnce.{found_over, found_none}
use Rattle.abi_checker.proofs.check.go_far.Goals as goal

pub returns-then-is_none-clause-followed : goal.returns-then-is_none-clause-followed
returns-then-is_none-clause-followed c = λ journal ticket h.
    c.go_at_once.ensures.followed journal ticket
    (found_none _ _ _ _ _ c.args.context.now ticket c.args.watch.now c.args.found c.if-is_none.ensures h)

pub returns-clause-followed : goal.returns-clause-followed
returns-clause-followed c = λ journal ticket h.
    found_over _ _ _ _ _ c.args.context.now ticket refl refl c.args.watch.now c.args.found h _ c.advance_several.new.self
    c.advance_several.result c.count.result c.advance_several.ensures c.count.ensures c.if-is_none.ensures
