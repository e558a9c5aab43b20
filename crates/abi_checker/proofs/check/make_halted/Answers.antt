use Rattle.std.proofs.Common.{◌≡◌, ◌≤◌, ◌-◌, refl, arith, sym, subst, suc}
use Rattle.std.specs.Prelude.{IfOk}
use Rattle.kernel_contexts.specs.Context.{state_of, config_of, image_of, thread_of}
use Rattle.abi_checker.specs.Following.{IsFollowed, IsUnderWay}
use Rattle.abi_checker.proofs.Followed.{somewhere_here}
use Rattle.abi_checker.proofs.AtOnce.{far_first, far_over, if_ok, not_over_now, one_told, round_stays}
use Rattle.abi_checker.proofs.check.make_halted.Goals as goal

pub look-requires-clause-somewhere : goal.look-requires-clause-somewhere
look-requires-clause-somewhere c =
    let first = c.requires.some in
    somewhere_here _ _ _ _ _ c.args.context.now first.ticket refl refl c.args.watch.now _ first.followed c.count.result c.count.ensures
    c.count.type_inv

pub returns-then-count-clause-followed : goal.returns-then-count-clause-followed
returns-then-count-clause-followed c = λ journal ticket h.
    subst
    (λ o. IsFollowed (image_of c.args.context.now) (config_of c.args.context.now) (thread_of c.args.context.now) journal c.args.count
    c.args.context.now ticket c.args.watch.now o) (sym c.requires.none) h

pub returns-then-count-clause-goes : goal.returns-then-count-clause-goes
returns-then-count-clause-goes c = far_first c.args.context.now c.requires.home c.requires.runs

pub returns-then-made-eq0-clause-followed : goal.returns-then-made-eq0-clause-followed
returns-then-made-eq0-clause-followed c = λ journal ticket h.
    let most = not_over_now _ _ _ _ _ c.args.context.now ticket c.args.watch.now _ c.count.result c.count.ensures h in
    let room : 1 ≤ c.args.count - c.count.result = omega (arith, most, c.if-count.false) in
    subst
    (λ o. IsFollowed (image_of c.args.context.now) (config_of c.args.context.now) (thread_of c.args.context.now) journal c.args.count
    c.advance_several-made.new.self ticket c.args.watch.now o) (sym c.requires.none)
    (round_stays _ _ _ _ _ c.args.context.now ticket refl refl c.args.watch.now _ h _ c.advance_several-made.new.self
    c.advance_several-made.result _ c.count.result c.advance_several-made.ensures c.count.ensures room c.if-made-eq0.true)

pub returns-then-made-eq0-clause-goes : goal.returns-then-made-eq0-clause-goes
returns-then-made-eq0-clause-goes c =
    far_over _ c.args.context.now c.advance_several-made.new.self _ c.advance_several-made.result c.advance_several-made.ensures

pub returns-clause-followed : goal.returns-clause-followed
returns-clause-followed c = λ journal ticket h.
    let most = not_over_now _ _ _ _ _ c.args.context.now ticket c.args.watch.now _ c.count.result c.count.ensures h in
    let room : 1 ≤ c.args.count - c.count.result = omega (arith, most, c.if-count.false) in
    if_ok c.look.result _
    (λ found is.
    one_told _ _ _ _ _ c.args.context.now ticket refl refl c.args.watch.now h _ c.advance_several-made.new.self
    c.advance_several-made.result _ c.count.result c.advance_several-made.ensures c.count.ensures room (omega arith)
    c.call_at-call.result c.call_at-call.ensures.some c.call_at-call.ensures.none c.look.new.self c.look.new.found
    (λ run m w e past grows whole.
    subst (λ r. IfOk r (λ told. IsUnderWay run (suc m) c.look.new.self c.look.new.found)) is
    (c.look.ensures.told run m w e past grows whole))
    c.context_is_whole.ensures c.if-made-eq0.false)

pub returns-clause-goes : goal.returns-clause-goes
returns-clause-goes c =
    far_over _ c.args.context.now c.advance_several-made.new.self _ c.advance_several-made.result c.advance_several-made.ensures
