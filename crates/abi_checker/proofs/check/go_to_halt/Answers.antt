use Rattle.std.proofs.Common.{refl, arith, sym, subst}
use Rattle.kernel_contexts.specs.Context.{config_of, image_of, thread_of}
use Rattle.abi_checker.specs.Following.{IsFollowed}
use Rattle.abi_checker.proofs.Followed.{somewhere_here}
use Rattle.abi_checker.proofs.AtOnce.{far_over, halted_there, not_over_now, quiet_told, round_stays}
use Rattle.abi_checker.proofs.check.go_to_halt.Goals as goal

pub overflow_sub-left : goal.overflow_sub-left
overflow_sub-left c =
    let first = c.requires.some in
    not_over_now _ _ _ _ _ c.args.context.now first.ticket c.args.watch.now _ c.count.result c.count.ensures first.followed

pub look-requires-clause-somewhere : goal.look-requires-clause-somewhere
look-requires-clause-somewhere c =
    let first = c.requires.some in
    somewhere_here _ _ _ _ _ c.args.context.now first.ticket refl refl c.args.watch.now _ first.followed c.count.result c.count.ensures
    c.count.type_inv

pub returns-then-made-eq0-clause-followed : goal.returns-then-made-eq0-clause-followed
returns-then-made-eq0-clause-followed c = λ journal ticket h.
    subst
    (λ o. IsFollowed (image_of c.args.context.now) (config_of c.args.context.now) (thread_of c.args.context.now) journal c.args.count
    c.advance_several-made.new.self ticket c.args.watch.now o) (sym c.requires.none)
    (round_stays _ _ _ _ _ c.args.context.now ticket refl refl c.args.watch.now _ h _ c.advance_several-made.new.self
    c.advance_several-made.result _ c.count.result c.advance_several-made.ensures c.count.ensures (omega arith) c.if-made-eq0.true)

pub returns-then-made-eq0-clause-goes : goal.returns-then-made-eq0-clause-goes
returns-then-made-eq0-clause-goes c =
    far_over _ c.args.context.now c.advance_several-made.new.self _ c.advance_several-made.result c.advance_several-made.ensures

pub returns-then-made-eq0-clause-there : goal.returns-then-made-eq0-clause-there
returns-then-made-eq0-clause-there c =
    halted_there _ c.args.context.now c.advance_several-made.new.self _ c.advance_several-made.result c.advance_several-made.ensures

pub returns-in_err-told-clause-goes : goal.returns-in_err-told-clause-goes
returns-in_err-told-clause-goes c =
    far_over _ c.args.context.now c.advance_several-made.new.self _ c.advance_several-made.result c.advance_several-made.ensures

pub returns-clause-followed : goal.returns-clause-followed
returns-clause-followed c = λ journal ticket h.
    quiet_told _ _ _ _ _ c.args.context.now ticket refl refl c.args.watch.now h c.advance_several-made.new.self
    c.advance_several-made.result c.count.result c.advance_several-made.ensures c.count.ensures c.look.new.self c.look.new.found
    c.in_ok-told.ensures.told c.context_is_whole.ensures c.if-made-eq0.false

pub returns-clause-goes : goal.returns-clause-goes
returns-clause-goes c =
    far_over _ c.args.context.now c.advance_several-made.new.self _ c.advance_several-made.result c.advance_several-made.ensures

pub returns-clause-there : goal.returns-clause-there
returns-clause-there c =
    halted_there _ c.args.context.now c.advance_several-made.new.self _ c.advance_several-made.result c.advance_several-made.ensures
