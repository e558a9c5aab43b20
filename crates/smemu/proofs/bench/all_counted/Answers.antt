use Rattle.std.proofs.Common.{◌≡◌, ◌<◌, length, get_or, sym, ap, arith}
use Rattle.kernel_contexts.specs.Context.{state_of}
use Rattle.kernel_contexts.specs.declared.context.Context.{Context}
use Rattle.smemu.proofs.Benches.{counted_next, counted_none}
use Rattle.smemu.proofs.bench.all_counted.Goals as goal

pub loop-k-init : goal.loop-k-init
loop-k-init c = record { left = omega arith; most = omega arith }

pub loop-k-preserved : goal.loop-k-preserved
loop-k-preserved c =
    let i = c.loop-k.invariant in
    let inside : c.loop-k.k < length c.args.contexts.now = omega arith in
    let it = c.index-contexts-k.result in
    let next = counted_next c.args.contexts.now c.loop-k.k it inside in
    let same : (state_of (get_or c.args.contexts.now c.loop-k.k it)).count ≡ (state_of it).count =
    ap (λ (y : Context). (state_of y).count) (sym c.index-contexts-k.is) in
    let here = c.count.ensures in
    let more = c.from-sum.ensures in
    let fits = c.count.type_inv in
    let l = i.left in
    let m = i.most in
    record { left = omega (arith, next, same, here, more, l); most = omega (arith, here, more, fits, m) }

pub returns : goal.returns
returns c =
    let none = counted_none c.args.contexts.now c.loop-k.k (omega arith) in
    let l = c.loop-k.invariant.left in
    omega (arith, none, l)
