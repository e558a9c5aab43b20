use Rattle.std.proofs.Common.{◌≡◌, ◌≤◌, ◌-◌, ◌*◌, ◌%◌, ◌^◌, ap, arith, lit<}
use Rattle.std.proofs.Math.Nat.{pow-le-pow_right}
use Rattle.kernel_contexts.specs.Watch.{waiting}
use Rattle.kernel_contexts.proofs.Signals.{waiting_keeps}
use Rattle.kernel_contexts.proofs.guest.GuestThread.release.Goals as goal

pub invariant_of-self-clause-turns_are_few : goal.invariant_of-self-clause-turns_are_few
invariant_of-self-clause-turns_are_few c =
    let t = c.args.self.now in
    let k = c.args.signal in
    let below : k ≤ 63 = omega (arith, c.requires.within) in
    let small : 2 ^ k ≤ 2 ^ 63 = pow-le-pow_right {n = 2} (lit< tt) below in
    let bit : 1 * 2 ^ k % 2 ^ 64 ≡ 2 ^ k = omega (arith, small) in
    let same : waiting t.polled (t.held - 1 * 2 ^ k % 2 ^ 64) ≡ waiting t.polled (t.held - 2 ^ k) =
    ap (λ b. waiting t.polled (t.held - b)) bit in
    omega (arith, t.turns_are_few, same, waiting_keeps t.polled t.held k c.requires.held)
