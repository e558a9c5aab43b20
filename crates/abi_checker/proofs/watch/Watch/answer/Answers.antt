use Rattle.std.proofs.Common.{ℕ, suc, ◌≡◌, sym, subst, length, arith}
use Rattle.kernel_contexts.specs.State.{State}
use Rattle.abi_checker.specs.Checked.{IsFaultless}
use Rattle.abi_checker.specs.Watching.{IsWatched}
use Rattle.abi_checker.specs.Following.{IsUnderWay}
use Rattle.abi_checker.specs.declared.watch.Watch.{Watch}
use Rattle.abi_checker.proofs.Walk.{count_open, count_back}
use Rattle.abi_checker.proofs.watch.Watch.answer.Goals as goal

faultless : (run : ℕ → State) (n : ℕ) (watch : Watch) → IsWatched run n watch
    → IsFaultless run n watch.returned (length watch.calls.items)
faultless run n watch w = record {
  none = w.none;
  lawful = w.lawful;
  whole = w.whole;
  back = count_back run n (suc n) watch.calls.items watch.returned w.walked;
  out = count_open run n (suc n) watch.calls.items watch.returned w.walked;
}

pub returns-in-None : goal.returns-in-None
returns-in-None c = λ run n h.
    let w : IsWatched run n c.args.self.now = subst (λ found. IsUnderWay run n c.args.self.now found) c.in-None.is h in
    let long : c.len.result ≡ length c.args.self.now.calls.items = omega (arith, c.len.ensures) in
    subst (λ k. IsFaultless run n c.args.self.now.returned k) (sym long) (faultless run n c.args.self.now w)
