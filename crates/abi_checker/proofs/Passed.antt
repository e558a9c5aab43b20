-- A turn after which nothing is to be told, and what was told before.
use Rattle.std.proofs.Common.{inl, ◌≡◌, ℕ, suc, ◌+◌, ◌≤◌, Option, Some, None, false, refl, subst, arith}
use Rattle.kernel_contexts.specs.State.{State}
use Rattle.abi_checker.specs.Near.{is_near}
use Rattle.abi_checker.specs.Whole.{IsWholeAt}
use Rattle.abi_checker.specs.Watching.{IsNoMarkPast, IsPast}
use Rattle.abi_checker.specs.Following.{IsUnderWay}
use Rattle.abi_checker.specs.declared.abi.Abi.{Abi}
use Rattle.abi_checker.specs.declared.abi.Abi.TheVariants.{Yes, No}
use Rattle.abi_checker.specs.declared.watch.Watch.{Watch}
use Rattle.abi_checker.proofs.Settled.{none_settles}
use Rattle.abi_checker.proofs.Went.{went_called, went_uncalled}

-- a fault that was told is told later
pub told_later : (run : ℕ → State) (n k : ℕ) (watch : Watch) (abi : Abi) → IsUnderWay run n watch (Some abi)
    → IsUnderWay run (n + k) watch (Some abi)
told_later run n k watch (Yes calls unreturned) h = absurd h
told_later run n k watch (No count pc kind) h =
    let within = h.within in
    record { at = h.at; within = omega (arith, within); first = h.first; counts = h.counts; place = h.place }

-- no call comes back there, and the turn was no marked call
pub passed : (run : ℕ → State) (n : ℕ) (watch : Watch) (s : State) (found : Option Abi) (call : Option ℕ) → IsUnderWay run n watch found
    → run (suc n) ≡ s → IsPast (run n) (run (suc n)) call → (run n).count ≤ (run (suc n)).count → IsWholeAt run (suc n)
    → IsNoMarkPast s call → is_near watch.near s.core.scalars.pc ≡ false → IsUnderWay run (suc n) watch found
passed run n watch s None None w e past grows whole none away =
    went_uncalled run n watch s w e grows watch (none_settles s watch w.near away) (λ c p r. whole) past
passed run n watch s None (Some at) w e past grows whole none away =
    went_called run n watch s w e grows watch (none_settles s watch w.near away) (λ c p r. whole) at watch past whole w.near None
    (refl, inl (record { none = none; calls = refl }))
passed run n watch s (Some abi) call h e past grows whole none away =
    let next : n + 1 ≡ suc n = omega arith in
    subst (λ i. IsUnderWay run i watch (Some abi)) next (told_later run n 1 watch abi h)
