use Rattle.std.proofs.Common.{ℕ, suc, ◌≡◌, ◌∙◌, sym, ap, subst, arith, false, Option, Some, None}
use Rattle.std.specs.Option.{is_some}
use Rattle.machine_step.specs.declared.machine.Machine.{Machine}
use Rattle.kernel_contexts.specs.State.{State}
use Rattle.abi_checker.specs.Watching.{IsWatched, IsToldNext}
use Rattle.abi_checker.specs.Following.{IsUnderWay}
use Rattle.abi_checker.specs.declared.abi.Abi.{Abi}
use Rattle.abi_checker.specs.declared.watch.Watch.{Watch}
use Rattle.abi_checker.proofs.watch.Watch.tell_there.Goals as goal

watched : (run : ℕ → State) (n : ℕ) (watch : Watch) (found : Option Abi) → false ≡ is_some found → IsUnderWay run n watch found
    → IsWatched run n watch
watched run n watch None e h = h
watched run n watch (Some abi) e h = cc

pub go_on-requires-clause-somewhere : goal.go_on-requires-clause-somewhere
go_on-requires-clause-somewhere c =
    let here = c.requires.somewhere in
    (here.0, here.1, watched here.0 here.1 c.args.self.now c.args.found c.if-is_some.ensures here.2, here.3)

pub returns-in-Some : goal.returns-in-Some
returns-in-Some c = λ run n way e past grows whole.
    let w = watched run n c.args.self.now c.args.found c.if-is_some.ensures way in
    let told = subst (λ kind. IsToldNext run (suc n) kind c.go_on.new.self) c.in-Some.is
    (c.in_ok-kind.ensures run n w e past grows whole) in
    record {
      at = suc n;
      within = omega arith;
      first = told;
      counts = c.count.ensures ∙ sym (ap (λ (s : State). s.count) e);
      place = ap (λ (m : Machine). m.scalars.pc) c.machine.ensures ∙ sym (ap (λ (s : State). s.core.scalars.pc) e);
    }

pub returns-in-None : goal.returns-in-None
returns-in-None c = λ run n way e past grows whole.
    let w = watched run n c.args.self.now c.args.found c.if-is_some.ensures way in
    subst (λ kind. IsToldNext run (suc n) kind c.go_on.new.self) c.in-None.is (c.in_ok-kind.ensures run n w e past grows whole)
