use Rattle.std.proofs.Common.{◌≡◌, ◌∙◌, ◌<◌, true, false, length, sym, subst, arith}
use Rattle.kernel_contexts.specs.State.{State}
use Rattle.kernel_contexts.specs.Context.{state_of}
use Rattle.za_routines.specs.Places.{places_of}
use Rattle.lazy_saving.specs.Dormant.{IsLawful}
use Rattle.abi_checker.specs.Faults.{block_of}
use Rattle.abi_checker.specs.Keeping.{IsKept}
use Rattle.abi_checker.specs.Returning.{IsOfSome, IsFine}
use Rattle.abi_checker.proofs.Settled.{fine_more}
use Rattle.abi_checker.proofs.watch.Watch.returns_unlawfully.Goals as goal
use Rattle.abi_checker.proofs.watch.Watch.returns_unlawfully.Goals.{else-is_back-via-then-is_back+in_ok-is_lawful+else-not-branch}
use Rattle.abi_checker.proofs.watch.Watch.returns_unlawfully.Goals.{else-is_back-via-else-is_back}

pub is_lawful-requires-clause-kept : goal.is_lawful-requires-clause-kept
is_lawful-requires-clause-kept c =
    let below : c.calls.index < length c.args.self.now.calls.items = omega (arith, c.calls-test.true, c.len.ensures) in
    subst IsOfSome (sym c.index-call.ensures) (c.requires.kept c.calls.index c.index-call.result.now below)

pub returns-then-not-branch-clause-yes : goal.returns-then-not-branch-clause-yes
returns-then-not-branch-clause-yes c = λ _.
    let call = c.index-call.result.now in
    let below : c.calls.index < length c.args.self.now.calls.items = omega (arith, c.calls-test.true, c.len.ensures) in
    let unlawful : (s : State) → IsKept call s
    → ¬ IsLawful (places_of call.places) s.core (state_of c.args.context.now).core (block_of s) =
    λ s kept lawful.
    let yes = (c.in_ok-is_lawful.ensures s kept).1 lawful in
    let no = c.if-not-branch.true in
    cc in (
      call,
      (c.calls.index, below, sym c.index-call.ensures),
      record { back = sym c.if-is_back.ensures; unlawful = unlawful },
    )

pub calls-preserved : goal.calls-preserved
calls-preserved c =
    let call = c.index-call.result.now in
    let r = state_of c.args.context.now in
    let below : c.calls.index < length c.args.self.now.calls.items = omega (arith, c.calls-test.true, c.len.ensures) in
    let fine : IsFine r call = elim c.else-is_back.branch [
      | else-is_back-via-then-is_back+in_ok-is_lawful+else-not-branch w ↦
          λ back s kept. (w.in_ok-is_lawful.ensures s kept).0 w.if-not-branch.false
      | else-is_back-via-else-is_back w ↦ λ back s kept.
          let gone = w.if-is_back.false in
          let is = c.is_back.ensures in
          let no : true ≡ false = sym back ∙ sym is ∙ gone in cc
    ] in
    fine_more r c.args.self.now.calls.items c.calls.index call c.calls.invariant c.index-call.ensures below fine

pub returns-clause-no : goal.returns-clause-no
returns-clause-no c = λ _ k d l. c.calls.invariant k d (omega (arith, l, c.calls-test.false, c.len.ensures))
