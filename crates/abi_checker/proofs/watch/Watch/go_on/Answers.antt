use Rattle.std.proofs.Common.{ap, subst, suc, arith}
use Rattle.std.specs.Prelude.{Ok}
use Rattle.kernel_contexts.specs.Context.{state_of}
use Rattle.abi_checker.specs.Watching.{IsPast, AfterCall, AreNear, IsToldNext}
use Rattle.abi_checker.proofs.Went.{went_unlawful, went_uncalled, went_called, all_of_some, settled_few, both_ok}
use Rattle.abi_checker.proofs.watch.Watch.go_on.Goals as goal

pub settle-requires-clause-kept : goal.settle-requires-clause-kept
settle-requires-clause-kept c =
    let here = c.requires.somewhere in
    all_of_some here.0 here.1 c.args.self.now here.2

pub settle-requires-clause-few : goal.settle-requires-clause-few
settle-requires-clause-few c =
    let here = c.requires.somewhere in
    let counted = here.2.counted in
    omega (arith, counted, here.3)

pub settle-requires-clause-near : goal.settle-requires-clause-near
settle-requires-clause-near c = c.requires.somewhere.2.near

pub returns-then-branch : goal.returns-then-branch
returns-then-branch c = λ run n w e past grows whole.
    let old = c.args.self.now in
    went_unlawful run n old (state_of c.args.context.now) w e grows old (c.in_ok-settle.ensures.yes (ap Ok c.if-branch.true))

pub call-requires-clause-few : goal.call-requires-clause-few
call-requires-clause-few c =
    let here = c.requires.somewhere in
    let few = here.2.few in
    let fewer =
    settled_few (state_of c.args.context.now) c.args.self.now c.settle.new.self
    (c.in_ok-settle.ensures.no (ap Ok c.if-branch.false)) in
    omega (arith, few, fewer)

pub returns-in-Some : goal.returns-in-Some
returns-in-Some c = λ run n w e past grows whole.
    let s = state_of c.args.context.now in
    let mid = c.settle.new.self in
    let new = c.call.new.self in
    both_ok c.call.result (λ kind. AfterCall s c.in-Some.past mid new kind) (λ kind. AreNear new.near new.calls.items)
    (λ kind. IsToldNext run (suc n) kind new) c.call.ensures.after c.call.ensures.near
    (λ kind after near.
    went_called run n c.args.self.now s w e grows mid (c.in_ok-settle.ensures.no (ap Ok c.if-branch.false)) (λ call p r. whole)
    c.in-Some.past new (subst (λ o. IsPast (run n) (run (suc n)) o) c.in-Some.is past) whole near kind after)

pub returns-in-None : goal.returns-in-None
returns-in-None c = λ run n w e past grows whole.
    went_uncalled run n c.args.self.now (state_of c.args.context.now) w e grows c.settle.new.self
    (c.in_ok-settle.ensures.no (ap Ok c.if-branch.false)) (λ call p r. whole)
    (subst (λ o. IsPast (run n) (run (suc n)) o) c.in-None.is past)
