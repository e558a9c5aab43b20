use Rattle.std.proofs.Common.{subst, refl}
use Rattle.std.specs.Prelude.{IfSome}
use Rattle.kernel_contexts.specs.Context.{state_of}
use Rattle.abi_checker.specs.Watching.{IsNextWord}
use Rattle.abi_checker.proofs.AtOnce.{far_first, far_on, fewer, first_followed, not_over, own_followed, quiet_followed, some_followed}
use Rattle.abi_checker.proofs.check.go_at_once.Goals as goal

pub rounds-init : goal.rounds-init
rounds-init c = record {
  far = far_first c.args.context.now c.requires.home c.requires.runs;
  followed = λ journal ticket h. h;
  none = refl;
}

pub go_to_halt-requires-clause-none : goal.go_to_halt-requires-clause-none
go_to_halt-requires-clause-none c = c.rounds.invariant.none

pub go_to_halt-requires-clause-home : goal.go_to_halt-requires-clause-home
go_to_halt-requires-clause-home c = c.rounds.invariant.far.home

pub go_to_halt-requires-clause-runs : goal.go_to_halt-requires-clause-runs
go_to_halt-requires-clause-runs c = c.rounds.invariant.far.stop

pub go_to_halt-requires-clause-some : goal.go_to_halt-requires-clause-some
go_to_halt-requires-clause-some c =
    let first = c.requires.some in
    some_followed c.args.context.now c.rounds.context c.rounds.invariant.far first.journal c.args.count first.ticket c.rounds.watch _
    (c.rounds.invariant.followed first.journal first.ticket first.followed)

pub returns-in_err-pause-clause-goes : goal.returns-in_err-pause-clause-goes
returns-in_err-pause-clause-goes c =
    far_on c.args.context.now c.rounds.context c.go_to_halt.new.context c.rounds.invariant.far c.go_to_halt.ensures.goes

pub returns-then-pause-clause-followed : goal.returns-then-pause-clause-followed
returns-then-pause-clause-followed c = λ journal ticket h.
    let before = c.rounds.invariant.followed journal ticket h in
    let far = c.rounds.invariant.far in
    first_followed c.args.context.now c.rounds.context far journal c.args.count ticket c.rounds.watch _ before
    c.go_to_halt.new.context c.go_to_halt.new.watch c.go_to_halt.new.found
    (c.in_ok-pause.ensures.followed journal ticket
    (own_followed c.args.context.now c.rounds.context far journal c.args.count ticket c.rounds.watch _ before))

pub returns-then-pause-clause-goes : goal.returns-then-pause-clause-goes
returns-then-pause-clause-goes c =
    far_on c.args.context.now c.rounds.context c.go_to_halt.new.context c.rounds.invariant.far c.go_to_halt.ensures.goes

pub returns-in_default-clause-followed : goal.returns-in_default-clause-followed
returns-in_default-clause-followed c = λ journal ticket h.
    quiet_followed c.args.context.now c.rounds.context c.rounds.invariant.far journal c.args.count ticket c.rounds.watch
    (c.rounds.invariant.followed journal ticket h) c.go_to_halt.new.context c.go_to_halt.new.watch c.go_to_halt.new.found
    (c.in_ok-pause.ensures.followed journal ticket) (c.in_ok-pause.ensures.quiet c.if-pause.false)

pub returns-in_default-clause-goes : goal.returns-in_default-clause-goes
returns-in_default-clause-goes c =
    far_on c.args.context.now c.rounds.context c.go_to_halt.new.context c.rounds.invariant.far c.go_to_halt.ensures.goes

pub make_halted-requires-clause-home : goal.make_halted-requires-clause-home
make_halted-requires-clause-home c = c.go_to_halt.ensures.goes.home

pub make_halted-requires-clause-runs : goal.make_halted-requires-clause-runs
make_halted-requires-clause-runs c = c.go_to_halt.ensures.goes.stop

pub make_halted-requires-clause-some : goal.make_halted-requires-clause-some
make_halted-requires-clause-some c =
    let first = c.requires.some in
    let far = c.rounds.invariant.far in
    some_followed c.args.context.now c.go_to_halt.new.context
    (far_on c.args.context.now c.rounds.context c.go_to_halt.new.context far c.go_to_halt.ensures.goes) first.journal c.args.count
    first.ticket c.go_to_halt.new.watch _
    (quiet_followed c.args.context.now c.rounds.context far first.journal c.args.count first.ticket c.rounds.watch
    (c.rounds.invariant.followed first.journal first.ticket first.followed) c.go_to_halt.new.context c.go_to_halt.new.watch
    c.go_to_halt.new.found (c.in_ok-pause.ensures.followed first.journal first.ticket)
    (c.in_ok-pause.ensures.quiet c.if-pause.false))

pub make_halted-requires-clause-none : goal.make_halted-requires-clause-none
make_halted-requires-clause-none c = c.in_ok-pause.ensures.quiet c.if-pause.false

pub make_halted-requires-clause-there : goal.make_halted-requires-clause-there
make_halted-requires-clause-there c =
    subst (λ o. IfSome o (IsNextWord (state_of c.go_to_halt.new.context))) c.in-Some.is c.in_ok-pause.ensures.there

pub returns-in_err-told-clause-goes : goal.returns-in_err-told-clause-goes
returns-in_err-told-clause-goes c =
    far_on c.args.context.now c.go_to_halt.new.context c.make_halted.new.context
    (far_on c.args.context.now c.rounds.context c.go_to_halt.new.context c.rounds.invariant.far c.go_to_halt.ensures.goes)
    c.make_halted.ensures.goes

pub returns-then-told-clause-followed : goal.returns-then-told-clause-followed
returns-then-told-clause-followed c = λ journal ticket h.
    let far = c.rounds.invariant.far in
    let on = far_on c.args.context.now c.rounds.context c.go_to_halt.new.context far c.go_to_halt.ensures.goes in
    let mid =
    quiet_followed c.args.context.now c.rounds.context far journal c.args.count ticket c.rounds.watch
    (c.rounds.invariant.followed journal ticket h) c.go_to_halt.new.context c.go_to_halt.new.watch c.go_to_halt.new.found
    (c.in_ok-pause.ensures.followed journal ticket) (c.in_ok-pause.ensures.quiet c.if-pause.false) in
    first_followed c.args.context.now c.go_to_halt.new.context on journal c.args.count ticket c.go_to_halt.new.watch _ mid
    c.make_halted.new.context c.make_halted.new.watch c.make_halted.new.found
    (c.in_ok-told.ensures.followed journal ticket
    (own_followed c.args.context.now c.go_to_halt.new.context on journal c.args.count ticket c.go_to_halt.new.watch _ mid))

pub returns-then-told-clause-goes : goal.returns-then-told-clause-goes
returns-then-told-clause-goes c =
    far_on c.args.context.now c.go_to_halt.new.context c.make_halted.new.context
    (far_on c.args.context.now c.rounds.context c.go_to_halt.new.context c.rounds.invariant.far c.go_to_halt.ensures.goes)
    c.make_halted.ensures.goes

pub returns-then-count-before-clause-followed : goal.returns-then-count-before-clause-followed
returns-then-count-before-clause-followed c = λ journal ticket h.
    let far = c.rounds.invariant.far in
    let on = far_on c.args.context.now c.rounds.context c.go_to_halt.new.context far c.go_to_halt.ensures.goes in
    quiet_followed c.args.context.now c.go_to_halt.new.context on journal c.args.count ticket c.go_to_halt.new.watch
    (quiet_followed c.args.context.now c.rounds.context far journal c.args.count ticket c.rounds.watch
    (c.rounds.invariant.followed journal ticket h) c.go_to_halt.new.context c.go_to_halt.new.watch c.go_to_halt.new.found
    (c.in_ok-pause.ensures.followed journal ticket) (c.in_ok-pause.ensures.quiet c.if-pause.false))
    c.make_halted.new.context c.make_halted.new.watch c.make_halted.new.found (c.in_ok-told.ensures.followed journal ticket)
    (c.in_ok-told.ensures.quiet c.if-told.false)

pub returns-then-count-before-clause-goes : goal.returns-then-count-before-clause-goes
returns-then-count-before-clause-goes c =
    far_on c.args.context.now c.go_to_halt.new.context c.make_halted.new.context
    (far_on c.args.context.now c.rounds.context c.go_to_halt.new.context c.rounds.invariant.far c.go_to_halt.ensures.goes)
    c.make_halted.ensures.goes

pub rounds-preserved : goal.rounds-preserved
rounds-preserved c =
    let far = c.rounds.invariant.far in
    let on = far_on c.args.context.now c.rounds.context c.go_to_halt.new.context far c.go_to_halt.ensures.goes in
    record {
      far = far_on c.args.context.now c.go_to_halt.new.context c.make_halted.new.context on c.make_halted.ensures.goes;
      followed = λ journal ticket h.
          quiet_followed c.args.context.now c.go_to_halt.new.context on journal c.args.count ticket c.go_to_halt.new.watch
          (quiet_followed c.args.context.now c.rounds.context far journal c.args.count ticket c.rounds.watch
          (c.rounds.invariant.followed journal ticket h) c.go_to_halt.new.context c.go_to_halt.new.watch c.go_to_halt.new.found
          (c.in_ok-pause.ensures.followed journal ticket) (c.in_ok-pause.ensures.quiet c.if-pause.false))
          c.make_halted.new.context c.make_halted.new.watch c.make_halted.new.found (c.in_ok-told.ensures.followed journal ticket)
          (c.in_ok-told.ensures.quiet c.if-told.false);
      none = c.in_ok-told.ensures.quiet c.if-told.false;
    }

pub rounds-smaller : goal.rounds-smaller
rounds-smaller c =
    let far = c.rounds.invariant.far in
    let first = c.requires.some in
    let on = far_on c.args.context.now c.rounds.context c.go_to_halt.new.context far c.go_to_halt.ensures.goes in
    let way =
    quiet_followed c.args.context.now c.go_to_halt.new.context on first.journal c.args.count first.ticket c.go_to_halt.new.watch
    (quiet_followed c.args.context.now c.rounds.context far first.journal c.args.count first.ticket c.rounds.watch
    (c.rounds.invariant.followed first.journal first.ticket first.followed) c.go_to_halt.new.context c.go_to_halt.new.watch
    c.go_to_halt.new.found (c.in_ok-pause.ensures.followed first.journal first.ticket)
    (c.in_ok-pause.ensures.quiet c.if-pause.false))
    c.make_halted.new.context c.make_halted.new.watch c.make_halted.new.found
    (c.in_ok-told.ensures.followed first.journal first.ticket) (c.in_ok-told.ensures.quiet c.if-told.false) in
    fewer c.args.count (state_of c.rounds.context).count (state_of c.go_to_halt.new.context).count
    (state_of c.make_halted.new.context).count c.count-before.result c.count.result c.go_to_halt.ensures.goes.count
    c.count-before.ensures c.count.ensures c.if-count-before.false c.make_halted.ensures.goes.count
    (not_over _ _ _ _ _ c.make_halted.new.context first.ticket c.make_halted.new.watch _ way)
