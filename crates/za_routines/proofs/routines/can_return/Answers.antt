use Rattle.std.proofs.Common.{◌≡◌, length, refl, sym, subst}
use Rattle.scalar_exec.specs.Registers.{x_of}
use Rattle.machine_step.specs.declared.machine.Machine.{Machine}
use Rattle.kernel_contexts.specs.Context.{state_of, config_of}
use Rattle.lazy_saving.specs.Dormant.{IsReady}
use Rattle.lazy_saving.specs.Outcome.{instructions_past}
use Rattle.za_routines.specs.Places.{places_of}
use Rattle.za_routines.specs.Turns.{IsHalf, CanReturnAt}
use Rattle.za_routines.proofs.Can.{return_at}
use Rattle.za_routines.proofs.Limits.{false_iff}
use Rattle.za_routines.proofs.routines.can_return.Goals as goal

pub returns-in-Some-clause-at : goal.returns-in-Some-clause-at
unfolding x_of
returns-in-Some-clause-at c =
    let p = places_of c.args.places.now in
    let s = state_of c.args.context.now in
    return_at p (config_of c.args.context.now) s c.in-Some.block c.tail_turns.result c.is_quiet.result c.is_quiet.ensures
    (subst (λ (m : Machine). m.scalars.pc ≡ p.tail) c.machine-machine.ensures c.if-machine-places.false)
    (subst (λ (m : Machine). IsHalf m.za_on m.tpidr2 (x_of m.scalars 19)) c.machine-machine.ensures (c.if-not-is_half.ensures.0 refl))
    (subst (λ (m : Machine). IsReady p s.core.memory (length s.core.bank.za) (x_of m.scalars 19) c.in-Some.block)
    c.machine-machine.ensures c.in-Some.ensures.some)
    (subst (λ (m : Machine). c.tail_turns.result ≡ instructions_past m.za_on c.in-Some.block) c.machine-machine.ensures
    c.tail_turns.ensures.value)

pub returns-in-Some-clause-can : goal.returns-in-Some-clause-can
returns-in-Some-clause-can c = λ t. (places_of c.args.places.now, (returns-in-Some-clause-at c).0 t)

pub returns-in-None-clause-at : goal.returns-in-None-clause-at
unfolding x_of
returns-in-None-clause-at c =
    let p = places_of c.args.places.now in
    let s = state_of c.args.context.now in
    false_iff (CanReturnAt p (config_of c.args.context.now) s) (λ h.
    c.in-None.ensures.none h.bytes
    (subst (λ (m : Machine). IsReady p s.core.memory (length s.core.bank.za) (x_of m.scalars 19) h.bytes)
    (sym c.machine-machine.ensures) h.back.ready))
