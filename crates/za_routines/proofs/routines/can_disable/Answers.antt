use Rattle.std.proofs.Common.{◌≡◌, true, length, subst}
use Rattle.machine_step.specs.declared.machine.Machine.{Machine}
use Rattle.kernel_contexts.specs.Context.{state_of, config_of}
use Rattle.lazy_saving.specs.Dormant.{IsReady}
use Rattle.za_routines.specs.Places.{places_of}
use Rattle.za_routines.proofs.Can.{disable_at}
use Rattle.za_routines.proofs.routines.can_disable.Goals as goal

pub returns-in-Some-clause-at : goal.returns-in-Some-clause-at
returns-in-Some-clause-at c =
    let p = places_of c.args.places.now in
    let s = state_of c.args.context.now in
    disable_at p (config_of c.args.context.now) s c.in-Some.block c.instructions.result c.is_quiet.result c.is_quiet.ensures
    (subst (λ (m : Machine). m.za_on ≡ true) c.machine-machine.ensures c.if-not-machine.false)
    (subst (λ (m : Machine). m.scalars.pc ≡ p.disable) c.machine-machine.ensures c.if-machine-places.false)
    (subst (λ (m : Machine). IsReady p s.core.memory (length s.core.bank.za) m.tpidr2 c.in-Some.block) c.machine-machine.ensures
    c.in-Some.ensures.some)
    c.instructions.ensures

pub returns-in-Some-clause-can : goal.returns-in-Some-clause-can
returns-in-Some-clause-can c = λ t. (places_of c.args.places.now, (returns-in-Some-clause-at c).0 t)
