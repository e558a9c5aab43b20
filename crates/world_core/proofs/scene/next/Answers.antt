use Rattle.std.proofs.Common.{length, ap, sym, subst, arith}
use Rattle.shared_region.specs.Ports.{PlainEvents}
use Rattle.core_unit.specs.CoreState.{CoreState}
use Rattle.core_unit.specs.View.{core_state}
use Rattle.world_core.specs.Applies.{AppliesHere}
use Rattle.world_core.specs.Parts.{scene_with}
use Rattle.sm_types.specs.declared.world_event.WorldEvent.TheVariants as event
use Rattle.world_core.specs.declared.event.Applied.TheVariants as applied
use Rattle.world_core.specs.declared.event.Why.TheVariants.{NoResident, OneResident}
use Rattle.world_core.proofs.Scenes.{next_so, next_none, next_one}
use Rattle.world_core.proofs.scene.next.Goals as goal

pub returns-then-next-clause-applies : goal.returns-then-next-clause-applies
returns-then-next-clause-applies c = λ n queue done history.
    next_so (core_state c.args.core.now) (core_state c.next.new.self) queue done history n (c.next.ensures.two c.if-next.true)
    (c.next.ensures.moved c.if-next.true)

pub returns-then-residents-eq0-clause-applies : goal.returns-then-residents-eq0-clause-applies
returns-then-residents-eq0-clause-applies c = λ n queue done history.
    let old = core_state c.args.core.now in
    let same = ap (λ x. core_state x) (c.next.ensures.unchanged c.if-next.false) in
    let count = ap (λ (s : CoreState PlainEvents). length s.residents) same in
    subst (λ (s : CoreState PlainEvents). AppliesHere (event.Next n) (scene_with old queue done history) (scene_with s queue done history)
    (applied.NotEnabled NoResident)) (sym same)
    (next_none old old queue done history n (omega (arith, count, c.residents.ensures, c.if-residents-eq0.true)))

pub returns-clause-applies : goal.returns-clause-applies
returns-clause-applies c = λ n queue done history.
    let old = core_state c.args.core.now in
    let same = ap (λ x. core_state x) (c.next.ensures.unchanged c.if-next.false) in
    let count = ap (λ (s : CoreState PlainEvents). length s.residents) same in
    subst (λ (s : CoreState PlainEvents). AppliesHere (event.Next n) (scene_with old queue done history) (scene_with s queue done history)
    (applied.NotEnabled OneResident)) (sym same)
    (next_one old old queue done history n
    (omega (arith, count, c.residents.ensures, c.if-residents-eq0.false, c.next.ensures.few c.if-next.false)))
