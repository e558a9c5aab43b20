use Rattle.std.proofs.Common.{◌≡◌, ◌∷◌, [], length, map, refl, ap, sym, subst, ◌∙◌, arith}
use Rattle.std.specs.Prelude.{slice_get}
use Rattle.std.proofs.lemmas.List.{map-append}
use Rattle.shared_region.specs.Ports.{PlainEvents}
use Rattle.kernel_contexts.specs.Context.{config_of}
use Rattle.core_unit.specs.CoreState.{CoreState}
use Rattle.kernel_contexts.specs.Guest.{guest_of}
use Rattle.core_unit.specs.View.{core_state, held_by}
use Rattle.core_unit.proofs.Cores.{each_snoc}
use Rattle.world_core.specs.Applies.{AppliesHere}
use Rattle.world_core.specs.Parts.{guests_of, scene_with}
use Rattle.sm_types.specs.declared.world_event.WorldEvent.TheVariants as event
use Rattle.world_core.specs.declared.event.Applied.TheVariants as applied
use Rattle.world_core.specs.declared.event.Why.TheVariants.{NoResident}
use Rattle.world_core.proofs.Scenes.{offer_none, offer_so}
use Rattle.world_core.proofs.scene.offer.Goals as goal

pub push_reserved-requires : goal.push_reserved-requires
push_reserved-requires c =
    let some = ap (λ (s : CoreState PlainEvents). length s.residents) c.in-Some.ensures.taken in
    c.requires.room (omega (arith, some))

pub returns-in-Some-clause-applies : goal.returns-in-Some-clause-applies
returns-in-Some-clause-applies c = λ n done history.
    offer_so (core_state c.args.core.now) (core_state c.evict.new.self) (guests_of c.args.queue.now.items) done history n
    (guests_of c.push_reserved.new.self.items) (held_by c.in-Some.whole) c.in-Some.ensures.taken
    (ap (λ l. map (λ w. guest_of w.context) l) c.push_reserved.ensures.items
    ∙ map-append (λ w. guest_of w.context) c.args.queue.now.items (c.in-Some.whole ∷ []))

pub returns-in-Some-clause-done : goal.returns-in-Some-clause-done
returns-in-Some-clause-done c = sym (ap (λ (s : CoreState PlainEvents). s.done) c.in-Some.ensures.taken)

pub returns-in-Some-clause-number : goal.returns-in-Some-clause-number
returns-in-Some-clause-number c = sym (ap (λ (s : CoreState PlainEvents). s.number) c.in-Some.ensures.taken)

pub returns-in-Some-clause-config : goal.returns-in-Some-clause-config
returns-in-Some-clause-config c = sym (ap (λ (s : CoreState PlainEvents). s.config) c.in-Some.ensures.taken)

pub returns-in-Some-clause-options : goal.returns-in-Some-clause-options
returns-in-Some-clause-options c = λ i w get.
    each_snoc (λ x. config_of x.context ≡ (core_state c.args.core.now).config) c.args.queue.now.items c.in-Some.whole c.requires.options
    c.in-Some.ensures.config i w (ap (λ l. slice_get l i) (sym c.push_reserved.ensures.items) ∙ get)

pub returns-in-None-clause-applies : goal.returns-in-None-clause-applies
returns-in-None-clause-applies c = λ n done history.
    let old = core_state c.args.core.now in
    let queue = guests_of c.args.queue.now.items in
    subst (λ (s : CoreState PlainEvents). AppliesHere (event.Offer n) (scene_with old queue done history) (scene_with s queue done history)
    (applied.NotEnabled NoResident)) (sym (c.in-None.ensures.unchanged refl))
    (offer_none old old queue done history n (c.in-None.ensures.none refl))
