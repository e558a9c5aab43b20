use Rattle.std.proofs.Common.{◌≢◌, ◌<◌, ◌≤◌, length, map, sym, ap, ◌∙◌, arith, refl, subst}
use Rattle.std.specs.Prelude.{All}
use Rattle.std.proofs.lemmas.List.Elements.{All-nil}
use Rattle.std.proofs.lemmas.Grind.{common_steps}
use Rattle.shared_region.specs.Ports.{PlainEvents}
use Rattle.kernel_contexts.specs.Guest.{guest_of}
use Rattle.core_unit.specs.Held.{Held}
use Rattle.core_unit.specs.View.{core_state}
use Rattle.kernel_contexts.specs.Context.{thread_of}
use Rattle.world_core.specs.Parts.{IsCoreOf, guests_of, core_guests}
use Rattle.world_core.specs.View.{world_of}
use Rattle.sm_types.specs.declared.world_event.WorldEvent.TheVariants as event
use Rattle.world_core.proofs.Bags.{owned_after, room_after, room_more, absent_there, absent_in}
use Rattle.world_core.proofs.Lifting.{no_core, found_core, world_applies, each_set}
use Rattle.std.proofs.lemmas.List.{length-map, nil_from_length}
use Rattle.plain_lemmas.proofs.Lists.{slice_get-found}
use Rattle.world_core.proofs.Lists.{front_of}
use Rattle.world_core.proofs.Scenes.{guests-length}
use Rattle.world_core.proofs.world.World.apply.Goals as goal

pub returns-then-index-len : goal.returns-then-index-len
returns-then-index-len c =
    let t = c.args.self.now in
    let past : length t.cores.items ≤ c.core_number-number.result = grind (arith, common_steps, c.len.ensures, c.if-index-len.true) in
    no_core core_guests t.cores.items (world_of t) refl c.args.event c.core_number-number.result c.core_number-number.ensures past

-- ---- Run

pub run-requires-clause-none : goal.run-requires-clause-none
run-requires-clause-none c =
    let t = c.args.self.now in
    let n = c.core_number-number.result in
    let within : n < length t.cores.items = grind (arith, common_steps, c.len.ensures, c.if-index-len.false) in
    (t.fit n c.index_mut.result.now (slice_get-found t.cores.items n c.index_mut.result.now within c.index_mut.ensures.value)).none_done

pub run-requires-clause-room : goal.run-requires-clause-room
run-requires-clause-room c = λ some.
    let t = c.args.self.now in
    let n = c.core_number-number.result in
    let within : n < length t.cores.items = grind (arith, common_steps, c.len.ensures, c.if-index-len.false) in
    let here = c.index_mut.result.now in
    let get = slice_get-found t.cores.items n here within c.index_mut.ensures.value in
    let count = guests-length (core_state here).residents in
    let room = room_more (world_of t) n (core_guests here) _ _ t.room
    (found_core core_guests t.cores.items (world_of t) refl n here get) (omega (arith, count, some)) in
    let done = length-map t.done.items (λ w. guest_of w.context) in
    omega (arith, room.1, done)

pub invariant_of-self-in-Run : goal.invariant_of-self-in-Run
invariant_of-self-in-Run c =
    let t = c.args.self.now in
    let n = c.core_number-number.result in
    let within : n < length t.cores.items = grind (arith, common_steps, c.len.ensures, c.if-index-len.false) in
    let here = c.index_mut.result.now in
    let get = slice_get-found t.cores.items n here within c.index_mut.ensures.value in
    let fit = t.fit n here get in
    let e = c.run.ensures in
    let h = world_applies core_guests t.cores.items (world_of t) refl c.args.event
    (event.Run c.in-Run.core c.in-Run.k) n here c.run.new.core
    (guests_of t.queue.items) (guests_of c.run.new.done.items) c.run.new.port.history c.run.result c.core_number-number.ensures c.in-Run.is
    get (e.applies c.in-Run.core (guests_of t.queue.items)) in
    record {
      options = t.options;
      fit = each_set (λ k x. IsCoreOf t.config k (core_state x)) t.cores.items n c.run.new.core
          (record { number = e.number ∙ fit.number; options = e.config ∙ fit.options; none_done = e.none }) t.fit;
      owned = owned_after (world_of t) _ c.args.event c.run.result h t.owned;
      room = room_after (world_of t) _ c.args.event c.run.result _ _ _ _ h t.room refl e.room;
    }

pub returns-in-Run : goal.returns-in-Run
returns-in-Run c =
    let t = c.args.self.now in
    let n = c.core_number-number.result in
    let within : n < length t.cores.items = grind (arith, common_steps, c.len.ensures, c.if-index-len.false) in
    let here = c.index_mut.result.now in
    world_applies core_guests t.cores.items (world_of t) refl c.args.event (event.Run c.in-Run.core c.in-Run.k) n here c.run.new.core
    (guests_of t.queue.items) (guests_of c.run.new.done.items) c.run.new.port.history c.run.result c.core_number-number.ensures c.in-Run.is
    (slice_get-found t.cores.items n here within c.index_mut.ensures.value) (c.run.ensures.applies c.in-Run.core (guests_of t.queue.items))

-- ---- Next

pub invariant_of-self-in-Next : goal.invariant_of-self-in-Next
invariant_of-self-in-Next c =
    let t = c.args.self.now in
    let n = c.core_number-number.result in
    let within : n < length t.cores.items = grind (arith, common_steps, c.len.ensures, c.if-index-len.false) in
    let here = c.index_mut-in-Next.result.now in
    let get = slice_get-found t.cores.items n here within c.index_mut-in-Next.ensures.value in
    let fit = t.fit n here get in
    let e = c.next.ensures in
    let h = world_applies core_guests t.cores.items (world_of t) refl c.args.event (event.Next c.in-Next.core) n here c.next.new.core
    (guests_of t.queue.items) (guests_of t.done.items) t.port.history c.next.result c.core_number-number.ensures c.in-Next.is
    get (e.applies c.in-Next.core (guests_of t.queue.items) (guests_of t.done.items) t.port.history) in
    record {
      options = t.options;
      fit = each_set (λ k x. IsCoreOf t.config k (core_state x)) t.cores.items n c.next.new.core
          (record {
            number = e.number ∙ fit.number;
            options = e.config ∙ fit.options;
            none_done = ap (λ l. length l) e.done ∙ fit.none_done;
          }) t.fit;
      owned = owned_after (world_of t) _ c.args.event c.next.result h t.owned;
      room = room_after (world_of t) _ c.args.event c.next.result _ _ _ _ h t.room refl refl;
    }

pub returns-in-Next : goal.returns-in-Next
returns-in-Next c =
    let t = c.args.self.now in
    let n = c.core_number-number.result in
    let within : n < length t.cores.items = grind (arith, common_steps, c.len.ensures, c.if-index-len.false) in
    let here = c.index_mut-in-Next.result.now in
    world_applies core_guests t.cores.items (world_of t) refl c.args.event (event.Next c.in-Next.core) n here c.next.new.core
    (guests_of t.queue.items) (guests_of t.done.items) t.port.history c.next.result c.core_number-number.ensures c.in-Next.is
    (slice_get-found t.cores.items n here within c.index_mut-in-Next.ensures.value)
    (c.next.ensures.applies c.in-Next.core (guests_of t.queue.items) (guests_of t.done.items) t.port.history)

-- ---- Fetch

pub fetch-requires-clause-none : goal.fetch-requires-clause-none
fetch-requires-clause-none c =
    let t = c.args.self.now in
    let n = c.core_number-number.result in
    let within : n < length t.cores.items = grind (arith, common_steps, c.len.ensures, c.if-index-len.false) in
    let here = c.index_mut-in-Fetch.result.now in
    (t.fit n here (slice_get-found t.cores.items n here within c.index_mut-in-Fetch.ensures.value)).none_done

pub fetch-requires-clause-options : goal.fetch-requires-clause-options
fetch-requires-clause-options c = λ i w at.
    let t = c.args.self.now in
    let n = c.core_number-number.result in
    let within : n < length t.cores.items = grind (arith, common_steps, c.len.ensures, c.if-index-len.false) in
    let here = c.index_mut-in-Fetch.result.now in
    t.options i w at ∙ sym (t.fit n here (slice_get-found t.cores.items n here within c.index_mut-in-Fetch.ensures.value)).options

pub fetch-requires-clause-absent : goal.fetch-requires-clause-absent
fetch-requires-clause-absent c = λ w at.
    let t = c.args.self.now in
    let n = c.core_number-number.result in
    let within : n < length t.cores.items = grind (arith, common_steps, c.len.ensures, c.if-index-len.false) in
    let here = c.index_mut-in-Fetch.result.now in
    let get = slice_get-found t.cores.items n here within c.index_mut-in-Fetch.ensures.value in
    let split = front_of t.queue.items w at in
    let none = absent_there (world_of t) n (core_guests here) (guests_of split.0) (guest_of w.context) t.owned
    (ap (λ l. map (λ x. guest_of x.context) l) split.1)
    (found_core core_guests t.cores.items (world_of t) refl n here get) in
    record {
      resident = absent_in (core_state here).residents (thread_of w.context) none;
      stopped = subst (All (λ (h : Held PlainEvents). h.guest.number ≢ thread_of w.context))
          (sym (nil_from_length (core_state here).done (t.fit n here get).none_done))
          (All-nil (λ (h : Held PlainEvents). h.guest.number ≢ thread_of w.context));
    }

pub invariant_of-self-in-Fetch : goal.invariant_of-self-in-Fetch
invariant_of-self-in-Fetch c =
    let t = c.args.self.now in
    let n = c.core_number-number.result in
    let within : n < length t.cores.items = grind (arith, common_steps, c.len.ensures, c.if-index-len.false) in
    let here = c.index_mut-in-Fetch.result.now in
    let get = slice_get-found t.cores.items n here within c.index_mut-in-Fetch.ensures.value in
    let fit = t.fit n here get in
    let e = c.fetch.ensures in
    let h = world_applies core_guests t.cores.items (world_of t) refl c.args.event (event.Fetch c.in-Fetch.core) n here c.fetch.new.core
    (guests_of c.fetch.new.queue.items) (guests_of t.done.items) t.port.history c.fetch.result c.core_number-number.ensures c.in-Fetch.is
    get (e.applies c.in-Fetch.core (guests_of t.done.items) t.port.history) in
    record {
      options = λ i w at. e.options i w at ∙ fit.options;
      fit = each_set (λ k x. IsCoreOf t.config k (core_state x)) t.cores.items n c.fetch.new.core
          (record {
            number = e.number ∙ fit.number;
            options = e.config ∙ fit.options;
            none_done = ap (λ l. length l) e.done ∙ fit.none_done;
          }) t.fit;
      owned = owned_after (world_of t) _ c.args.event c.fetch.result h t.owned;
      room = room_after (world_of t) _ c.args.event c.fetch.result _ _ _ _ h t.room e.room refl;
    }

pub returns-in-Fetch : goal.returns-in-Fetch
returns-in-Fetch c =
    let t = c.args.self.now in
    let n = c.core_number-number.result in
    let within : n < length t.cores.items = grind (arith, common_steps, c.len.ensures, c.if-index-len.false) in
    let here = c.index_mut-in-Fetch.result.now in
    world_applies core_guests t.cores.items (world_of t) refl c.args.event (event.Fetch c.in-Fetch.core) n here c.fetch.new.core
    (guests_of c.fetch.new.queue.items) (guests_of t.done.items) t.port.history c.fetch.result c.core_number-number.ensures c.in-Fetch.is
    (slice_get-found t.cores.items n here within c.index_mut-in-Fetch.ensures.value)
    (c.fetch.ensures.applies c.in-Fetch.core (guests_of t.done.items) t.port.history)

-- ---- Offer

pub offer-requires-clause-options : goal.offer-requires-clause-options
offer-requires-clause-options c = λ i w at.
    let t = c.args.self.now in
    let n = c.core_number-number.result in
    let within : n < length t.cores.items = grind (arith, common_steps, c.len.ensures, c.if-index-len.false) in
    let here = c.index_mut-in-Offer.result.now in
    t.options i w at ∙ sym (t.fit n here (slice_get-found t.cores.items n here within c.index_mut-in-Offer.ensures.value)).options

pub offer-requires-clause-room : goal.offer-requires-clause-room
offer-requires-clause-room c = λ some.
    let t = c.args.self.now in
    let n = c.core_number-number.result in
    let within : n < length t.cores.items = grind (arith, common_steps, c.len.ensures, c.if-index-len.false) in
    let here = c.index_mut-in-Offer.result.now in
    let get = slice_get-found t.cores.items n here within c.index_mut-in-Offer.ensures.value in
    let count = guests-length (core_state here).residents in
    let room = room_more (world_of t) n (core_guests here) _ _ t.room
    (found_core core_guests t.cores.items (world_of t) refl n here get) (omega (arith, count, some)) in
    let queue = length-map t.queue.items (λ w. guest_of w.context) in
    omega (arith, room.0, queue)

pub invariant_of-self-in-Offer : goal.invariant_of-self-in-Offer
invariant_of-self-in-Offer c =
    let t = c.args.self.now in
    let n = c.core_number-number.result in
    let within : n < length t.cores.items = grind (arith, common_steps, c.len.ensures, c.if-index-len.false) in
    let here = c.index_mut-in-Offer.result.now in
    let get = slice_get-found t.cores.items n here within c.index_mut-in-Offer.ensures.value in
    let fit = t.fit n here get in
    let e = c.offer.ensures in
    let h = world_applies core_guests t.cores.items (world_of t) refl c.args.event (event.Offer c.in-Offer.core) n here c.offer.new.core
    (guests_of c.offer.new.queue.items) (guests_of t.done.items) t.port.history c.offer.result c.core_number-number.ensures c.in-Offer.is
    get (e.applies c.in-Offer.core (guests_of t.done.items) t.port.history) in
    record {
      options = λ i w at. e.options i w at ∙ fit.options;
      fit = each_set (λ k x. IsCoreOf t.config k (core_state x)) t.cores.items n c.offer.new.core
          (record {
            number = e.number ∙ fit.number;
            options = e.config ∙ fit.options;
            none_done = ap (λ l. length l) e.done ∙ fit.none_done;
          }) t.fit;
      owned = owned_after (world_of t) _ c.args.event c.offer.result h t.owned;
      room = room_after (world_of t) _ c.args.event c.offer.result _ _ _ _ h t.room e.room refl;
    }

pub returns-in-Offer : goal.returns-in-Offer
returns-in-Offer c =
    let t = c.args.self.now in
    let n = c.core_number-number.result in
    let within : n < length t.cores.items = grind (arith, common_steps, c.len.ensures, c.if-index-len.false) in
    let here = c.index_mut-in-Offer.result.now in
    world_applies core_guests t.cores.items (world_of t) refl c.args.event (event.Offer c.in-Offer.core) n here c.offer.new.core
    (guests_of c.offer.new.queue.items) (guests_of t.done.items) t.port.history c.offer.result c.core_number-number.ensures c.in-Offer.is
    (slice_get-found t.cores.items n here within c.index_mut-in-Offer.ensures.value)
    (c.offer.ensures.applies c.in-Offer.core (guests_of t.done.items) t.port.history)
