use Rattle.std.proofs.Common.{◌<◌, ◌∷◌, [], length, map, refl, ap, sym, ◌∙◌, arith}
use Rattle.std.proofs.lemmas.List.{map-append, nil_from_length}
use Rattle.shared_region.specs.History.{entries_of}
use Rattle.kernel_contexts.specs.Guest.{guest_of}
use Rattle.core_unit.specs.View.{core_state, held_by}
use Rattle.world_core.specs.Parts.{guests_of, scene_with}
use Rattle.sm_types.specs.declared.world_event.WorldEvent.TheVariants as event
use Rattle.world_core.specs.declared.event.Applied.TheVariants as applied
use Rattle.shared_region.specs.Ports.{PlainEvents}
use Rattle.core_unit.specs.CoreState.{CoreState}
use Rattle.world_core.proofs.Plains.{core_applies, done_few, run_none, taken_so, none_taken, only_one, run_config, run_number}
use Rattle.world_core.proofs.scene.run.Goals as goal

pub returns-then-residents-eq0-clause-applies : goal.returns-then-residents-eq0-clause-applies
returns-then-residents-eq0-clause-applies c = λ n queue.
    run_none (core_state c.args.core.now) queue (guests_of c.args.done.now.items) c.args.port.now.history n c.args.k
    (nil_from_length (core_state c.args.core.now).residents (omega (arith, c.residents.ensures, c.if-residents-eq0.true)))

pub run-run-requires : goal.run-run-requires
run-run-requires c = record { belong = record { resident = λ k d l. refl; stopped = λ k d l. refl } }

pub returns-in-None-clause-applies : goal.returns-in-None-clause-applies
returns-in-None-clause-applies c = λ n queue.
    let base = guests_of c.args.done.now.items in
    let old = core_state c.args.core.now in
    let mid = core_state c.run-run.new.self in
    let some : 0 < length old.residents = omega (arith, c.residents.ensures, c.if-residents-eq0.false) in
    none_taken queue base base c.run-run.new.port.history mid (core_state c.take_done.new.self) (event.Run n c.args.k)
    (scene_with old queue base c.args.port.now.history) (applied.Ran c.run-run.result)
    (core_applies queue base c.args.port.now.history c.run-run.new.port.history _ c.args.k old mid c.run-run.result
    (nil_from_length old.done c.requires.none)
    (λ thread events t u given. c.plain_history_grows.ensures.history _ _ t u (entries_of thread events) given.chain)
    c.history-history.ensures.plain.legal n some c.run-run.ensures.run)
    (c.in-None.ensures.none refl) (c.in-None.ensures.unchanged refl) refl

pub returns-in-Some-clause-applies : goal.returns-in-Some-clause-applies
returns-in-Some-clause-applies c = λ n queue.
    let base = guests_of c.args.done.now.items in
    let old = core_state c.args.core.now in
    let mid = core_state c.run-run.new.self in
    let some : 0 < length old.residents = omega (arith, c.residents.ensures, c.if-residents-eq0.false) in
    taken_so queue base (guests_of c.push_reserved.new.self.items) c.run-run.new.port.history mid (core_state c.take_done.new.self)
    (event.Run n c.args.k) (scene_with old queue base c.args.port.now.history) (applied.Ran c.run-run.result)
    (core_applies queue base c.args.port.now.history c.run-run.new.port.history _ c.args.k old mid c.run-run.result
    (nil_from_length old.done c.requires.none)
    (λ thread events t u given. c.plain_history_grows.ensures.history _ _ t u (entries_of thread events) given.chain)
    c.history-history.ensures.plain.legal n some c.run-run.ensures.run)
    (held_by c.in-Some.stopped)
    (done_few queue base c.args.port.now.history c.run-run.new.port.history _ c.args.k old mid c.run-run.result
    (nil_from_length old.done c.requires.none)
    (λ thread events t u given. c.plain_history_grows.ensures.history _ _ t u (entries_of thread events) given.chain)
    c.history-history.ensures.plain.legal some c.run-run.ensures.run)
    c.in-Some.ensures.taken
    (ap (λ l. map (λ w. guest_of w.context) l) c.push_reserved.ensures.items
    ∙ map-append (λ w. guest_of w.context) c.args.done.now.items (c.in-Some.stopped ∷ []))

pub returns-in-Some-clause-none : goal.returns-in-Some-clause-none
returns-in-Some-clause-none c =
    let base = guests_of c.args.done.now.items in
    let old = core_state c.args.core.now in
    let mid = core_state c.run-run.new.self in
    let some : 0 < length old.residents = omega (arith, c.residents.ensures, c.if-residents-eq0.false) in
    let few = done_few [] base c.args.port.now.history c.run-run.new.port.history _ c.args.k old mid c.run-run.result
    (nil_from_length old.done c.requires.none)
    (λ thread events t u given. c.plain_history_grows.ensures.history _ _ t u (entries_of thread events) given.chain)
    c.history-history.ensures.plain.legal some c.run-run.ensures.run in
    ap (λ l. length l) (only_one mid.done (core_state c.take_done.new.self).done (held_by c.in-Some.stopped) few
    (ap (λ (s : CoreState PlainEvents). s.done) c.in-Some.ensures.taken))

pub returns-in-Some-clause-number : goal.returns-in-Some-clause-number
returns-in-Some-clause-number c =
    let old = core_state c.args.core.now in
    let mid = core_state c.run-run.new.self in
    sym (ap (λ (s : CoreState PlainEvents). s.number) c.in-Some.ensures.taken)
    ∙ run_number _ _ c.args.k old mid c.run-run.result c.run-run.ensures.run

pub returns-in-Some-clause-config : goal.returns-in-Some-clause-config
returns-in-Some-clause-config c =
    let old = core_state c.args.core.now in
    let mid = core_state c.run-run.new.self in
    sym (ap (λ (s : CoreState PlainEvents). s.config) c.in-Some.ensures.taken)
    ∙ run_config _ _ c.args.k old mid c.run-run.result c.run-run.ensures.run
