use Rattle.std.proofs.Common.{◌≡◌, ◌<◌, ◌∷◌, length, map, ap, sym, ◌∙◌, arith}
use Rattle.std.specs.Prelude.{remove}
use Rattle.std.proofs.lemmas.Grind.{common_steps}
use Rattle.std.proofs.lemmas.List.{nil_from_length}
use Rattle.shared_region.specs.Ports.{PlainEvents}
use Rattle.kernel_contexts.specs.Context.{config_of}
use Rattle.core_unit.specs.CoreState.{CoreState}
use Rattle.kernel_contexts.specs.Guest.{guest_of}
use Rattle.core_unit.specs.View.{core_state, held_by}
use Rattle.core_unit.proofs.Cores.{cons_of, first_of, each_rest}
use Rattle.world_core.specs.Parts.{guests_of}
use Rattle.world_core.proofs.Scenes.{fetch_full, fetch_none, fetch_so}
use Rattle.world_core.proofs.scene.fetch.Goals as goal

pub returns-then-residents-ge-PLACES-clause-applies : goal.returns-then-residents-ge-PLACES-clause-applies
returns-then-residents-ge-PLACES-clause-applies c = λ n done history.
    let old = core_state c.args.core.now in
    rw c.residents-residents.ensures (fetch_full old old (guests_of c.args.queue.now.items) done history n
    (omega (arith, c.residents-residents.ensures, c.if-residents-ge-PLACES.true)))

pub returns-then-is_empty-clause-applies : goal.returns-then-is_empty-clause-applies
returns-then-is_empty-clause-applies c = λ n done history.
    let old = core_state c.args.core.now in
    let none : length c.args.queue.now.items ≡ 0 = grind (arith, common_steps, c.is_empty.ensures, c.if-is_empty.true) in
    fetch_none old old (guests_of c.args.queue.now.items) done history n
    (omega (arith, c.residents-residents.ensures, c.if-residents-ge-PLACES.false))
    (ap (λ l. map (λ w. guest_of w.context) l) (nil_from_length c.args.queue.now.items none))

pub admit-requires : goal.admit-requires
admit-requires c =
    let some : 0 < length c.args.queue.now.items = grind (arith, common_steps, c.is_empty.ensures, c.if-is_empty.false) in
    let front = c.remove-front.result in
    let split = cons_of c.args.queue.now.items front some c.remove-front.ensures.value in
    let get = first_of c.args.queue.now.items split.0 front split.1 in
    record { config = c.requires.options 0 front get; absent = c.requires.absent front get }

pub unreachable-requires : goal.unreachable-requires
unreachable-requires c =
    omega (arith, c.in-Err.ensures.full, c.requires.none, c.residents-residents.ensures, c.if-residents-ge-PLACES.false)

pub returns-clause-applies : goal.returns-clause-applies
returns-clause-applies c = λ n done history.
    let some : 0 < length c.args.queue.now.items = grind (arith, common_steps, c.is_empty.ensures, c.if-is_empty.false) in
    let front = c.remove-front.result in
    let split = cons_of c.args.queue.now.items front some c.remove-front.ensures.value in
    let rest = c.remove-front.ensures.items ∙ ap (λ l. remove l 0) split.1 in
    fetch_so (core_state c.args.core.now) (core_state c.admit.new.self) (guests_of c.args.queue.now.items) done history n
    (guests_of c.remove-front.new.self.items) (held_by front)
    (omega (arith, c.residents-residents.ensures, c.if-residents-ge-PLACES.false))
    (ap (λ l. map (λ w. guest_of w.context) l) split.1
    ∙ ap (λ l. guest_of front.context ∷ map (λ w. guest_of w.context) l) (sym rest))
    c.in-Ok.ensures.admitted

pub returns-clause-done : goal.returns-clause-done
returns-clause-done c = ap (λ (s : CoreState PlainEvents). s.done) c.in-Ok.ensures.admitted

pub returns-clause-number : goal.returns-clause-number
returns-clause-number c = ap (λ (s : CoreState PlainEvents). s.number) c.in-Ok.ensures.admitted

pub returns-clause-config : goal.returns-clause-config
returns-clause-config c = ap (λ (s : CoreState PlainEvents). s.config) c.in-Ok.ensures.admitted

pub returns-clause-options : goal.returns-clause-options
returns-clause-options c =
    let some : 0 < length c.args.queue.now.items = grind (arith, common_steps, c.is_empty.ensures, c.if-is_empty.false) in
    let front = c.remove-front.result in
    let split = cons_of c.args.queue.now.items front some c.remove-front.ensures.value in
    each_rest (λ w. config_of w.context ≡ (core_state c.args.core.now).config) c.args.queue.now.items _ split.0 front split.1
    (c.remove-front.ensures.items ∙ ap (λ l. remove l 0) split.1) c.requires.options
