use Rattle.std.proofs.Common.{◌≡◌, ◌≢◌, ◌∙◌, sym, ap, refl, None}
use Rattle.plain_lemmas.proofs.Options.{is_some-false}
use Rattle.kernel_contexts.specs.Context.{config_of, image_of, thread_of}
use Rattle.lone_runner.specs.Parting.{IsParting, parting_at}
use Rattle.lone_runner.specs.Replayed.{place_of}
use Rattle.lone_runner.specs.declared.fault.AloneFault.TheVariants.{Memory}
use Rattle.lone_runner.specs.declared.fault.AloneFault.{AloneFault}
use Rattle.lone_runner.proofs.Given.{passed_on}
use Rattle.lone_runner.proofs.Several.{held_still}
use Rattle.lone_runner.proofs.Ways.{way_parts, way_strays, some_of}
use Rattle.abi_checker.proofs.Followed.{followed_first, followed_on, somewhere_here, somewhere_next, told_on, checked_if}
use Rattle.abi_checker.proofs.AtOnce.{by_some, moved}
use Rattle.abi_checker.proofs.check.follow.Goals as goal

pub turns-init : goal.turns-init
turns-init c = record {
  followed = followed_first c.args.count c.args.context.now c.args.ticket.now c.args.watch.now c.requires.start c.requires.calls
      c.requires.returned;
  held = c.requires.start.held;
  runs = c.requires.start.runs;
  same = record { config = refl; thread = refl; image = refl };
}

pub returns-in_err-stop-clause-parts : goal.returns-in_err-stop-clause-parts
returns-in_err-stop-clause-parts c =
    let h = c.turns.invariant in
    let start = c.args.context.now in
    let fault = c.in_err-stop.field-0.0 in
    passed_on c.from_residual.result fault
    (λ (f : AloneFault). f ≢ Memory
    → IsParting (image_of start) (config_of start) (thread_of start) c.args.ticket.now.ahead c.args.count f)
    c.from_residual.ensures.1
    (λ told. way_strays _ _ _ _ _ c.turns.context c.turns.ticket h.same.config h.same.thread h.followed.way fault
    (c.in_err-stop.ensures.astray told))

pub returns-in-Some-clause-parts : goal.returns-in-Some-clause-parts
returns-in-Some-clause-parts c = λ _.
    let h = c.turns.invariant in
    way_parts _ _ _ _ _ c.turns.context c.turns.ticket h.same.config h.same.thread h.followed.way _ c.in-Some.fault
    c.in_ok-stop.ensures.turn (sym c.parting.ensures ∙ c.in-Some.is)

pub tell-requires-clause-somewhere : goal.tell-requires-clause-somewhere
tell-requires-clause-somewhere c =
    let h = c.turns.invariant in
    somewhere_here _ _ _ _ _ c.turns.context c.turns.ticket h.same.config h.same.thread c.turns.watch c.turns.found h.followed
    c.count-before.result c.count-before.ensures c.count-before.type_inv

pub answer-requires : goal.answer-requires
answer-requires c =
    let h = c.turns.invariant in
    let e = c.in_ok-stop.ensures in
    somewhere_next _ _ _ _ _ c.turns.context c.turns.ticket h.same.config h.same.thread c.turns.watch c.turns.found h.followed
    c.make_turn.new.context c.make_turn.new.ticket _ c.tell.new.self c.in_ok-found.found c.count.result e.turn c.count.ensures
    c.count.type_inv
    (told_on _ _ _ _ _ c.turns.context c.turns.ticket h.same.config h.same.thread c.turns.watch c.turns.found h.followed
    c.make_turn.new.context c.make_turn.new.ticket _ c.next_call-call.result c.call_made-past.result c.count-before.result
    c.count.result c.tell.new.self c.in_ok-found.found e.turn c.next_call-call.ensures.some c.next_call-call.ensures.none
    c.count-before.ensures c.count.ensures c.call_made-past.ensures e.same.config
    c.context_is_whole.ensures c.in_ok-found.ensures)

pub returns-then-is_some-clause-checked : goal.returns-then-is_some-clause-checked
returns-then-is_some-clause-checked c =
    let h = c.turns.invariant in
    let e = c.in_ok-stop.ensures in
    let told =
    told_on _ _ _ _ _ c.turns.context c.turns.ticket h.same.config h.same.thread c.turns.watch c.turns.found h.followed
    c.make_turn.new.context c.make_turn.new.ticket _ c.next_call-call.result c.call_made-past.result c.count-before.result
    c.count.result c.tell.new.self c.in_ok-found.found e.turn c.next_call-call.ensures.some c.next_call-call.ensures.none
    c.count-before.ensures c.count.ensures c.call_made-past.ensures e.same.config
    c.context_is_whole.ensures c.in_ok-found.ensures in
    checked_if _ _ _ _ _ c.turns.context c.turns.ticket h.same.config h.same.thread c.turns.watch c.turns.found h.followed
    c.make_turn.new.context c.make_turn.new.ticket _ c.answer.result (some_of _ (sym c.is_some.ensures ∙ c.if-is_some.true)) e.turn
    (sym c.parting.ensures ∙ c.in-None.is) c.contexts_are_plain.ensures (c.answer.ensures _ _ told)

pub go_far-requires-clause-some : goal.go_far-requires-clause-some
go_far-requires-clause-some c =
    let h = c.turns.invariant in
    let e = c.in_ok-stop.ensures in
    let mid = c.make_turn.new.context in
    let ticket = c.make_turn.new.ticket in
    let none = is_some-false _ (sym c.is_some.ensures ∙ c.if-is_some.false) in
    let told =
    told_on _ _ _ _ _ c.turns.context c.turns.ticket h.same.config h.same.thread c.turns.watch c.turns.found h.followed mid ticket _
    c.next_call-call.result c.call_made-past.result c.count-before.result c.count.result c.tell.new.self c.in_ok-found.found e.turn
    c.next_call-call.ensures.some c.next_call-call.ensures.none c.count-before.ensures c.count.ensures c.call_made-past.ensures
    e.same.config
    c.context_is_whole.ensures c.in_ok-found.ensures in
    let on : parting_at c.args.count (place_of mid ticket None) ≡ None =
    ap (λ o. parting_at c.args.count (place_of mid ticket o)) (sym none) ∙ sym c.parting.ensures ∙ c.in-None.is in
    by_some _ _ _ _ _ mid ticket c.tell.new.self c.in_ok-found.found (e.same.image ∙ h.same.image) (e.same.config ∙ h.same.config)
    (e.same.thread ∙ h.same.thread)
    (followed_on _ _ _ _ _ c.turns.context c.turns.ticket h.same.config h.same.thread c.turns.watch c.turns.found h.followed mid ticket
    c.tell.new.self c.in_ok-found.found (e.turn ∙ ap (place_of mid ticket) none) e.journal on c.contexts_are_plain.ensures told)

pub turns-preserved : goal.turns-preserved
turns-preserved c =
    let h = c.turns.invariant in
    let e = c.in_ok-stop.ensures in
    let far = c.go_far.ensures.goes in
    let start = c.args.context.now in
    let journal = c.args.ticket.now.ahead in
    let mid = c.make_turn.new.context in
    let ticket = c.make_turn.new.ticket in
    let new = c.go_far.new.context in
    let none = is_some-false _ (sym c.is_some.ensures ∙ c.if-is_some.false) in
    let told =
    told_on _ _ _ _ _ c.turns.context c.turns.ticket h.same.config h.same.thread c.turns.watch c.turns.found h.followed mid ticket _
    c.next_call-call.result c.call_made-past.result c.count-before.result c.count.result c.tell.new.self c.in_ok-found.found e.turn
    c.next_call-call.ensures.some c.next_call-call.ensures.none c.count-before.ensures c.count.ensures c.call_made-past.ensures
    e.same.config
    c.context_is_whole.ensures c.in_ok-found.ensures in
    let on : parting_at c.args.count (place_of mid ticket None) ≡ None =
    ap (λ o. parting_at c.args.count (place_of mid ticket o)) (sym none) ∙ sym c.parting.ensures ∙ c.in-None.is in
    let image = e.same.image ∙ h.same.image in
    let config = e.same.config ∙ h.same.config in
    let thread = e.same.thread ∙ h.same.thread in
    let followed =
    followed_on _ _ _ _ _ c.turns.context c.turns.ticket h.same.config h.same.thread c.turns.watch c.turns.found h.followed mid ticket
    c.tell.new.self c.in_ok-found.found (e.turn ∙ ap (place_of mid ticket) none) e.journal on c.contexts_are_plain.ensures told in
    record {
      followed = moved (image_of mid) (image_of start) (config_of mid) (config_of start) (thread_of mid) (thread_of start) image config
          thread journal c.args.count new ticket c.go_far.new.watch c.in_ok-found-2.found
          (c.in_ok-found-2.ensures.followed journal ticket
          (moved (image_of start) (image_of mid) (config_of start) (config_of mid) (thread_of start) (thread_of mid) (sym image)
          (sym config) (sym thread) journal c.args.count mid ticket c.tell.new.self c.in_ok-found.found followed));
      held = held_still mid new ticket e.ticket far.home far.same.thread far.journal;
      runs = far.stop;
      same = record {
        config = far.same.config ∙ config;
        thread = far.same.thread ∙ thread;
        image = far.same.image ∙ image;
      };
    }
