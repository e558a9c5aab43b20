use Rattle.std.proofs.Common.{ap, sym, ◌∙◌}
use Rattle.kernel_contexts.specs.Run.{At, Ended, after_turn}
use Rattle.kernel_contexts.specs.Loose.{loose_state, loose_thread, loose_events, loose_turn, loose_made}
use Rattle.lone_runner.specs.declared.fault.AloneFault.TheVariants.{JournalDiffers}
use Rattle.lone_runner.proofs.Replays.{made_ahead, events_next, none_used, strays_astray, told_differs}
use Rattle.lone_runner.proofs.Resumes.{loose_turned_over, whole_stays}
use Rattle.lone_runner.proofs.resume.make_turn.Goals as goal

pub returns-in-Ran-clause-turn : goal.returns-in-Ran-clause-turn
returns-in-Ran-clause-turn c =
    let e = c.in-Ran.ensures in
    let old = c.args.loose.now in
    let new = c.advance.new.self in
    let turn = loose_turned_over _ _ old new _ c.requires.runs e.turn in
    let ahead = c.journal_stays.ensures.ahead _ _ _ _ _ e.gives.chain in
    events_next (loose_state old) (loose_state new) (loose_events old) (loose_events new) c.args.ticket.now.ahead c.advance.new.ticket.ahead
    _
    (loose_turn old) (loose_made old new) turn.0 e.grows (made_ahead (loose_thread old) (loose_made old new) _ _ ahead)

pub returns-in-Yielded-clause-turn : goal.returns-in-Yielded-clause-turn
returns-in-Yielded-clause-turn c =
    let e = c.in-Yielded.ensures in
    let old = c.args.loose.now in
    let new = c.advance.new.self in
    let turn = loose_turned_over _ _ old new _ c.requires.runs e.turn in
    let ahead = c.journal_stays.ensures.ahead _ _ _ _ _ e.gives.chain in
    let same = none_used (loose_events old) (loose_events new) c.args.ticket.now.ahead c.advance.new.ticket.ahead (loose_made old new)
    e.grows
    (made_ahead (loose_thread old) (loose_made old new) _ _ ahead) turn.1 in
    ap (after_turn (loose_state old) (loose_events old) c.args.ticket.now.ahead) turn.0
    ∙ (λ i. At (loose_state new) (same.0 i) (same.1 i))

pub returns-in-Stopped-clause-turn : goal.returns-in-Stopped-clause-turn
returns-in-Stopped-clause-turn c =
    let e = c.in-Stopped.ensures in
    let old = c.args.loose.now in
    let new = c.advance.new.self in
    let turn = loose_turned_over _ _ old new _ c.requires.runs e.turn in
    let ahead = c.journal_stays.ensures.ahead _ _ _ _ _ e.gives.chain in
    let same = none_used (loose_events old) (loose_events new) c.args.ticket.now.ahead c.advance.new.ticket.ahead (loose_made old new)
    e.grows
    (made_ahead (loose_thread old) (loose_made old new) _ _ ahead) turn.1 in
    ap (after_turn (loose_state old) (loose_events old) c.args.ticket.now.ahead) turn.0
    ∙ (λ i. Ended (loose_state new) c.in-Stopped.stop (same.0 i) (same.1 i))

pub returns-in-TraceDiffers-clause-astray : goal.returns-in-TraceDiffers-clause-astray
returns-in-TraceDiffers-clause-astray c = λ _.
    let e = c.in-TraceDiffers.ensures in
    let old = c.args.loose.now in
    let new = c.advance.new.self in
    let turn = loose_turned_over _ _ old new _ c.requires.runs e.turn in
    let ahead = c.journal_stays.ensures.ahead _ _ _ _ _ e.gives.chain in
    let same = none_used (loose_events old) (loose_events new) c.args.ticket.now.ahead c.advance.new.ticket.ahead (loose_made old new)
    e.grows
    (made_ahead (loose_thread old) (loose_made old new) _ _ ahead) turn.2 in
    record {
      strays = strays_astray c.args.ticket.now (loose_state old) (loose_events old) (loose_turn old) turn.0;
      told =
          ap JournalDiffers (c.events.ensures.value ∙ sym same.0)
          ∙ told_differs c.args.ticket.now (loose_state old) (loose_events old) (loose_turn old) turn.0;
    }

pub returns-in-Ran-clause-whole : goal.returns-in-Ran-clause-whole
returns-in-Ran-clause-whole c =
    let chain = c.in-Ran.ensures.gives.chain in
    whole_stays _ c.args.ticket.now c.advance.new.ticket (c.journal_stays.ensures.ahead _ _ _ _ _ chain)
    (c.journal_stays.ensures.answered _ _ _ _ _ chain)

pub returns-in-Yielded-clause-whole : goal.returns-in-Yielded-clause-whole
returns-in-Yielded-clause-whole c =
    let chain = c.in-Yielded.ensures.gives.chain in
    whole_stays _ c.args.ticket.now c.advance.new.ticket (c.journal_stays.ensures.ahead _ _ _ _ _ chain)
    (c.journal_stays.ensures.answered _ _ _ _ _ chain)

pub returns-in-Stopped-clause-whole : goal.returns-in-Stopped-clause-whole
returns-in-Stopped-clause-whole c =
    let chain = c.in-Stopped.ensures.gives.chain in
    whole_stays _ c.args.ticket.now c.advance.new.ticket (c.journal_stays.ensures.ahead _ _ _ _ _ chain)
    (c.journal_stays.ensures.answered _ _ _ _ _ chain)

pub returns-in-TraceEnds-clause-whole : goal.returns-in-TraceEnds-clause-whole
returns-in-TraceEnds-clause-whole c =
    let chain = c.in-TraceEnds.ensures.gives.chain in
    whole_stays _ c.args.ticket.now c.advance.new.ticket (c.journal_stays.ensures.ahead _ _ _ _ _ chain)
    (c.journal_stays.ensures.answered _ _ _ _ _ chain)

pub returns-in-TraceDiffers-clause-whole : goal.returns-in-TraceDiffers-clause-whole
returns-in-TraceDiffers-clause-whole c =
    let chain = c.in-TraceDiffers.ensures.gives.chain in
    whole_stays _ c.args.ticket.now c.advance.new.ticket (c.journal_stays.ensures.ahead _ _ _ _ _ chain)
    (c.journal_stays.ensures.answered _ _ _ _ _ chain)

pub returns-in-Memory-clause-whole : goal.returns-in-Memory-clause-whole
returns-in-Memory-clause-whole c =
    let chain = c.in-Memory.ensures.gives.chain in
    whole_stays _ c.args.ticket.now c.advance.new.ticket (c.journal_stays.ensures.ahead _ _ _ _ _ chain)
    (c.journal_stays.ensures.answered _ _ _ _ _ chain)
