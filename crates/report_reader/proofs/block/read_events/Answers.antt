use Rattle.std.proofs.Common.{◌≡◌, ℕ, Option, ◌+◌, ◌-◌, rules, sym, ap, ◌∙◌, arith, subst, List}
use Rattle.line_reader.specs.Reading.{Left, each, next_line}
use Rattle.report_reader.specs.Reading.{IsFault, line, taken}
use Rattle.sm_types.specs.declared.shared_op.Event.{Event}
use Rattle.report_reader.specs.Block.{events}
use Rattle.report_reader.specs.Events.{event_line}
use Rattle.line_reader.specs.Told.{left_of}
use Rattle.report_reader.specs.declared.fault.ReportKind.TheVariants.{Journal}
use Rattle.report_reader.proofs.Readings.{onto, each-more, each-end, fault_of_each}
use Rattle.report_reader.proofs.block.read_events.Goals as goal

-- what the next line says
said_is : (left : Left) (text : List ℕ) (said : Option Event) → text ≡ next_line left → said ≡ event_line text
    → event_line (next_line left) ≡ said
said_is left text said first tells = ap event_line (sym first) ∙ sym tells

pub returns-in_err-event-clause-read : goal.returns-in_err-event-clause-read
unfolding events
returns-in_err-event-clause-read c =
    let left = left_of c.loop-k.lines in
    let it = c.in_err-event.field-0.0 in
    let same = said_is left c.line.result.now c.event_line-event.result c.line.ensures c.event_line-event.ensures in
    let here : IsFault (taken Journal (event_line (next_line left)) left) it =
    subst (λ o. IsFault (taken Journal o left) it) (sym same) c.in_err-event.ensures in
    let bad : IsFault (each (λ k. line Journal event_line) c.args.count 0 (left_of c.args.lines.now)) it =
    subst (λ r. IsFault r it) c.loop-k.invariant.read
    (fault_of_each (λ k. line Journal event_line) c.args.count c.loop-k._k left c.loop-k.events.items it c.loop-k-test.true here) in
    search rules

pub loop-k-preserved : goal.loop-k-preserved
loop-k-preserved c =
    let reads = λ (k : ℕ). line Journal event_line in
    let left = left_of c.loop-k.lines in
    let same = said_is left c.line.result.now c.event_line-event.result c.line.ensures c.event_line-event.ensures in
    record {
      read =
          ap (λ items. onto items (each reads (c.args.count - (c.loop-k._k + 1)) (c.loop-k._k + 1) (left_of c.take.new.lines)))
          c.in_ok-push.ensures.items
          ∙ sym (each-more reads c.args.count c.loop-k._k left (left_of c.take.new.lines) c.loop-k.events.items c.in_ok-event.event
          c.loop-k-test.true (ap (λ o. taken Journal o left) same ∙ c.in_ok-event.ensures))
          ∙ c.loop-k.invariant.read;
      few = omega (arith, c.in_ok-push.ensures.len, c.loop-k.invariant.few);
    }

pub returns-clause-read : goal.returns-clause-read
unfolding events
returns-clause-read c =
    sym c.loop-k.invariant.read
    ∙ each-end (λ k. line Journal event_line) c.args.count c.loop-k._k (left_of c.loop-k.lines) c.loop-k.events.items c.loop-k-test.false
