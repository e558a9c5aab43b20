use Rattle.std.proofs.Common.{Some, sym, ap, ◌∙◌, true≢false}
use Rattle.shared_region.specs.Ports.{no_table, ReplayEvents}
use Rattle.shared_region.proofs.Journals.{is_next, is_at_end, goes_on, gives_next}
use Rattle.lone_runner.proofs.ticket.JournalPortPort.access.Goals as goal

pub returns-in_default-clause-cause : goal.returns-in_default-clause-cause
returns-in_default-clause-cause c = is_at_end _ _ _ _ _ _ c.ticket.view_is c.as_slice.ensures.value c.event_at.ensures c.in_default.is

pub returns-then-not-is_same-clause-cause : goal.returns-then-not-is_same-clause-cause
returns-then-not-is_same-clause-cause c =
    let h = is_next _ _ _ _ _ _ _ c.ticket.view_is c.as_slice.ensures.value c.event_at.ensures c.in-Some.is in
    record {
      next = c.in-Some.next;
      others = _;
      ahead = h.ahead;
      differs = λ same. true≢false (sym (c.is_same.ensures.1 same) ∙ c.if-not-is_same.true);
    }

pub invariant_of-ticket : goal.invariant_of-ticket
invariant_of-ticket c =
    (is_next _ _ _ _ _ _ _ c.ticket.view_is c.as_slice.ensures.value c.event_at.ensures c.in-Some.is).inside

pub returns-clause-events : goal.returns-clause-events
returns-clause-events c =
    let h = is_next _ _ _ _ _ _ _ c.ticket.view_is c.as_slice.ensures.value c.event_at.ensures c.in-Some.is in
    let answered = (gives_next _ c.args.thread c.args.thread _ _ _ _ h (c.is_same.ensures.0 c.if-not-is_same.false)).answered in
    let thread = ap (λ (t : ReplayEvents). t.thread) c.ticket.view_is in
    λ i. record { number = Some (thread i); events = answered i; name = no_table }

pub returns-clause-gives : goal.returns-clause-gives
returns-clause-gives c =
    let h = is_next _ _ _ _ _ _ _ c.ticket.view_is c.as_slice.ensures.value c.event_at.ensures c.in-Some.is in
    gives_next _ _ _ _ _ _ _ h (c.is_same.ensures.0 c.if-not-is_same.false)

pub returns-clause-goes : goal.returns-clause-goes
returns-clause-goes c =
    let h = is_next _ _ _ _ _ _ _ c.ticket.view_is c.as_slice.ensures.value c.event_at.ensures c.in-Some.is in
    goes_on _ _ _ _ _ h (c.is_same.ensures.0 c.if-not-is_same.false)
