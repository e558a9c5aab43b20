use Rattle.std.proofs.Common.{◌≡◌, None, drop, ap, sym, ◌∙◌, subst}
use Rattle.std.proofs.lemmas.List.{take-append-drop}
use Rattle.shared_region.specs.Ports.{ReplayEvents}
use Rattle.kernel_contexts.specs.Loose.{loose_state}
use Rattle.lone_runner.specs.Ticket.{whole_journal}
use Rattle.kept_states.specs.Kept.{kept_count, kept_events}
use Rattle.sme_debugger.specs.Standing.{IsStanding}
use Rattle.sme_debugger.specs.Replayed.{recording_in}
use Rattle.sme_debugger.proofs.Standings.{few_still, ends_still, start_still, later_still, shown_still, stands_at}
use Rattle.sme_debugger.proofs.replay.Replay.begin_before.Goals as goal

pub invariant_of-self : goal.invariant_of-self
invariant_of-self c =
    let s = c.args.self.now in
    let r = recording_in s in
    let k = c.kept_before-kept.result.now in
    let on = c.kept_before-kept.ensures.on_run in
    let loose = c.in_ok-loose.loose in
    let e = c.in_ok-loose.ensures in
    let after = c.set_answered.new.self in
    let events = c.events-events.ensures in
    let same : whole_journal after ≡ whole_journal s.ticket =
    ap whole_journal c.set_answered.ensures ∙ take-append-drop c.events-events.result (whole_journal s.ticket) in
    let ahead : after.ahead ≡ drop (kept_events k) (whole_journal s.ticket) =
    ap (λ (t : ReplayEvents). t.ahead) c.set_answered.ensures ∙ ap (λ n. drop n (whole_journal s.ticket)) events in
    record {
      number = s.number;
      few = few_still s after same;
      ends = ends_still s after same;
      start_on_run = start_still s after same;
      begins = s.begins;
      later_on_run = later_still s after same;
      of_run = record {
        config_is = e.config ∙ on.config_is;
        thread_is = e.thread ∙ on.thread_is;
        number = ap (λ (t : ReplayEvents). t.thread) c.set_answered.ensures ∙ s.of_run.number;
      };
      shows = shown_still s after same c.count-shown.result loose None
          (subst (λ n. IsStanding r n loose None after) (sym c.count-shown.ensures)
          (stands_at r (kept_count k) loose (kept_events k) after (on.place (loose_state loose) e.state) e.events e.stop ahead));
    }
