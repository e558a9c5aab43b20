use Rattle.std.proofs.Common.{◌∙◌}
use Rattle.sme_debugger.proofs.Standings.{few_still, ends_still, start_still, later_still, shown_still, none_shown, to_resume, comes_to}
use Rattle.sme_debugger.proofs.Standings.{never_parts}
use Rattle.sme_debugger.proofs.Standings.{rerecorded}
use Rattle.sme_debugger.proofs.replay.Replay.go_on.Goals as goal

pub resume_to-requires : goal.resume_to-requires
resume_to-requires c = to_resume c.args.self.now c.args.count c.requires.way (c.shows.ensures.apart c.if-shows.false)

pub invariant_of-self : goal.invariant_of-self
invariant_of-self c =
    let s = c.args.self.now in
    let e = c.in-Ok.ensures in
    let after = c.resume_to.new.ticket in
    record {
      number = s.number;
      few = few_still s after e.whole;
      ends = ends_still s after e.whole;
      start_on_run = start_still s after e.whole;
      begins = s.begins;
      later_on_run = later_still s after e.whole;
      of_run = record {
        config_is = e.same.config ∙ s.of_run.config_is;
        thread_is = e.same.thread ∙ s.of_run.thread_is;
        number = e.ticket.number ∙ e.same.thread ∙ s.of_run.thread_is;
      };
      shows = shown_still s after e.whole c.args.count c.resume_to.new.loose c.in-Ok.stop
          (comes_to s c.args.count c.requires.way (c.shows.ensures.apart c.if-shows.false) c.resume_to.new.loose c.in-Ok.stop after
          e.reached e.stop);
    }

pub invariant_of-self-in-Err-1 : goal.invariant_of-self-in-Err-1
invariant_of-self-in-Err-1 c =
    let s = c.args.self.now in
    let e = c.resume_to.ensures in
    let after = c.resume_to.new.ticket in
    record {
      number = s.number;
      few = few_still s after e.whole;
      ends = ends_still s after e.whole;
      start_on_run = start_still s after e.whole;
      begins = s.begins;
      later_on_run = later_still s after e.whole;
      of_run = record {
        config_is = e.same.config ∙ s.of_run.config_is;
        thread_is = e.same.thread ∙ s.of_run.thread_is;
        number = e.ticket.number ∙ e.same.thread ∙ s.of_run.thread_is;
      };
      shows = none_shown (rerecorded s after e.whole) c.resume_to.new.loose s.stop after;
    }

pub unreachable-requires : goal.unreachable-requires
unreachable-requires c =
    never_parts c.args.self.now c.args.count c.requires.way (c.shows.ensures.apart c.if-shows.false) c.in-Err.fault c.requires.last
    (c.in-Err.ensures.parts c.in_default.not-Memory)
