use Rattle.std.proofs.Common.{◌≡◌, ◌∙◌, sym, arith, None}
use Rattle.plain_lemmas.proofs.Options.{is_some-false}
use Rattle.sme_debugger.specs.Replayed.{recording_in}
use Rattle.sme_debugger.proofs.Ahead.{shows_ahead, none_ahead, stands_ahead, none_yet}
use Rattle.sme_debugger.proofs.replay.Replay.run_towards.Goals as goal

pub advance_several-made-requires : goal.advance_several-made-requires
advance_several-made-requires c =
    let s = c.args.self.now in
    let none = is_some-false s.stop (sym c.is_some.ensures ∙ c.if-is_some.false) in
    (s.shows c.args.count c.requires.place).stop_is ∙ none

pub invariant_of-self : goal.invariant_of-self
invariant_of-self c =
    let s = c.args.self.now in
    let e = c.advance_several-made.ensures in
    let none = is_some-false s.stop (sym c.is_some.ensures ∙ c.if-is_some.false) in
    record {
      number = s.number;
      few = s.few;
      ends = s.ends;
      start_on_run = s.start_on_run;
      begins = s.begins;
      later_on_run = s.later_on_run;
      of_run = record {
        config_is = e.same.config ∙ s.of_run.config_is;
        thread_is = e.same.thread ∙ s.of_run.thread_is;
        number = s.of_run.number;
      };
      shows = stands_ahead s c.args.count c.args.address _ c.advance_several-made.new.self c.advance_several-made.result
          c.requires.place none e;
    }

pub returns-clause-none : goal.returns-clause-none
returns-clause-none c =
    let s = c.args.self.now in
    let none = is_some-false s.stop (sym c.is_some.ensures ∙ c.if-is_some.false) in
    none_ahead s c.args.count c.args.address _ c.advance_several-made.new.self c.advance_several-made.result c.requires.place none
    c.advance_several-made.ensures

pub returns-clause-shown : goal.returns-clause-shown
returns-clause-shown c =
    let s = c.args.self.now in
    let none = is_some-false s.stop (sym c.is_some.ensures ∙ c.if-is_some.false) in
    shows_ahead s c.args.count c.args.address _ c.advance_several-made.new.self c.advance_several-made.result c.requires.place none
    c.advance_several-made.ensures

pub returns-then-is_some-clause-none : goal.returns-then-is_some-clause-none
returns-then-is_some-clause-none c = none_yet (recording_in c.args.self.now) c.args.count c.args.address

pub returns-then-is_some-clause-shown : goal.returns-then-is_some-clause-shown
returns-then-is_some-clause-shown c = (c.args.self.now.shows c.args.count c.requires.place).shows
