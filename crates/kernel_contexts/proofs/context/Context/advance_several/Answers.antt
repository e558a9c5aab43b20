use Rattle.std.proofs.Common.{◌∙◌, refl, false, ap, length}
use Rattle.kernel_contexts.specs.Context.{held_state}
use Rattle.kernel_contexts.proofs.FromStart.{several_from_start, still_from_start}
use Rattle.kernel_contexts.proofs.Kept.{run_same}
use Rattle.kernel_contexts.proofs.Several.{run_goes_by}
use Rattle.kernel_contexts.proofs.context.Context.advance_several.Goals as goal

pub returns : goal.returns
returns g c =
    let before = c.args.self.now in
    let halts = g.H.Halts.halts c.args.halts.now in
    let e = c.make_several_turns.ensures in
    record {
      turns = several_from_start before.guest before.from_start halts false c.make_several_turns.result.count
          (held_state before.guest before.save_area) (held_state c.make_several_turns.new.self c.make_several_turns.new.bank) e.turns;
      few = e.few;
      halted = e.halted;
      owned = e.owned;
      count = e.count;
      made = e.made;
      stop = e.stop ∙ c.requires.runs;
      journal = e.same.journal;
      events = ap length e.same.journal;
      same = record { config = e.same.config; thread = e.same.number; image = refl };
      home = c.requires.home;
    }

pub invariant_of-self : goal.invariant_of-self
invariant_of-self g c =
    let before = c.args.self.now in
    let halts = g.H.Halts.halts c.args.halts.now in
    let old = before.guest in
    let new = c.make_several_turns.new.self in
    let bank = c.make_several_turns.new.bank in
    let e = c.make_several_turns.ensures in
    record {
      fits = record {
        lengths = e.back.fit.lengths;
        mode = λ home. e.back.fit.mode;
        owner = e.back.same.owner ∙ before.fits.owner;
      };
      from_start = still_from_start old new before.from_start e.same.earlier e.same.begun;
      is_run = λ home. run_same before.image old.config new.config old.number new.number old.journal.items new.journal.items
          (held_state new bank) (held_state new bank) old.stop new.stop e.same.config e.same.number e.same.journal refl e.stop
          (run_goes_by halts false before.image old.config old.number (held_state old before.save_area) (held_state new bank) old.journal.items
          old.stop c.make_several_turns.result.count c.requires.runs (before.is_run home)
          (several_from_start old before.from_start halts false c.make_several_turns.result.count (held_state old before.save_area)
          (held_state new bank) e.turns));
    }
