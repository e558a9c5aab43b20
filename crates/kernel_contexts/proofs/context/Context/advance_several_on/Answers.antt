use Rattle.std.proofs.Common.{◌≡◌, ℕ, true, false, length, refl, ap, sym, ◌∙◌, rules}
use Rattle.std.specs.Prelude.{Option, not}
use Rattle.kernel_contexts.specs.Owner.{owns, is_owner}
use Rattle.kernel_contexts.specs.Context.{held_state}
use Rattle.kernel_contexts.proofs.FromStart.{several_from_start, still_from_start}
use Rattle.kernel_contexts.proofs.Kept.{run_same}
use Rattle.kernel_contexts.proofs.Several.{run_goes_by, owned_on}
use Rattle.kernel_contexts.proofs.context.Context.advance_several_on.Goals as goal

pub returns-then-is_owned : goal.returns-then-is_owned
returns-then-is_owned g c =
    let before = c.args.self.now in
    let halts = g.H.Halts.halts c.args.halts.now in
    let old = before.guest in
    let bank = c.args.bank.now in
    let new = c.make_several_turns.new.self in
    let after = c.make_several_turns.new.bank in
    let e = c.make_several_turns.ensures in
    let here : owns bank old.number ≡ true = sym c.is_owned.ensures ∙ c.if-is_owned.true in
    let there = owned_on bank after old.number new.number true e.back.same.owner e.same.number here in
    let so = several_from_start old before.from_start halts false c.make_several_turns.result.count (held_state old bank) (held_state new after)
    e.turns in
    record {
      turns = rw (here, there) so;
      few = e.few;
      halted = e.halted;
      owned = e.owned;
      count = e.count;
      made = e.made;
      stop = e.stop ∙ c.requires.runs;
      journal = e.same.journal;
      events = ap length e.same.journal;
      same = record { config = e.same.config; thread = e.same.number; image = refl };
      home = record {
        on = record {
          lengths = e.back.fit.lengths;
          place = c.requires.on.place
              ∙ ap (λ (o : Option ℕ). not (is_owner o old.number)) (sym e.back.same.owner)
              ∙ ap (λ (n : ℕ). not (owns after n)) (sym e.same.number);
          fit = λ _. e.back.fit;
          run = λ _. run_same before.image old.config new.config old.number new.number old.journal.items new.journal.items
              (held_state new after) (held_state new after) old.stop new.stop e.same.config e.same.number e.same.journal refl e.stop
              (run_goes_by halts false before.image old.config old.number (held_state old bank) (held_state new after) old.journal.items old.stop
              c.make_several_turns.result.count c.requires.runs (c.requires.on.run here) so);
        };
        bank = e.back.same;
        apart = λ not_owned. let clash = sym here ∙ not_owned in cc;
      };
    }

pub returns-else-is_owned : goal.returns-else-is_owned
returns-else-is_owned g c =
    let before = c.args.self.now in
    let halts = g.H.Halts.halts c.args.halts.now in
    let old = before.guest in
    let bank = c.args.bank.now in
    let made = c.make_several_turns-else-is_owned in
    let new = made.new.self in
    let e = made.ensures in
    let here : owns bank old.number ≡ false = sym c.is_owned.ensures ∙ c.if-is_owned.false in
    let there = owned_on bank bank old.number new.number false refl e.same.number here in
    record {
      turns = rw (here, there) (several_from_start old before.from_start halts true made.result.count (held_state old before.save_area)
          (held_state new made.new.bank) e.turns);
      few = e.few;
      halted = e.halted;
      owned = e.owned;
      count = e.count;
      made = e.made;
      stop = e.stop ∙ c.requires.runs;
      journal = e.same.journal;
      events = ap length e.same.journal;
      same = record { config = e.same.config; thread = e.same.number; image = refl };
      home = record {
        on = record {
          lengths = search rules;
          place = search rules;
          fit = λ owned. let clash = sym there ∙ owned in cc;
          run = λ owned. let clash = sym there ∙ owned in cc;
        };
        bank = record { vl = refl; svl = refl; owner = refl };
        apart = λ _. refl;
      };
    }

pub invariant_of-self-else-is_owned : goal.invariant_of-self-else-is_owned
invariant_of-self-else-is_owned g c =
    let before = c.args.self.now in
    let halts = g.H.Halts.halts c.args.halts.now in
    let old = before.guest in
    let made = c.make_several_turns-else-is_owned in
    let new = made.new.self in
    let e = made.ensures in
    record {
      fits = record {
        lengths = e.back.fit.lengths;
        mode = λ home. e.back.fit.mode;
        owner = e.back.same.owner ∙ before.fits.owner;
      };
      from_start = still_from_start old new before.from_start e.same.earlier e.same.begun;
      is_run = λ home. run_same before.image old.config new.config old.number new.number old.journal.items new.journal.items
          (held_state new made.new.bank) (held_state new made.new.bank) old.stop new.stop e.same.config e.same.number e.same.journal refl
          e.stop
          (run_goes_by halts true before.image old.config old.number (held_state old before.save_area) (held_state new made.new.bank)
          old.journal.items old.stop made.result.count c.requires.runs (before.is_run home)
          (several_from_start old before.from_start halts true made.result.count (held_state old before.save_area) (held_state new made.new.bank)
          e.turns));
    }
