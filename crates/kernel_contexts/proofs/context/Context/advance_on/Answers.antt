use Rattle.std.proofs.Common.{◌≡◌, ℕ, true, false, refl, ap, sym, ◌∙◌, rules}
use Rattle.std.specs.Prelude.{Option, not}
use Rattle.kernel_contexts.specs.Owner.{owns, is_owner}
use Rattle.kernel_contexts.specs.Stance.{stance_at}
use Rattle.kernel_contexts.proofs.FromStart.{all_events, still_from_start, turn_begun}
use Rattle.kernel_contexts.proofs.Several.{owned_on}
use Rattle.kernel_contexts.proofs.Stances.{run_on}
use Rattle.kernel_contexts.proofs.context.Context.advance_on.Goals as goal

pub returns-then-is_owned : goal.returns-then-is_owned
returns-then-is_owned g c =
    let before = c.args.self.now in
    let old = before.guest in
    let bank = c.args.bank.now in
    let new = c.advance.new.self in
    let after = c.advance.new.bank in
    let e = c.advance.ensures in
    let here : owns bank old.number ≡ true = sym c.is_owned.ensures ∙ c.if-is_owned.true in
    let there = owned_on bank after old.number new.number true e.home.same.owner e.same.number here in
    rw (here, there) (turn_begun _ _ _ _ _ old new bank after _ before.from_start e
    (record { config = e.same.config; thread = e.same.number; image = refl })
    (record {
      on = record {
        lengths = e.home.fit.lengths;
        place = c.requires.on.place
            ∙ ap (λ (o : Option ℕ). not (is_owner o old.number)) (sym e.home.same.owner)
            ∙ ap (λ (n : ℕ). not (owns after n)) (sym e.same.number);
        fit = λ _. e.home.fit;
        run = λ _. run_on before.image _ _ (stance_at old bank) (stance_at new after) c.advance.result
            (all_events old before.from_start) e.same e.grows old.stop e.turn (c.requires.on.run here);
      };
      bank = e.home.same;
      apart = λ not_owned. let clash = sym here ∙ not_owned in cc;
    }))

pub returns-else-is_owned : goal.returns-else-is_owned
returns-else-is_owned g c =
    let before = c.args.self.now in
    let old = before.guest in
    let bank = c.args.bank.now in
    let made = c.advance-else-is_owned in
    let new = made.new.self in
    let e = made.ensures in
    let here : owns bank old.number ≡ false = sym c.is_owned.ensures ∙ c.if-is_owned.false in
    let there = owned_on bank bank old.number new.number false refl e.same.number here in
    rw (here, there) (turn_begun _ _ _ _ _ old new before.save_area made.new.bank _ before.from_start e
    (record { config = e.same.config; thread = e.same.number; image = refl })
    (record {
      on = record {
        lengths = search rules;
        place = search rules;
        fit = λ owned. let clash = sym there ∙ owned in cc;
        run = λ owned. let clash = sym there ∙ owned in cc;
      };
      bank = record { vl = refl; svl = refl; owner = refl };
      apart = λ _. refl;
    }))

pub invariant_of-self-else-is_owned : goal.invariant_of-self-else-is_owned
invariant_of-self-else-is_owned g c =
    let before = c.args.self.now in
    let old = before.guest in
    let made = c.advance-else-is_owned in
    let new = made.new.self in
    let e = made.ensures in
    record {
      fits = record {
        lengths = e.home.fit.lengths;
        mode = λ home. e.home.fit.mode;
        owner = e.home.same.owner ∙ before.fits.owner;
      };
      from_start = still_from_start old new before.from_start e.same.earlier e.same.begun;
      is_run = λ home. run_on before.image _ _ (stance_at old before.save_area) (stance_at new made.new.bank) made.result
          (all_events old before.from_start) e.same e.grows old.stop e.turn (before.is_run home);
    }
