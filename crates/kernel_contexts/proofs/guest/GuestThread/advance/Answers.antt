use Rattle.std.proofs.Common.{◌∙◌, refl, sym, arith}
use Rattle.kernel_contexts.specs.Context.{held_state}
use Rattle.kernel_contexts.specs.Stance.{stance_at}
use Rattle.kernel_contexts.proofs.Answered.{ran_turned, yielded_turned}
use Rattle.kernel_contexts.proofs.Apart.{over_made}
use Rattle.kernel_contexts.proofs.Nothing.{grows_by_none, gives_none}
use Rattle.kernel_contexts.proofs.Stances.{turns_from, stays_at}
use Rattle.kernel_contexts.proofs.guest.GuestThread.advance.Goals as goal

pub returns-in-None : goal.returns-in-None
returns-in-None g c =
    let old = c.args.self.now in
    let bank = c.args.bank.now in
    let new = c.make_turn.new.self in
    let after = c.make_turn.new.bank in
    let turn = c.make_turn.ensures in
    record {
      turn = turns_from _ _ _ (stance_at old bank) (stance_at new after) c.make_turn.result c.in-None.is turn.turn;
      memory = turn.memory;
      goes = turn.goes;
      owned = turn.owned;
      grows = turn.grows.journal;
      gives = turn.grows.given;
      same = turn.grows.same;
      home = turn.back;
      made = λ ran. ran_turned old.config old.number _ (held_state old bank) (held_state new after) _ _ _ c.make_turn.result
          (over_made _ _ _ _ _ _ _ c.make_turn.result (λ e. let clash = sym ran ∙ e in cc) turn.turn) ran;
      yielded = λ yielded. yielded_turned old.config old.number _ (held_state old bank) (held_state new after) _ _ _ c.make_turn.result
          (over_made _ _ _ _ _ _ _ c.make_turn.result (λ e. let clash = sym yielded ∙ e in cc) turn.turn) yielded;
      budget = new.within_budget;
      few = omega (arith, new.turns_within, new.begun_within);
    }

pub returns-in-Some : goal.returns-in-Some
returns-in-Some g c =
    let old = c.args.self.now in
    record {
      turn = stays_at _ _ _ (stance_at old c.args.bank.now) _ c.in-Some.is refl;
      memory = λ wants. let clash = wants in cc;
      goes = λ wants free. let clash = wants in cc;
      owned = refl;
      grows = grows_by_none old.journal.items;
      gives = gives_none g.P.Port.gives g.P.Port.name g.P.Port.tells _ _ old.number old.journal.items;
      same = record { config = refl; number = refl; earlier = refl; begun = refl };
      home = record { same = record { vl = refl; svl = refl; owner = refl }; fit = c.requires.fit };
      made = λ ran. let clash = ran in cc;
      yielded = λ yielded. let clash = yielded in cc;
      budget = old.within_budget;
      few = omega (arith, old.turns_within, old.begun_within);
    }
