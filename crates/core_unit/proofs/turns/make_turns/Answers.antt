use Rattle.std.proofs.Common.{◌≡◌, ◌+◌, refl, sym, ap, ◌∙◌, arith, add-one}
use Rattle.std.specs.Prelude.{not}
use Rattle.kernel_contexts.specs.Context.{owns, thread_of, config_of, state_on, journal_of, stop_of, made_by}
use Rattle.kernel_contexts.specs.Guest.{guest_on}
use Rattle.core_unit.specs.Need.{first_need_of}
use Rattle.kernel_contexts.proofs.Nothing.{gives_none}
use Rattle.core_unit.proofs.Ports.{gives_more, ticket_stays, ticket_kept, gives_kept, refuses_there}
use Rattle.core_unit.proofs.Runs.{IsLater, run_begins, goes_on, IsGoneBy, gone_by, rises, made_none, runs_so, runs_spent, is_answers}
use Rattle.core_unit.proofs.Runs.{runs_not_some, turned_on, needed_on, needs_there, made_turn, has_made, owned_still, owned_before, none_of}
use Rattle.core_unit.proofs.Runs.{quiet_start, quiet_not, quiet_on, quiet_next, quiet_by, quiet_so, unneeded_on}
use Rattle.core_unit.proofs.turns.make_turns.Goals as goal

pub returns-then-is_some : goal.returns-then-is_some
returns-then-is_some g c =
    let context = c.args.resident.now.context in
    record {
      turns = (
        runs_not_some _ c.args.k (guest_on c.args.bank.now context) c.stop.result c.stop.ensures
            (sym c.is_some.ensures ∙ c.if-is_some.true),
        omega arith,
        λ _. quiet_not c.args.k (guest_on c.args.bank.now context) c.stop.result c.stop.ensures
            (sym c.is_some.ensures ∙ c.if-is_some.true),
      );
      gives = gives_none g.P.Port.gives g.P.Port.name g.P.Port.tells _ _ (thread_of context) (journal_of context);
      on = c.requires.on;
      bank = record { vl = refl; svl = refl; owner = refl };
      apart = λ apart. refl;
      same = record { config = refl; thread = refl; image = refl };
    }

pub turns-init : goal.turns-init
turns-init g c =
    let first = c.args.resident.now.context in
    let bank = c.args.bank.now in
    record {
      on = c.requires.on;
      apart = λ apart. refl;
      bank = record { vl = refl; svl = refl; owner = refl };
      same = record { config = refl; thread = refl; image = refl };
      few = omega arith;
      runs = none_of c.stop.result (stop_of first) c.stop.ensures (sym c.is_some.ensures ∙ c.if-is_some.false);
      run = run_begins (guest_on bank first);
      quiet = λ _. quiet_start (guest_on bank first);
      ticket = c.requires.ticket;
      gives = gives_none g.P.Port.gives g.P.Port.name g.P.Port.tells _ _ (thread_of first) (journal_of first);
    }

pub end_of_turn-requires : goal.end_of_turn-requires
end_of_turn-requires g c = made_turn c.advance_on-turn.result _ c.waits.ensures c.if-waits.false

pub advance_several_on-turns-requires-clause-runs : goal.advance_several_on-turns-requires-clause-runs
advance_several_on-turns-requires-clause-runs g c =
    let h = c.turns.invariant in
    let e = c.advance_on-turn.ensures in
    let old = c.turns.resident.context in
    let new = c.advance_on-turn.new.self in
    let bank = c.turns.bank in
    let after = c.advance_on-turn.new.bank in
    let was = guest_on c.args.bank.now c.args.resident.now.context in
    let later : IsLater (guest_on bank old) (guest_on after new) (made_by old new) =
    record { program = e.same.image; config = e.same.config; number = e.same.thread; journal = e.grows } in
    let made = made_turn c.advance_on-turn.result _ c.waits.ensures c.if-waits.false in
    (goes_on was (guest_on bank old) (guest_on after new) c.turns.turns (made_by old new) h.run h.runs later _
    c.advance_on-turn.result (sym c.in-None.ensures) made
    (turned_on _ _ old bank new after c.advance_on-turn.result h.runs made e.turn)).1

pub turns-preserved : goal.turns-preserved
turns-preserved g c =
    let h = c.turns.invariant in
    let e = c.advance_on-turn.ensures in
    let f = c.advance_several_on-turns.ensures in
    let first = c.args.resident.now.context in
    let old = c.turns.resident.context in
    let new = c.advance_on-turn.new.self in
    let last = c.advance_several_on-turns.new.self in
    let bank = c.turns.bank in
    let after = c.advance_on-turn.new.bank in
    let end = c.advance_several_on-turns.new.bank in
    let was = guest_on c.args.bank.now first in
    let later : IsLater (guest_on bank old) (guest_on after new) (made_by old new) =
    record { program = e.same.image; config = e.same.config; number = e.same.thread; journal = e.grows } in
    let made = made_turn c.advance_on-turn.result _ c.waits.ensures c.if-waits.false in
    let on = goes_on was (guest_on bank old) (guest_on after new) c.turns.turns (made_by old new) h.run h.runs later _
    c.advance_on-turn.result (sym c.in-None.ensures) made
    (turned_on _ _ old bank new after c.advance_on-turn.result h.runs made e.turn) in
    let told = ticket_stays g.P.Port.gives g.P.Port.name g.P.Port.tells _ _ _ _ (thread_of old) (thread_of new) (made_by old new)
    e.same.thread h.ticket e.gives in
    let given = gives_more g.P.Port.gives g.P.Port.name g.P.Port.tells _ _ _ _ _ _ (thread_of first) (thread_of old) _ (made_by old new) _
    (is_answers was (guest_on bank old) (guest_on after new) c.turns.turns (made_by old new) h.run h.runs later)
    h.same.thread h.gives e.gives in
    let gone : IsGoneBy (not (owns after (thread_of new))) (guest_on after new) c.advance_several_on-turns.result.count
    (guest_on end last) =
    record {
      program = f.same.image;
      config = f.same.config;
      number = f.same.thread;
      journal = f.journal;
      runs = on.1;
      stop = f.stop;
      goes = f.turns;
    } in
    record {
      on = f.home.on;
      apart = λ apart.
          let here = owned_still c.args.bank.now bank (thread_of first) (thread_of old) h.bank.owner h.same.thread apart in
          f.home.apart (owned_still bank after (thread_of old) (thread_of new) e.home.bank.owner e.same.thread here)
          ∙ e.home.apart here ∙ h.apart apart;
      bank = record {
        vl = f.home.bank.vl ∙ e.home.bank.vl ∙ h.bank.vl;
        svl = f.home.bank.svl ∙ e.home.bank.svl ∙ h.bank.svl;
        owner = f.home.bank.owner ∙ e.home.bank.owner ∙ h.bank.owner;
      };
      same = record {
        config = f.same.config ∙ e.same.config ∙ h.same.config;
        thread = f.same.thread ∙ e.same.thread ∙ h.same.thread;
        image = f.same.image ∙ e.same.image ∙ h.same.image;
      };
      few = omega (arith, c.turns-test.true, f.few);
      runs = f.stop;
      run = gone_by (not (owns after (thread_of new))) was (guest_on after new) (guest_on end last) (c.turns.turns + 1)
          c.advance_several_on-turns.result.count on.0 gone;
      quiet = λ apart.
          let here = owned_still c.args.bank.now bank (thread_of first) (thread_of old) h.bank.owner h.same.thread apart in
          let there = owned_still bank after (thread_of old) (thread_of new) e.home.bank.owner e.same.thread here in
          quiet_by (not (owns after (thread_of new))) was (guest_on after new) (guest_on end last) (c.turns.turns + 1)
          c.advance_several_on-turns.result.count (ap not there) on.0 gone
          (rw add-one (quiet_on was (guest_on bank old) (guest_on after new) c.turns.turns (made_by old new) h.run h.runs later
          (h.quiet apart) (unneeded_on _ _ old bank new after c.advance_on-turn.result h.runs made here e.turn)));
      ticket = ticket_kept g.P.Port.gives g.P.Port.name g.P.Port.tells _ _ (thread_of new) (thread_of last) f.same.thread told;
      gives = gives_kept g.P.Port.gives g.P.Port.name g.P.Port.tells _ _ _ _ (thread_of first) (journal_of first) (journal_of new)
          (journal_of last) f.journal given;
    }

pub returns-in-Some : goal.returns-in-Some
returns-in-Some g c =
    let h = c.turns.invariant in
    let e = c.advance_on-turn.ensures in
    let first = c.args.resident.now.context in
    let old = c.turns.resident.context in
    let new = c.advance_on-turn.new.self in
    let bank = c.turns.bank in
    let after = c.advance_on-turn.new.bank in
    let was = guest_on c.args.bank.now first in
    let made = made_turn c.advance_on-turn.result _ c.waits.ensures c.if-waits.false in
    let turn = turned_on _ _ old bank new after c.advance_on-turn.result h.runs made e.turn in
    let later : IsLater (guest_on bank old) (guest_on after new) (made_by old new) =
    record { program = e.same.image; config = e.same.config; number = e.same.thread; journal = e.grows } in
    let rise = rises was (guest_on bank old) (guest_on after new) c.turns.turns (made_by old new) h.run h.runs later _
    c.advance_on-turn.result turn in
    let none = made_none was (guest_on bank old) (guest_on after new) c.turns.turns (made_by old new) h.run h.runs later _
    c.advance_on-turn.result c.in-Some.why (sym c.in-Some.ensures) turn in
    record {
      turns = (
        refuses_there g.P.Port.gives g.P.Port.name g.P.Port.tells g.P.Port.refuses _ _ _ _ (thread_of old) (made_by old new) c.args.k was
            (guest_on after new) _ none e.gives
            (runs_so was (guest_on bank old) (guest_on after new) c.turns.turns (made_by old new) h.run h.runs later _ c.args.k _
            c.turns-test.true (omega (arith, rise.0, h.run.turns, c.turns-begun.ensures, c.turns-in-Some.ensures)) c.advance_on-turn.result
            c.in-Some.why (sym c.in-Some.ensures) turn
            (λ is. record { context = old; bank = bank; is = refl; wants = e.memory is; goes = e.goes is })),
        omega (
          arith,
          rise.1,
          h.run.turns,
          c.turns-begun.ensures,
          c.turns-in-Some.ensures,
          c.turns-test.true,
        ),
        λ apart.
            let here = owned_still c.args.bank.now bank (thread_of first) (thread_of old) h.bank.owner h.same.thread apart in
            quiet_so was (guest_on bank old) (guest_on after new) c.turns.turns (made_by old new) h.run h.runs later _ c.args.k _
            c.turns-test.true (omega (arith, rise.0, h.run.turns, c.turns-begun.ensures, c.turns-in-Some.ensures)) c.advance_on-turn.result
            c.in-Some.why (sym c.in-Some.ensures) turn
            (quiet_on was (guest_on bank old) (guest_on after new) c.turns.turns (made_by old new) h.run h.runs later
            (h.quiet apart) (unneeded_on _ _ old bank new after c.advance_on-turn.result h.runs made here e.turn)),
      );
      gives = gives_more g.P.Port.gives g.P.Port.name g.P.Port.tells _ _ _ _ _ _ (thread_of first) (thread_of old) _ (made_by old new) _
          (is_answers was (guest_on bank old) (guest_on after new) c.turns.turns (made_by old new) h.run h.runs later)
          h.same.thread h.gives e.gives;
      on = e.home.on;
      bank = record { vl = e.home.bank.vl ∙ h.bank.vl; svl = e.home.bank.svl ∙ h.bank.svl; owner = e.home.bank.owner ∙ h.bank.owner };
      apart = λ apart. e.home.apart (owned_still c.args.bank.now c.turns.bank (thread_of c.args.resident.now.context)
          (thread_of c.turns.resident.context) h.bank.owner h.same.thread apart) ∙ h.apart apart;
      same = record {
        config = e.same.config ∙ h.same.config;
        thread = e.same.thread ∙ h.same.thread;
        image = e.same.image ∙ h.same.image;
      };
    }

pub returns : goal.returns
returns g c =
    let h = c.turns.invariant in
    record {
      turns = (
        runs_spent _ c.args.k (guest_on c.args.bank.now c.args.resident.now.context) (guest_on c.turns.bank c.turns.resident.context)
            c.turns.turns h.run h.runs (omega (arith, h.few, c.turns-test.false)),
        h.few,
        λ apart.
            let all : c.args.k ≡ c.turns.turns = omega (arith, h.few, c.turns-test.false) in
            ap (first_need_of (guest_on c.args.bank.now c.args.resident.now.context) (guest_on c.turns.bank c.turns.resident.context)) all
            ∙ h.quiet apart,
      );
      gives = h.gives;
      on = h.on;
      bank = h.bank;
      apart = h.apart;
      same = h.same;
    }

pub overflow_sub-made : goal.overflow_sub-made
overflow_sub-made g c =
    let h = c.turns.invariant in
    let e = c.advance_on-turn.ensures in
    let old = c.turns.resident.context in
    let new = c.advance_on-turn.new.self in
    let bank = c.turns.bank in
    let after = c.advance_on-turn.new.bank in
    let later : IsLater (guest_on bank old) (guest_on after new) (made_by old new) =
    record { program = e.same.image; config = e.same.config; number = e.same.thread; journal = e.grows } in
    let rise = rises (guest_on c.args.bank.now c.args.resident.now.context) (guest_on bank old) (guest_on after new) c.turns.turns
    (made_by old new) h.run h.runs later _ c.advance_on-turn.result
    (turned_on _ _ old bank new after c.advance_on-turn.result h.runs
    (made_turn c.advance_on-turn.result _ c.waits.ensures c.if-waits.false) e.turn) in
    omega (arith, rise.0, h.run.turns, c.turns-begun.ensures, c.turns-in-Some.ensures)

pub overflow_cast-made : goal.overflow_cast-made
overflow_cast-made g c =
    let h = c.turns.invariant in
    let e = c.advance_on-turn.ensures in
    let old = c.turns.resident.context in
    let new = c.advance_on-turn.new.self in
    let bank = c.turns.bank in
    let after = c.advance_on-turn.new.bank in
    let later : IsLater (guest_on bank old) (guest_on after new) (made_by old new) =
    record { program = e.same.image; config = e.same.config; number = e.same.thread; journal = e.grows } in
    let rise = rises (guest_on c.args.bank.now c.args.resident.now.context) (guest_on bank old) (guest_on after new) c.turns.turns
    (made_by old new) h.run h.runs later _ c.advance_on-turn.result
    (turned_on _ _ old bank new after c.advance_on-turn.result h.runs
    (made_turn c.advance_on-turn.result _ c.waits.ensures c.if-waits.false) e.turn) in
    omega (arith, rise.1, h.run.turns, c.turns-begun.ensures, c.turns-in-Some.ensures, c.turns-test.true, c.ranges.k)

pub returns-then-waits : goal.returns-then-waits
returns-then-waits g c =
    let h = c.turns.invariant in
    let e = c.advance_on-turn.ensures in
    let first = c.args.resident.now.context in
    let old = c.turns.resident.context in
    let new = c.advance_on-turn.new.self in
    let bank = c.turns.bank in
    let after = c.advance_on-turn.new.bank in
    let was = guest_on c.args.bank.now first in
    let need = needed_on _ _ old bank new after c.advance_on-turn.result h.runs (sym c.waits.ensures ∙ c.if-waits.true) e.turn in
    let later : IsLater (guest_on bank old) (guest_on after new) (made_by old new) =
    record { program = e.same.image; config = e.same.config; number = e.same.thread; journal = e.grows } in
    let apart = owned_before c.args.bank.now bank (thread_of first) (thread_of old) h.bank.owner h.same.thread need.apart in
    record {
      turns = (
        has_made was (guest_on bank old) (guest_on after new) c.turns.turns (made_by old new) h.run h.runs later need.none need.same need.runs,
        c.turns-test.true,
        apart,
        quiet_next was (guest_on bank old) (guest_on after new) c.turns.turns (made_by old new) h.run h.runs later (h.quiet apart),
        needs_there (config_of new) (config_of old) (state_on new after) (state_on old bank) e.same.config need.same need.needs,
      );
      gives = gives_more g.P.Port.gives g.P.Port.name g.P.Port.tells _ _ _ _ _ _ (thread_of first) (thread_of old) _ (made_by old new) _
          (is_answers was (guest_on bank old) (guest_on after new) c.turns.turns (made_by old new) h.run h.runs later)
          h.same.thread h.gives e.gives;
      on = e.home.on;
      bank = record { vl = e.home.bank.vl ∙ h.bank.vl; svl = e.home.bank.svl ∙ h.bank.svl; owner = e.home.bank.owner ∙ h.bank.owner };
      apart = λ apart. e.home.apart (owned_still c.args.bank.now c.turns.bank (thread_of c.args.resident.now.context)
          (thread_of c.turns.resident.context) h.bank.owner h.same.thread apart) ∙ h.apart apart;
      same = record {
        config = e.same.config ∙ h.same.config;
        thread = e.same.thread ∙ h.same.thread;
        image = e.same.image ∙ h.same.image;
      };
    }
