use Rattle.std.proofs.Common.{sym, ◌∙◌, arith, ap, refl, subst}
use Rattle.shared_region.specs.Tickets.{TicketView, GivesEvents}
use Rattle.std.proofs.lemmas.Grind.{common_steps}
use Rattle.std.proofs.lemmas.List.{nil_from_length}
use Rattle.core_unit.specs.Owners.{OwnerWith}
use Rattle.core_unit.specs.View.{core_state, owner_of}
use Rattle.core_unit.specs.Residents.{held_at, held_home}
use Rattle.core_unit.proofs.Cores.{first_belongs, not_idle, runs_on, owner_on, runs_out, owner_out, told_after, options_on, options_out, told_out, belong_on, belong_out}
use Rattle.core_unit.proofs.unit.Core.run.Goals as goal

pub run_first-run-requires-clause-told : goal.run_first-run-requires-clause-told
run_first-run-requires-clause-told g c =
    let t = c.args.self.now in
    record { apart = t.apart; resident = t.owner }

pub run_first-run-requires-clause-belongs : goal.run_first-run-requires-clause-belongs
run_first-run-requires-clause-belongs g c = λ r get.
    let t = c.args.self.now in
    first_belongs (λ r. r.context) (λ r. r.ticket) t.bank t.residents.items r (λ u. (g.P.Port.tells u).name)
    (g.P.Port.name c.args.port.now) get c.requires.belong.resident

pub retire-requires-clause-told : goal.retire-requires-clause-told
retire-requires-clause-told g c =
    let t = c.args.self.now in
    let ran = c.run_first-run in
    told_after (λ u. g.P.Port.refuses ran.new.port u)
    (λ thread events u v. GivesEvents g.P.Port.gives g.P.Port.name g.P.Port.tells thread events c.args.port.now u ran.new.port v)
    c.args.k t.bank ran.new.bank ran.result t.number t.config (held_at t.bank t.residents.items)
    (held_at ran.new.bank ran.new.residents.items) ran.ensures.run (record { apart = t.apart; resident = t.owner })

pub returns-else-is_stop-clause-run : goal.returns-else-is_stop-clause-run
returns-else-is_stop-clause-run g c =
    let t = c.args.self.now in
    let ran = c.run_first-run in
    runs_on (λ u. g.P.Port.refuses ran.new.port u)
    (λ thread events u v. GivesEvents g.P.Port.gives g.P.Port.name g.P.Port.tells thread events c.args.port.now u ran.new.port v)
    c.args.k t.bank ran.new.bank ran.result t.number t.config (held_at t.bank t.residents.items)
    (held_at ran.new.bank ran.new.residents.items) (held_home t.done.items) ran.ensures.run (sym c.is_stop.ensures ∙ c.if-is_stop.false)

pub returns-then-is_stop-clause-run : goal.returns-then-is_stop-clause-run
returns-then-is_stop-clause-run g c =
    let t = c.args.self.now in
    let ran = c.run_first-run in
    runs_out (λ u. g.P.Port.refuses ran.new.port u)
    (λ thread events u v. GivesEvents g.P.Port.gives g.P.Port.name g.P.Port.tells thread events c.args.port.now u ran.new.port v)
    c.args.k t.bank ran.new.bank ran.result t.number t.config (held_at t.bank t.residents.items)
    (held_at ran.new.bank ran.new.residents.items) (held_at c.retire.new.bank c.retire.new.residents.items) (held_home t.done.items)
    (held_home c.retire.new.done.items) ran.ensures.run c.retire.ensures.retired
    (sym c.is_stop.ensures ∙ c.if-is_stop.true)

pub returns-else-is_stop-clause-owner : goal.returns-else-is_stop-clause-owner
returns-else-is_stop-clause-owner g c =
    let t = c.args.self.now in
    let ran = c.run_first-run in
    owner_on (λ u. g.P.Port.refuses ran.new.port u)
    (λ thread events u v. GivesEvents g.P.Port.gives g.P.Port.name g.P.Port.tells thread events c.args.port.now u ran.new.port v)
    c.args.k t.bank ran.new.bank ran.result t.number t.config (held_at t.bank t.residents.items)
    (held_at ran.new.bank ran.new.residents.items) (held_home t.done.items) ran.ensures.run (sym c.is_stop.ensures ∙ c.if-is_stop.false)

pub returns-then-is_stop-clause-owner : goal.returns-then-is_stop-clause-owner
returns-then-is_stop-clause-owner g c =
    let t = c.args.self.now in
    let ran = c.run_first-run in
    owner_out (λ u. g.P.Port.refuses ran.new.port u)
    (λ thread events u v. GivesEvents g.P.Port.gives g.P.Port.name g.P.Port.tells thread events c.args.port.now u ran.new.port v)
    c.args.k t.bank ran.new.bank ran.result t.number t.config (held_at t.bank t.residents.items)
    (held_at ran.new.bank ran.new.residents.items) (held_at c.retire.new.bank c.retire.new.residents.items) (held_home t.done.items)
    (held_home c.retire.new.done.items) c.retire.new.bank.owner ran.ensures.run c.retire.ensures.retired
    (sym c.is_stop.ensures ∙ c.if-is_stop.true) c.retire.ensures.owner

pub returns-else-is_stop-clause-idle : goal.returns-else-is_stop-clause-idle
returns-else-is_stop-clause-idle g c = λ is.
    let t = c.args.self.now in
    let ran = c.run_first-run in
    absurd (not_idle (λ u. g.P.Port.refuses ran.new.port u)
    (λ thread events u v. GivesEvents g.P.Port.gives g.P.Port.name g.P.Port.tells thread events c.args.port.now u ran.new.port v)
    c.args.k t.bank ran.new.bank ran.result t.number t.config (held_at t.bank t.residents.items)
    (held_at ran.new.bank ran.new.residents.items) ran.ensures.run is)

pub returns-then-is_stop-clause-idle : goal.returns-then-is_stop-clause-idle
returns-then-is_stop-clause-idle g c = λ is.
    let t = c.args.self.now in
    let ran = c.run_first-run in
    absurd (not_idle (λ u. g.P.Port.refuses ran.new.port u)
    (λ thread events u v. GivesEvents g.P.Port.gives g.P.Port.name g.P.Port.tells thread events c.args.port.now u ran.new.port v)
    c.args.k t.bank ran.new.bank ran.result t.number t.config (held_at t.bank t.residents.items)
    (held_at ran.new.bank ran.new.residents.items) ran.ensures.run is)

pub returns-else-is_stop-clause-belong : goal.returns-else-is_stop-clause-belong
returns-else-is_stop-clause-belong g c =
    let t = c.args.self.now in
    let ran = c.run_first-run in
    belong_on (λ u. g.P.Port.refuses ran.new.port u)
    (λ thread events u v. GivesEvents g.P.Port.gives g.P.Port.name g.P.Port.tells thread events c.args.port.now u ran.new.port v)
    c.args.k t.bank ran.new.bank ran.result t.number t.config (λ u. (g.P.Port.tells u).name) (g.P.Port.name c.args.port.now)
    (λ n events u v given. ap (λ (x : TicketView). x.name) given.ticket) (held_at t.bank t.residents.items)
    (held_at ran.new.bank ran.new.residents.items) (held_home t.done.items) ran.ensures.run c.requires.belong

pub returns-then-is_stop-clause-belong : goal.returns-then-is_stop-clause-belong
returns-then-is_stop-clause-belong g c =
    let t = c.args.self.now in
    let ran = c.run_first-run in
    let kept = belong_on (λ u. g.P.Port.refuses ran.new.port u)
    (λ thread events u v. GivesEvents g.P.Port.gives g.P.Port.name g.P.Port.tells thread events c.args.port.now u ran.new.port v)
    c.args.k t.bank ran.new.bank ran.result t.number t.config (λ u. (g.P.Port.tells u).name) (g.P.Port.name c.args.port.now)
    (λ n events u v given. ap (λ (x : TicketView). x.name) given.ticket) (held_at t.bank t.residents.items)
    (held_at ran.new.bank ran.new.residents.items) (held_home t.done.items) ran.ensures.run c.requires.belong in
    belong_out (λ u. g.P.Port.refuses ran.new.port u)
    (λ thread events u v. GivesEvents g.P.Port.gives g.P.Port.name g.P.Port.tells thread events c.args.port.now u ran.new.port v)
    c.args.k t.bank ran.new.bank ran.result t.number t.config (λ u. (g.P.Port.tells u).name) (g.P.Port.name c.args.port.now)
    (λ n events u v given. ap (λ (x : TicketView). x.name) given.ticket)
    (held_at ran.new.bank ran.new.residents.items) (held_at c.retire.new.bank c.retire.new.residents.items) (held_home t.done.items)
    (held_home c.retire.new.done.items) c.retire.ensures.retired kept

pub invariant_of-self : goal.invariant_of-self
invariant_of-self g c =
    let t = c.args.self.now in
    let ran = c.run_first-run in
    let mid = held_at ran.new.bank ran.new.residents.items in
    let told = told_out (λ u. g.P.Port.refuses ran.new.port u)
    (λ thread events u v. GivesEvents g.P.Port.gives g.P.Port.name g.P.Port.tells thread events c.args.port.now u ran.new.port v)
    c.args.k t.bank ran.new.bank ran.result t.number t.config mid (held_at c.retire.new.bank c.retire.new.residents.items) (held_home t.done.items)
    (held_home c.retire.new.done.items) c.retire.new.bank.owner
    c.retire.ensures.retired c.retire.ensures.owner
    (told_after (λ u. g.P.Port.refuses ran.new.port u)
    (λ thread events u v. GivesEvents g.P.Port.gives g.P.Port.name g.P.Port.tells thread events c.args.port.now u ran.new.port v)
    c.args.k t.bank ran.new.bank ran.result t.number t.config (held_at t.bank t.residents.items) mid ran.ensures.run
    (record { apart = t.apart; resident = t.owner })) in
    record {
      lengths = record {
        vl = c.retire.ensures.lengths.vl ∙ ran.ensures.lengths.vl ∙ t.lengths.vl;
        svl = c.retire.ensures.lengths.svl ∙ ran.ensures.lengths.svl ∙ t.lengths.svl;
      };
      few = omega (arith, t.few, ran.ensures.len, c.retire.ensures.len.0, c.retire.ensures.len.1);
      room = omega (arith, t.room, ran.ensures.room, c.retire.ensures.room.0);
      done_room = omega (arith, t.done_room, c.retire.ensures.room.1);
      options = options_out (λ u. g.P.Port.refuses ran.new.port u)
          (λ thread events u v. GivesEvents g.P.Port.gives g.P.Port.name g.P.Port.tells thread events c.args.port.now u ran.new.port v)
          c.args.k t.bank ran.new.bank ran.result t.number t.config mid (held_at c.retire.new.bank c.retire.new.residents.items) (held_home t.done.items)
          (held_home c.retire.new.done.items) c.retire.ensures.retired
          (options_on (λ u. g.P.Port.refuses ran.new.port u)
          (λ thread events u v. GivesEvents g.P.Port.gives g.P.Port.name g.P.Port.tells thread events c.args.port.now u ran.new.port v)
          c.args.k t.bank ran.new.bank ran.result t.number t.config (held_at t.bank t.residents.items) mid ran.ensures.run t.options);
      on = c.retire.ensures.on;
      apart = told.apart;
      owner = told.resident;
    }

pub invariant_of-self-else-is_stop : goal.invariant_of-self-else-is_stop
invariant_of-self-else-is_stop g c =
    let t = c.args.self.now in
    let ran = c.run_first-run in
    let mid = held_at ran.new.bank ran.new.residents.items in
    let told = told_after (λ u. g.P.Port.refuses ran.new.port u)
    (λ thread events u v. GivesEvents g.P.Port.gives g.P.Port.name g.P.Port.tells thread events c.args.port.now u ran.new.port v)
    c.args.k t.bank ran.new.bank ran.result t.number t.config (held_at t.bank t.residents.items) mid ran.ensures.run
    (record { apart = t.apart; resident = t.owner }) in
    record {
      lengths = record {
        vl = ran.ensures.lengths.vl ∙ t.lengths.vl;
        svl = ran.ensures.lengths.svl ∙ t.lengths.svl;
      };
      few = omega (arith, t.few, ran.ensures.len);
      room = omega (arith, t.room, ran.ensures.room);
      done_room = t.done_room;
      options = options_on (λ u. g.P.Port.refuses ran.new.port u)
          (λ thread events u v. GivesEvents g.P.Port.gives g.P.Port.name g.P.Port.tells thread events c.args.port.now u ran.new.port v)
          c.args.k t.bank ran.new.bank ran.result t.number t.config (held_at t.bank t.residents.items) mid ran.ensures.run t.options;
      on = ran.ensures.on;
      apart = told.apart;
      owner = told.resident;
    }

pub returns-then-is_empty-clause-owner : goal.returns-then-is_empty-clause-owner
returns-then-is_empty-clause-owner g c =
    let t = c.args.self.now in
    subst (λ l. OwnerWith c.args.k (held_at t.bank l) (core_state t) (owner_of t) (core_state t) (owner_of t) _)
    (sym (nil_from_length t.residents.items (grind (arith, common_steps, c.is_empty.ensures, c.if-is_empty.true)))) refl
