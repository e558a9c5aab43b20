use Rattle.std.proofs.Common.{◌≡◌, ap, sym, ◌∙◌, refl, subst, arith}
use Rattle.std.specs.Prelude.{slice_get}
use Rattle.core_unit.specs.Owners.{IsTold, freed_by}
use Rattle.core_unit.specs.Residents.{held_at}
use Rattle.std.proofs.lemmas.Grind.{common_steps}
use Rattle.std.proofs.lemmas.List.{nil_from_length}
use Rattle.core_unit.specs.View.{core_state, held_by}
use Rattle.core_unit.proofs.Cores.{each_rest}
use Rattle.core_unit.proofs.Owners.{told_rest}
use Rattle.core_unit.proofs.unit.Core.evict.Goals as goal

pub invariant_of-self : goal.invariant_of-self
invariant_of-self g c =
    let t = c.args.self.now in
    let taken = c.take_first in
    let bank = taken.new.bank in
    let rest = held_at bank taken.new.residents.items in
    let told : IsTold bank.owner rest =
    subst (λ o. IsTold o rest)
    (sym (taken.ensures.owner ∙ ap (λ l. freed_by l t.bank.owner) taken.ensures.taken))
    (told_rest t.bank.owner _ (held_by taken.result) rest taken.ensures.taken (record { apart = t.apart; resident = t.owner })) in
    record {
      lengths = record { vl = taken.ensures.lengths.vl ∙ t.lengths.vl; svl = taken.ensures.lengths.svl ∙ t.lengths.svl };
      few = omega (arith, t.few, taken.ensures.len);
      room = omega (arith, t.room, taken.ensures.room);
      done_room = t.done_room;
      options = each_rest (λ h. h.guest.config ≡ t.config) _ rest rest (held_by taken.result) taken.ensures.taken refl t.options;
      on = taken.ensures.on;
      apart = told.apart;
      owner = told.resident;
    }

pub returns-clause-config : goal.returns-clause-config
returns-clause-config g c =
    let t = c.args.self.now in
    t.options 0 (held_by c.take_first.result) (ap (λ l. slice_get l 0) c.take_first.ensures.taken)

pub returns-clause-taken : goal.returns-clause-taken
returns-clause-taken g c = ap (λ l. record (core_state c.args.self.now) { residents = l }) c.take_first.ensures.taken

pub returns-then-is_empty-clause-owner : goal.returns-then-is_empty-clause-owner
returns-then-is_empty-clause-owner g c =
    let t = c.args.self.now in
    sym (ap (λ l. freed_by (held_at t.bank l) t.bank.owner)
    (nil_from_length t.residents.items (grind (arith, common_steps, c.is_empty.ensures, c.if-is_empty.true))))
