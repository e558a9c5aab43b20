use Rattle.std.proofs.Common.{◌≡◌, ◌<◌, ◌+◌, ◌∷◌, [], ◌++◌, refl, sym, ◌∙◌, ap, subst, arith, vec_len}
use Rattle.std.specs.Prelude.{slice_get}
use Rattle.sm_types.specs.declared.config.Config.{Config}
use Rattle.kernel_contexts.specs.Context.{IsOn}
use Rattle.core_unit.specs.Held.{held_on}
use Rattle.core_unit.specs.Owners.{IsTold}
use Rattle.core_unit.specs.View.{held_by, core_state}
use Rattle.core_unit.proofs.Cores.{each_snoc}
use Rattle.core_unit.proofs.Moving.{home_on}
use Rattle.core_unit.proofs.Owners.{not_owner, told_snoc, held_admitted}
use Rattle.core_unit.proofs.unit.Core.admit.Goals as goal

pub invariant_of-self : goal.invariant_of-self
invariant_of-self g c =
    let t = c.args.self.now in
    let w = c.args.whole in
    let few : vec_len t.residents + vec_len t.done < 8 = omega (arith, t.few) in
    let before = held_on (λ r. r.context) (λ r. r.ticket) t.bank t.residents.items in
    let told : IsTold t.bank.owner before = record { apart = t.apart; resident = t.owner } in
    let apart = not_owner t.bank.owner (held_by w) before told c.requires.absent.resident in
    let pushed = ap (held_on (λ r. r.context) (λ r. r.ticket) t.bank) c.push_reserved.ensures.items
    ∙ held_admitted (λ r. r.context) (λ r. r.ticket) t.bank t.residents.items _ apart in
    let more : IsTold t.bank.owner (before ++ held_by w ∷ []) = told_snoc t.bank.owner (held_by w) before told c.requires.absent.resident in
    let all = subst (IsTold t.bank.owner) (sym pushed) more in
    record {
      lengths = t.lengths;
      few = omega (arith, few, c.push_reserved.ensures.len);
      room = omega (arith, t.room, c.push_reserved.ensures.capacity);
      done_room = t.done_room;
      options = λ i h get. each_snoc (λ h. h.guest.config ≡ t.config) before (held_by w) t.options c.requires.config i h
          (ap (λ l. slice_get l i) (sym pushed) ∙ get);
      on = λ i r get. each_snoc (λ r. IsOn r.context t.bank) t.residents.items _ t.on
          (home_on w.context w.context t.bank refl w.home apart (record {
            vl = t.lengths.vl ∙ ap (λ (k : Config). k.vl) (sym c.requires.config);
            svl = t.lengths.svl ∙ ap (λ (k : Config). k.svl) (sym c.requires.config);
          })) i r
          (ap (λ l. slice_get l i) (sym c.push_reserved.ensures.items) ∙ get);
      apart = all.apart;
      owner = all.resident;
    }

pub returns-clause-admitted : goal.returns-clause-admitted
returns-clause-admitted g c =
    let t = c.args.self.now in
    let w = c.args.whole in
    let before = held_on (λ r. r.context) (λ r. r.ticket) t.bank t.residents.items in
    let told : IsTold t.bank.owner before = record { apart = t.apart; resident = t.owner } in
    let apart = not_owner t.bank.owner (held_by w) before told c.requires.absent.resident in
    ap (λ l. record (core_state t) { residents = l })
    (ap (held_on (λ r. r.context) (λ r. r.ticket) t.bank) c.push_reserved.ensures.items
    ∙ held_admitted (λ r. r.context) (λ r. r.ticket) t.bank t.residents.items _ apart)
