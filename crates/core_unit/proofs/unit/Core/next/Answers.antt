use Rattle.std.proofs.Common.{◌≡◌, ◌<◌, ◌∷◌, [], ◌++◌, length, refl, sym, ◌∙◌, ap, subst, arith}
use Rattle.std.specs.Prelude.{remove, slice_get}
use Rattle.std.proofs.lemmas.Grind.{common_steps}
use Rattle.kernel_contexts.specs.Context.{IsOn}
use Rattle.core_unit.specs.Held.{held_on}
use Rattle.core_unit.specs.Owners.{IsTold}
use Rattle.core_unit.proofs.Cores.{cons_of, first_of, each_rest, each_snoc}
use Rattle.core_unit.proofs.Owners.{item, told_turned, held_more}
use Rattle.core_unit.proofs.unit.Core.next.Goals as goal

pub invariant_of-self : goal.invariant_of-self
invariant_of-self g c =
    let t = c.args.self.now in
    let some : 0 < length t.residents.items = grind (arith, common_steps, c.len.ensures, c.if-len-lt2.false) in
    let first = c.remove-first.result in
    let split = cons_of t.residents.items first some c.remove-first.ensures.value in
    let left = c.remove-first.ensures.items ∙ ap (λ l. remove l 0) split.1 in
    let rest = each_rest (λ r. IsOn r.context t.bank) t.residents.items _ split.0 first split.1 left t.on in
    let others = held_on (λ r. r.context) (λ r. r.ticket) t.bank split.0 in
    let one = item (λ r. r.context) (λ r. r.ticket) t.bank first in
    let was = ap (held_on (λ r. r.context) (λ r. r.ticket) t.bank) split.1 in
    let turned = ap (held_on (λ r. r.context) (λ r. r.ticket) t.bank) (c.push_reserved.ensures.items ∙ ap (λ l. l ++ first ∷ []) left)
    ∙ held_more (λ r. r.context) (λ r. r.ticket) t.bank split.0 first in
    let told = subst (IsTold t.bank.owner) (sym turned) (told_turned t.bank.owner one others
    (subst (IsTold t.bank.owner) was (record { apart = t.apart; resident = t.owner }))) in
    record {
      lengths = t.lengths;
      few = omega (arith, t.few, c.remove-first.ensures.len, c.push_reserved.ensures.len);
      room = omega (arith, t.room, c.remove-first.ensures.capacity, c.push_reserved.ensures.capacity);
      done_room = t.done_room;
      options = λ i h get. each_snoc (λ h. h.guest.config ≡ t.config) others one
          (each_rest (λ h. h.guest.config ≡ t.config) _ others others one was refl t.options)
          (t.options 0 one (ap (λ l. slice_get l 0) was)) i h (ap (λ l. slice_get l i) (sym turned) ∙ get);
      on = λ i r get. each_snoc (λ r. IsOn r.context t.bank) c.remove-first.new.self.items first rest
          (t.on 0 first (first_of _ split.0 first split.1)) i r
          (ap (λ l. slice_get l i) (sym c.push_reserved.ensures.items) ∙ get);
      apart = told.apart;
      owner = told.resident;
    }
