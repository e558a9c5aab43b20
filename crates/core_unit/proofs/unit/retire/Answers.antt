use Rattle.std.proofs.Common.{[], ◌∷◌, ap, sym, refl, subst, ◌∙◌}
use Rattle.std.proofs.lemmas.List.{map-append}
use Rattle.core_unit.specs.Residents.{HasRetired, held_at, held_home}
use Rattle.core_unit.specs.View.{held_by}
use Rattle.core_unit.proofs.unit.retire.Goals as goal

pub returns-clause-retired : goal.returns-clause-retired
returns-clause-retired g c =
    subst (λ l. HasRetired l (held_home c.args.done.now.items) (held_at c.take_first-whole.new.bank c.take_first-whole.new.residents.items)
    (held_home c.push_reserved.new.self.items)) (sym c.take_first-whole.ensures.taken) (
      refl,
      ap (λ l. held_home l) c.push_reserved.ensures.items
          ∙ map-append (λ w. held_by w) c.args.done.now.items (c.take_first-whole.result ∷ []),
    )
