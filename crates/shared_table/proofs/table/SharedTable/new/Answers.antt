use Rattle.std.proofs.Common.{List, ◌∙◌, subst, sym, [], ◌∷◌, ℕ}
use Rattle.shared_table.specs.declared.view.SeatView.TheVariants.{Maker}
use Rattle.shared_table.specs.Views.{new_book}
use Rattle.shared_table.specs.Rule.{IsKept}
use Rattle.shared_table.proofs.Closing.{opens}
use Rattle.shared_table.proofs.table.SharedTable.new.Goals as goal

pub of_words-requires : goal.of_words-requires
of_words-requires c =
    let zeros = c.as_slice.ensures.value ∙ c.in-Ok.ensures.items_if_clones_equal (λ y same. same) in
    subst (λ (words : List ℕ). IsKept words (Maker new_book ∷ [])) (sym zeros) opens
