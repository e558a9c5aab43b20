use Rattle.std.proofs.Common.{◌≡◌, ◌∙◌, ap, take, drop, true, List, sym, subst}
use Rattle.std.specs.List.{list_all}
use Rattle.insn_text.specs.declared.item.Item.{Item}
use Rattle.insn_text.specs.declared.item.ItemList.TheVariants as list
use Rattle.insn_text.specs.Indices.{is_sized}
use Rattle.insn_text.specs.Texts.{items_in, items_of}
use Rattle.insn_text.proofs.Tables.{sized_run}
use Rattle.insn_text.proofs.shape.operands_of.Goals as goal

pub returns-in-Scalar-clause-value : goal.returns-in-Scalar-clause-value
unfolding items_of items_in
returns-in-Scalar-clause-value c =
    c.run_of_items.ensures
    ∙ ap (λ l. take c.args.shape.now.count (drop c.args.shape.now.first (items_in l))) (sym c.in-Scalar.is)

pub returns-in-Scalar-clause-sized : goal.returns-in-Scalar-clause-sized
unfolding items_in
returns-in-Scalar-clause-sized c =
    subst (λ (is : List Item). list_all is_sized is ≡ true) (sym c.run_of_items.ensures)
    (sized_run list.Scalar c.args.shape.now.first c.args.shape.now.count)

pub returns-in-Vector-clause-value : goal.returns-in-Vector-clause-value
unfolding items_of items_in
returns-in-Vector-clause-value c =
    c.run_of_items-in-Vector.ensures
    ∙ ap (λ l. take c.args.shape.now.count (drop c.args.shape.now.first (items_in l))) (sym c.in-Vector.is)

pub returns-in-Vector-clause-sized : goal.returns-in-Vector-clause-sized
unfolding items_in
returns-in-Vector-clause-sized c =
    subst (λ (is : List Item). list_all is_sized is ≡ true) (sym c.run_of_items-in-Vector.ensures)
    (sized_run list.Vector c.args.shape.now.first c.args.shape.now.count)

pub returns-in-Matrix-clause-value : goal.returns-in-Matrix-clause-value
unfolding items_of items_in
returns-in-Matrix-clause-value c =
    c.run_of_items-in-Matrix.ensures
    ∙ ap (λ l. take c.args.shape.now.count (drop c.args.shape.now.first (items_in l))) (sym c.in-Matrix.is)

pub returns-in-Matrix-clause-sized : goal.returns-in-Matrix-clause-sized
unfolding items_in
returns-in-Matrix-clause-sized c =
    subst (λ (is : List Item). list_all is_sized is ≡ true) (sym c.run_of_items-in-Matrix.ensures)
    (sized_run list.Matrix c.args.shape.now.first c.args.shape.now.count)
